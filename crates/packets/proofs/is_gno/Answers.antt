-- `packets::is_gno` meets its contract.
use borrow.Author.Rules.{rules}
use Rattle.packets.specs.Gno.{gno_top}
use Rattle.packets.proofs.is_gno.Goals as goal

pub returns : goal.returns
unfolding gno_top
returns c = search rules
