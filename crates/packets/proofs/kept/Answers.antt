-- `packets::kept` meets its contract.
use mathlib.Core.Path.{◌∙◌}
use Rattle.packets.proofs.KeptLaws.{kept-written}
use Rattle.packets.proofs.kept.Goals as goal

pub returns : goal.returns
returns g c = c.write_bytes.ensures.out_after ∙ kept-written g.row.N c.args.bytes.now _ c.min-len.ensures
