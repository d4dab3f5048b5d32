-- `two_sets::write::put_key` meets its contract.
use mathlib.Core.Path.{◌≡◌}
use borrow.Author.Rules.{rules}
use Rattle.misc.proofs.PutLaws.{puts-fit}
use Rattle.two_sets.proofs.write.put_key.Goals as goal

pub returns : goal.returns
returns c = let left : c.out-1.given.0 ≡ c.put_head.new.put.out.now = search (rules, c.put_head.ensures.same) in
    rw (← c.piece-uuid.ensures, ← c.piece-tag.ensures, left) (record { placed = (puts-fit c.put_head.ensures).placed })
