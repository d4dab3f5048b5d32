-- `two_sets::write::put_combined` meets its contract.
use mathlib.Core.Path.{◌≡◌}
use lib.ListN.{length}
use Rattle.two_sets.specs.Pairs.{entries_of_both, combining}
use Rattle.two_sets.proofs.WriteLaws.{Making}
use Rattle.two_sets.proofs.write.put_combined.Given as goal

abbrev pub invariant-loop-left : goal.invariant-loop-left
invariant-loop-left g l =
    let op = g.O.Operation.op in
    (length l.out ≡ length l.initial.out)
    × Making op l.first l.second l.tags (combining op l.first l.second l.initial.left) l.initial.out l.left l.out l.made

abbrev pub decreases-loop-left : goal.decreases-loop-left
decreases-loop-left g l = entries_of_both l.left
