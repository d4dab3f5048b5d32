-- `two_sets::marks::put_swept` meets its contract.
use mathlib.Core.Path.{◌≡◌}
use lib.ListN.{length}
use Rattle.two_sets.specs.Marks.{left_of}
use Rattle.two_sets.proofs.MarkLaws.{Putting}
use Rattle.two_sets.proofs.marks.put_swept.Given as goal

abbrev pub invariant-loop-next : goal.invariant-loop-next
invariant-loop-next g l =
    (length l.out ≡ length l.initial.out)
    × Putting g.O.Operation.op l.first l.second l.initial.left l.initial.out l.at l.left l.out l.count

abbrev pub decreases-loop-next : goal.decreases-loop-next
decreases-loop-next g l = left_of l.left
