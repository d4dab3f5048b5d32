-- `two_sets::marks::next_mark` meets its contract.
use Rattle.two_sets.specs.Marks.{left_of}
use Rattle.two_sets.proofs.MarkLaws.{Passing}
use Rattle.two_sets.proofs.marks.next_mark.Given as goal

abbrev pub invariant-loop-left : goal.invariant-loop-left
invariant-loop-left g l = Passing g.O.Operation.op l.first l.second l.initial.left l.left

abbrev pub decreases-loop-left : goal.decreases-loop-left
decreases-loop-left g l = left_of l.left
