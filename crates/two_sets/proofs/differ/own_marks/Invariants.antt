-- `two_sets::differ::own_marks` meets its contract.
use Rattle.two_sets.specs.Marks.{left_of}
use Rattle.two_sets.proofs.DifferLaws.{Seeing}
use Rattle.two_sets.proofs.differ.own_marks.Given as goal

abbrev pub invariant-loop-left : goal.invariant-loop-left
invariant-loop-left l = Seeing l.first l.second l.initial.left l.initial.own l.left l.own

abbrev pub decreases-loop-left : goal.decreases-loop-left
decreases-loop-left l = left_of l.left
