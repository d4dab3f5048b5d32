-- `two_sets::differ::own_ids` meets its contract.
use Rattle.two_sets.specs.Pairs.{entries_of_both}
use Rattle.two_sets.proofs.DifferLaws.{Walking}
use Rattle.two_sets.proofs.differ.own_ids.Given as goal

abbrev pub invariant-loop-left : goal.invariant-loop-left
invariant-loop-left l = Walking l.first l.second l.initial.left l.initial.own l.left l.own

abbrev pub decreases-loop-left : goal.decreases-loop-left
decreases-loop-left l = entries_of_both l.left
