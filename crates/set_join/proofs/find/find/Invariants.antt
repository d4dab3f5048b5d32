-- `set_join::find::find` meets its contract.
use mathlib.Core.List.{◌++◌}
use Rattle.set_join.proofs.FindLaws.{Passed}
use Rattle.set_join.proofs.find.find.Given as goal

abbrev pub invariant-loop-done : goal.invariant-loop-done
invariant-loop-done l = Passed l.set l.initial.rest.tagged l.initial.rest.left (l.key.uuid.now ++ l.key.tag.now) l.done l.rest
