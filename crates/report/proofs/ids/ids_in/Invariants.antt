-- `report::ids::ids_in` meets its contract.
use Rattle.gtid_sets.specs.Total.{total}
use Rattle.set_check.specs.Cursor.{entries_left}
use Rattle.report.proofs.IdLaws.{Totalling}
use Rattle.report.proofs.ids.ids_in.Given as goal

abbrev pub invariant-loop-left : goal.invariant-loop-left
invariant-loop-left l = Totalling l.set (total (entries_left l.set l.initial.left)) l.ids l.left

abbrev pub decreases-loop-left : goal.decreases-loop-left
decreases-loop-left l = l.left.left
