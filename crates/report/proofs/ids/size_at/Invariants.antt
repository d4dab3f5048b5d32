-- `report::ids::size_at` meets its contract.
use Rattle.report.proofs.IdLaws.{Sizing}
use Rattle.report.proofs.ids.size_at.Given as goal

abbrev pub invariant-loop-i : goal.invariant-loop-i
invariant-loop-i l = Sizing l.set l.first l.count l.ids l.i
