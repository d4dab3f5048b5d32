-- `abi::flat_report::report_in` meets its contract.
use mathlib.Core.Path.{◌≡◌}
use Rattle.misc.specs.Le.{number_at}
use Rattle.abi.proofs.FlatReportLaws.{Reading}
use Rattle.abi.proofs.flat_report.report_in.Given as goal

abbrev pub invariant-loop-i : goal.invariant-loop-i
invariant-loop-i l = (l.report.sets ≡ number_at l.s 0) × Reading l.s l.report.lines l.i
