-- `gtid_report::main` is safe: both rooms are enough.
use native.Mathlib.Omega.{arith}
use Rattle.gtid_sets.proofs.LimitLaws.{longest_set-is}
use Rattle.gtid_report.proofs.ProgramLaws.{longest_report-is}
use Rattle.gtid_report.proofs.main.Goals as goal

pub report_input-requires : goal.report_input-requires
report_input-requires c = omega (arith, longest_set-is, longest_report-is)
