-- `gtid_report::read_all` meets its contract: what it carries is always a report over files.
use Rattle.gtid_report.specs.Program.{Built}
use Rattle.gtid_report.proofs.read_all.Given as goal

abbrev pub invariant-loop : goal.invariant-loop
invariant-loop l = Built l.report
