-- `abi::gtid_report_sum` meets its contract.
use mathlib.Core.Path.{ap, ◌∙◌}
use native.Mathlib.Omega.{arith}
use Rattle.report.specs.Report.{lines_of, sum_of}
use Rattle.report.specs.declared.Report.{Report}
use Rattle.abi.proofs.FlatReportLaws.{sum-none, sum-there}
use Rattle.abi.proofs.gtid_report_sum.Goals as goal

as_clauses : {A B C D E : Type 0} → A × (B × (C × (D × E))) → record { value : A; entries_after : B; intervals_after : C; high_after : D; low_after : E }
as_clauses p = record { value = p.0; entries_after = p.1.0; intervals_after = p.1.1.0; high_after = p.1.1.1.0; low_after = p.1.1.1.1 }

pub returns-then-report-ne-REPORT_SIZE : goal.returns-then-report-ne-REPORT_SIZE
returns-then-report-ne-REPORT_SIZE c = as_clauses (rw c.number.ensures (sum-none c.args.report.now c.if-report-ne-REPORT_SIZE.true))

pub returns : goal.returns
returns c = as_clauses (let a = c.args in
    sum-there a.report.now (omega arith) _ (c.sum-sum.ensures ∙ ap (λ (r : Report). sum_of (lines_of r)) c.report_in.ensures))
