-- `abi::write_text` meets its contract.
use mathlib.Core.Path.{ap, ◌∙◌}
use native.Mathlib.Omega.{arith}
use Rattle.misc.specs.Output.{bytes, answer_of, output_of}
use Rattle.misc.proofs.Clauses.{both}
use Rattle.report.specs.Report.{lines_of}
use Rattle.report.specs.Text.{report_text}
use Rattle.report.specs.declared.Report.{Report}
use Rattle.abi.proofs.FlatReportLaws.{text-none, text-there}
use Rattle.abi.proofs.write_text.Goals as goal

pub returns-then-report-ne-REPORT_SIZE : goal.returns-then-report-ne-REPORT_SIZE
returns-then-report-ne-REPORT_SIZE c = both (text-none c.args.report.now c.if-report-ne-REPORT_SIZE.true c.args.out.now)

pub returns : goal.returns
returns c = both (let a = c.args in
    let is = c.report_in.ensures in
    text-there a.report.now (omega arith) a.out.now _ _ (
      c.write.ensures.value ∙ ap (λ (r : Report). answer_of a.out.now (bytes (report_text (lines_of r)))) is,
      c.write.ensures.out_after ∙ ap (λ (r : Report). output_of a.out.now (bytes (report_text (lines_of r)))) is,
    ))
