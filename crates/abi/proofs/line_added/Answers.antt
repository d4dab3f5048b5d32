-- `abi::line_added` meets its contract.
use mathlib.Core.Path.{sym, ap, ◌∙◌}
use Rattle.report.specs.Report.{refused_line}
use Rattle.abi.proofs.FlatReportLaws.{adds_none, kept-told}
use Rattle.abi.proofs.line_added.Goals as goal

pub returns-in-Ok : goal.returns-in-Ok
returns-in-Ok c =
    let (line, report) = kept-told c.args.report.now c.args.set.now c.in-Ok.ensures _ c.line_of-line.ensures _ c.keep_line.ensures in
    record { value = line; report_after = report }

pub returns-in-Err : goal.returns-in-Err
returns-in-Err c =
    let (line, still) = adds_none c.args.report.now c.args.set.now c.in-Err.ensures in
    record { value = c.refused_line.ensures ∙ ap refused_line c.number.ensures ∙ sym line; report_after = sym still }
