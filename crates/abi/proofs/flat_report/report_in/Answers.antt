use mathlib.Core.Path.{ap}
use lib.ListN.{length}
use native.Mathlib.Omega.{arith}
use Rattle.report.specs.declared.Report.{Report}
use Rattle.abi.proofs.FlatReportLaws.{reading-none, reading-all, reading-turn, report-read}
use Rattle.abi.proofs.flat_report.report_in.Goals as goal

pub loop-i-init : goal.loop-i-init
loop-i-init c = (c.number_at.ensures, reading-none c.args.s.now _ (ap (λ (r : Report). length r.lines) c.new-report.ensures))

pub loop-i-preserved : goal.loop-i-preserved
loop-i-preserved c = let w = c.loop-i.invariant in
    (w.0, reading-turn c.args.s.now _ _ w.1 (omega arith) _ (omega arith) _ c.line_in.ensures)

pub returns : goal.returns
returns c = let s = c.args.s.now in
    let w = c.loop-i.invariant in
    report-read s _ _ w.0 (reading-all s _ _ w.1 (omega (arith, w.1.few)))
