use native.Mathlib.Omega.{arith}
use Rattle.text.proofs.PuttingLaws.{putting-all, putting-turn}
use Rattle.report.specs.Report.{refused_line}
use Rattle.report.proofs.TextLaws.{no_lines, more-lines}
use Rattle.report.proofs.text_lines.put_lines.Goals as goal

pub loop-line-preserved : goal.loop-line-preserved
loop-line-preserved c =
    let l = c.loop-line in
    let text = more-lines c.args.lines.now l.line-index (refused_line 0) c.loop-line-test.true in
    putting-turn l.invariant _ _ text _ c.put_line.ensures

pub returns : goal.returns
returns c = putting-all c.loop-line.invariant (no_lines c.args.lines.now c.loop-line.line-index (omega arith))
