-- `report::text_lines::line_len` meets its contract.
use mathlib.Core.Path.{sym, ap, ◌∙◌}
use native.Mathlib.Omega.{arith}
use lib.ListN.{length}
use Rattle.report.specs.Text.{counts_text, set_word}
use Rattle.report.specs.declared.Counts.{Counts}
use Rattle.report.proofs.TextLaws.{set_line, refused-line}
use Rattle.report.proofs.text_lines.line_len.Goals as goal

pub returns-then-line-eq0 : goal.returns-then-line-eq0
returns-then-line-eq0 c =
    let said = c.counts_len.ensures in
    let text = ap (λ (x : Counts). length (counts_text set_word x)) c.counts.ensures in
    (said.0 ∙ text ∙ ap length (sym (set_line c.args.line (omega arith))), said.1)

pub returns : goal.returns
returns c =
    let said = c.refused_len.ensures in
    (said.0 ∙ ap length (sym (refused-line c.args.line c.if-line-eq0.false)), omega (arith, said.1))
