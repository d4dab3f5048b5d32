use mathlib.Core.Path.{◌≡◌, ◌∙◌}
use lib.ListN.{length}
use Rattle.std.proofs.Common.{rules}
use Rattle.std.specs.Prelude.{sum, map}
use Rattle.report.specs.Text.{line_text}
use Rattle.report.specs.declared.Line.{Line}
use Rattle.report.proofs.SumLaws.{lines-long}
use Rattle.report.proofs.text_lines.lines_len.Goals as goal

pub returns : goal.returns
returns c =
    let long : c.sum.result ≡ sum (map (λ (l : Line). length (line_text l)) c.args.lines.now) = search rules in
    long ∙ lines-long c.args.lines.now
