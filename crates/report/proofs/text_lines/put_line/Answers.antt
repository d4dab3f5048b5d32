-- `report::text_lines::put_line` meets its contract.
use native.Mathlib.Omega.{arith}
use Rattle.report.proofs.TextLaws.{set-put, refused-put}
use Rattle.report.proofs.text_lines.put_line.Goals as goal

pub returns-then-line-eq0 : goal.returns-then-line-eq0
returns-then-line-eq0 c = set-put c.args.line (omega arith) _ c.counts.ensures c.put_counts.ensures

pub returns : goal.returns
returns c = refused-put c.args.line c.if-line-eq0.false c.put_refused.ensures
