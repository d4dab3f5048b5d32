-- `report::text_lines::put_lines` meets its contract.
use lib.ListN.{drop}
use Rattle.text.proofs.PuttingLaws.{Putting}
use Rattle.report.specs.Text.{lines_text}
use Rattle.report.proofs.text_lines.put_lines.Given as goal

abbrev pub invariant-loop-line : goal.invariant-loop-line
invariant-loop-line l = Putting (lines_text l.lines) l.initial.put (lines_text (drop l.line-index l.lines)) l.put
