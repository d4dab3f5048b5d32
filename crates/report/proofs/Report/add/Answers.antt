-- `report::Report::add` meets its contract.
use mathlib.Core.Path.{ap, ◌∙◌}
use native.Mathlib.Omega.{arith}
use Rattle.report.specs.Report.{refused_line}
use Rattle.report.proofs.LineLaws.{one_more, no_more}
use Rattle.report.proofs.Report.add.Goals as goal

pub returns-then-at-ge-MAX_SETS : goal.returns-then-at-ge-MAX_SETS
returns-then-at-ge-MAX_SETS c = no_more c.args.self c.args.set.now _ (omega arith) (c.refused_line.ensures ∙ ap refused_line c.number.ensures)

pub returns : goal.returns
returns c = one_more c.args.self c.args.set.now _ (omega arith) c.line_of-line.ensures
