-- `report::Report::write` meets its contract.
use mathlib.Core.Path.{refl, ◌∙◌}
use native.Mathlib.Omega.{arith}
use borrow.Author.Rules.{rules}
use Rattle.report.proofs.TextLaws.{report-short, report-fits}
use Rattle.misc.proofs.Clauses.{both}
use Rattle.report.proofs.Report.write.Goals as goal

pub returns-then-out-len : goal.returns-then-out-len
returns-then-out-len c = both (rw c.kept-lines.ensures at
    (report-short _ _ c.sum_of-sum.ensures _ _ c.lines_len.ensures c.counts_len.ensures.0 c.args.out.now (omega arith)))

pub returns : goal.returns
returns c =
    let lines = c.put_lines.ensures in
    let sums = c.put_counts.ensures in
    let (told, left) = rw c.kept-lines.ensures at
    (report-fits _ _ c.sum_of-sum.ensures _ _ c.lines_len.ensures c.counts_len.ensures.0 c.args.out.now (omega arith) refl refl lines sums) in
    both (told, search (rules, lines.same, sums.same) ∙ left)
