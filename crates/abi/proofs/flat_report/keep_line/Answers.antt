-- `abi::flat_report::keep_line` meets its contract.
use mathlib.Core.Path.{◌∙◌}
use native.Mathlib.Omega.{arith}
use borrow.Author.Rules.{rules}
use Rattle.abi.proofs.FlatReportLaws.{place-there, line_kept}
use Rattle.abi.proofs.flat_report.keep_line.Goals as goal

pub overflow_mul-put : goal.overflow_mul-put
overflow_mul-put c = record { fits = omega (arith, (place-there c.args.report.now c.requires).1, c.number_at-sets.ensures) }

pub overflow_add-put : goal.overflow_add-put
overflow_add-put c = record { fits = omega (arith, (place-there c.args.report.now c.requires).1, c.number_at-sets.ensures) }

pub overflow_add-sets : goal.overflow_add-sets
overflow_add-sets c = record { fits = omega (arith, (place-there c.args.report.now c.requires).1, c.number_at-sets.ensures) }

pub returns : goal.returns
returns c =
    let (size, few) = place-there c.args.report.now c.requires in
    let line = c.put_line.ensures in
    let count = c.u64_le.ensures in
    search (rules, line.same, count.same)
    ∙ line_kept c.args.line c.number_at-sets.result size c.number_at-sets.ensures (omega (arith, few, c.number_at-sets.ensures)) line count
