-- `report::line_of` meets its contract.
use mathlib.Core.Path.{sym, ap, ◌∙◌}
use native.Mathlib.Omega.{arith}
use Rattle.gtid_sets.specs.Total.{total}
use Rattle.gtid_sets.proofs.LimitLaws.{max_entries-is, max_intervals-is}
use Rattle.set_check.specs.Cursor.{entries_left}
use Rattle.set_check.specs.declared.Cursor.{Cursor}
use Rattle.report.proofs.WideLaws.{words}
use Rattle.report.proofs.LineLaws.{line_set, few-entries, few-intervals, line_made}
use Rattle.report.proofs.line_of.Goals as goal

pub ids_in-ids-requires-clause-cursor_is : goal.ids_in-ids-requires-clause-cursor_is
ids_in-ids-requires-clause-cursor_is c = rw c.entries_of.ensures (line_set c.args.set.now c.in-Ok.checked (sym c.in-Ok.is ∙ c.check.ensures))

pub ids_in-ids-requires-clause-left_le_max_entries : goal.ids_in-ids-requires-clause-left_le_max_entries
ids_in-ids-requires-clause-left_le_max_entries c =
    rw c.entries_of.ensures (few-entries c.args.set.now c.in-Ok.checked (sym c.in-Ok.is ∙ c.check.ensures))

pub overflow_cast-result : goal.overflow_cast-result
overflow_cast-result c =
    record { fits = omega (arith, few-entries c.args.set.now c.in-Ok.checked (sym c.in-Ok.is ∙ c.check.ensures), max_entries-is) }

pub overflow_cast-result-2 : goal.overflow_cast-result-2
overflow_cast-result-2 c =
    record { fits = omega (arith, few-intervals c.args.set.now c.in-Ok.checked (sym c.in-Ok.is ∙ c.check.ensures), max_intervals-is) }

pub overflow_cast-result-3 : goal.overflow_cast-result-3
overflow_cast-result-3 c = record { fits = omega (arith, c.high_word.ensures, words c.ids_in-ids.result, c.ids_in-ids.ensures.1) }

pub returns : goal.returns
returns c =
    line_made c.args.set.now c.in-Ok.checked (sym c.in-Ok.is ∙ c.check.ensures) c.ids_in-ids.result _ _
    (c.ids_in-ids.ensures.0 ∙ ap (λ (x : Cursor). total (entries_left c.args.set.now x)) c.entries_of.ensures)
    c.high_word.ensures c.low_word.ensures
