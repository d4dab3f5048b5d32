-- `set_check::check::check` meets its contract.
use mathlib.Core.Path.{◌≡◌, ap, ◌∙◌}
use Rattle.std.specs.Prelude.{Err}
use Rattle.misc.specs.Refusal.{not_a_set}
use Rattle.misc.proofs.ParseLaws.{handed-on}
use Rattle.set_check.proofs.CheckLaws.{check-headless, check-broken, check-whole}
use Rattle.set_check.proofs.check.check.Goals as goal

pub returns-in_err-entries : goal.returns-in_err-entries
returns-in_err-entries c =
    let none = c.in_err-entries.ensures.ok_part in
    let said = rw none at c.in_err-entries.ensures.value in
    let why : c.in_err-entries.field-0.0 ≡ not_a_set = cc in
    handed-on _ c.from_residual.ensures ∙ ap Err why ∙ (check-headless c.args.set.now (rw none at c.header_at.ensures))

pub returns-in_err-intervals : goal.returns-in_err-intervals
returns-in_err-intervals c =
    let header = rw c.in_ok-entries.ensures.ok_part at c.header_at.ensures in
    let none = c.in_err-intervals.ensures.ok_part in
    let said = rw none at c.in_err-intervals.ensures.value in
    let why : c.in_err-intervals.field-0.0 ≡ not_a_set = cc in
    handed-on _ c.from_residual-in_err-intervals.ensures ∙ ap Err why ∙ (check-broken c.args.set.now _ header (rw none at c.check_entries.ensures))

pub returns : goal.returns
returns c =
    let header = rw c.in_ok-entries.ensures.ok_part at c.header_at.ensures in
    let whole = rw c.in_ok-intervals.ensures.ok_part at c.check_entries.ensures in
    check-whole c.args.set.now _ header _ whole
