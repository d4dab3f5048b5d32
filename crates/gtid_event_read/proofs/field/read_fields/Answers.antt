-- `gtid_event_read::field::read_fields` meets its contract.
-- Assumes nothing.
use mathlib.Core.Path.{◌∙◌}
use native.Mathlib.Omega.{arith}
use Rattle.misc.proofs.ParseLaws.{handed-on}
use Rattle.gtid_event_read.proofs.FieldLaws.{field-forward, fields-start, fields-next, fields-stop, fields-end}
use Rattle.gtid_event_read.proofs.field.read_fields.Goals as goal

pub loop-at-init : goal.loop-at-init
loop-at-init c = rw c.none-fields.ensures (fields-start c.args.last_non_ignorable_field_id c.args.s.now)

pub returns-in_err-at : goal.returns-in_err-at
returns-in_err-at c =
    handed-on _ c.from_residual.ensures ∙ rw (fields-stop _ _ _ _ c.loop-at.invariant c.loop-at-test.true c.in_err-at.ensures)

pub loop-at-smaller : goal.loop-at-smaller
loop-at-smaller c =
    omega (arith, field-forward c.args.s.now c.args.last_non_ignorable_field_id c.loop-at.fields c.loop-at.at c.in_ok-at.ensures)

pub loop-at-preserved : goal.loop-at-preserved
loop-at-preserved c = fields-next _ _ _ _ c.loop-at.invariant c.loop-at-test.true c.in_ok-at.ensures

pub returns : goal.returns
returns c = rw (fields-end _ _ _ _ c.loop-at.invariant c.loop-at-test.false)
