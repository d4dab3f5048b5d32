-- `gtid_event_read::field::read_serialized_uuid` meets its contract.
-- Assumes nothing.
use mathlib.Core.Path.{refl, ◌∙◌}
use native.Mathlib.Omega.{arith}
use lib.ListN.{length-set}
use Rattle.misc.proofs.ParseLaws.{handed-on, read-ok, read-err}
use Rattle.gtid_event_read.specs.Fields.{limited_at}
use Rattle.gtid_event_read.proofs.FieldLaws.{limited-parsed, uuid-start, uuid-turn, uuid-stops, uuid-done}
use Rattle.gtid_event_read.proofs.field.read_serialized_uuid.Goals as goal

pub loop-b-init : goal.loop-b-init
loop-b-init c = (refl, uuid-start c.args.s.now c.args.at)

pub returns-in_err-byte : goal.returns-in_err-byte
returns-in_err-byte c =
    let l = c.loop-b in
    handed-on _ c.from_residual.ensures
    ∙ rw (uuid-stops c.args.s.now c.args.at l.b-items l.next l.b-index l.invariant.0 l.invariant.1 (omega arith)
    (read-err (limited_at 255 c.args.s.now l.next) c.in_err-byte.ensures))

pub overflow_cast-b : goal.overflow_cast-b
overflow_cast-b c = omega (arith, (limited-parsed 255 c.args.s.now c.loop-b.next _ _ (read-ok _ c.in_ok-byte.ensures)).1)

pub loop-b-preserved : goal.loop-b-preserved
loop-b-preserved c =
    let l = c.loop-b in (
      simp length-set l.invariant.0,
      uuid-turn c.args.s.now c.args.at l.b-items l.next l.b-index l.invariant.0 l.invariant.1 (omega arith) _ _ (read-ok _ c.in_ok-byte.ensures),
    )

pub returns : goal.returns
returns c =
    let l = c.loop-b in
    rw (uuid-done c.args.s.now c.args.at l.b-items l.next l.b-index l.invariant.0 l.invariant.1 (omega arith))
