-- `gtid_event_read::read` meets its contract.
-- Assumes nothing.
use native.Mathlib.Omega.{arith}
use Rattle.gtid_event_read.proofs.ReadLaws.{seen-too-long, seen-untagged, seen-42, seen_other}
use Rattle.gtid_event_read.proofs.read.Goals as goal

pub returns-then-body-gt-MAX_BODY : goal.returns-then-body-gt-MAX_BODY
returns-then-body-gt-MAX_BODY c = rw (seen-too-long c.args.event_type c.args.body.now c.if-body-gt-MAX_BODY.true)

pub returns-in-42 : goal.returns-in-42
returns-in-42 c = rw (seen-42 c.args.event_type c.args.body.now c.if-body-gt-MAX_BODY.false c.in-42.is) c.deserialize_tagged.ensures

pub returns-in-33 : goal.returns-in-33
returns-in-33 c =
    rw (seen-untagged c.args.event_type c.args.body.now c.if-body-gt-MAX_BODY.false (omega arith) (omega arith)) c.deserialize_untagged.ensures

pub returns-in_default : goal.returns-in_default
returns-in_default c =
    rw (seen_other c.args.event_type c.args.body.now c.if-body-gt-MAX_BODY.false (λ l h. omega arith) (λ e. omega arith))

pub returns-in_default-2 : goal.returns-in_default-2
returns-in_default-2 c =
    rw (seen_other c.args.event_type c.args.body.now c.if-body-gt-MAX_BODY.false (λ l h. omega arith) (λ e. omega arith))
