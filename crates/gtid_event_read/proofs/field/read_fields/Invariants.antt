-- `gtid_event_read::field::read_fields` meets its contract: the loop's invariant is `FieldsSoFar`: all fields are what those still to come
-- make of what is known.
-- Assumes nothing.
use Prim.Native.Nat.{◌-◌}
use lib.ListN.{length}
use Rattle.gtid_event_read.proofs.FieldLaws.{FieldsSoFar}
use Rattle.gtid_event_read.proofs.field.read_fields.Given as goal

abbrev pub invariant-loop-at : goal.invariant-loop-at
invariant-loop-at l = FieldsSoFar l.last_non_ignorable_field_id l.s l.fields l.at

abbrev pub decreases-loop-at : goal.decreases-loop-at
decreases-loop-at l = length l.s - l.at
