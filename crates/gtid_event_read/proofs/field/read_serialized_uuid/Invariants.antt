-- `gtid_event_read::field::read_serialized_uuid` meets its contract: the loop's invariant is that the whole uuid is what is done, and then the rest.
-- Assumes nothing.
use mathlib.Core.Path.{◌≡◌}
use lib.ListN.{length, take}
use Rattle.misc.proofs.Walk.{SoFar}
use Rattle.gtid_event_read.specs.Fields.{limited_at, uuid_at}
use Rattle.gtid_event_read.proofs.FieldLaws.{uuid_after}
use Rattle.gtid_event_read.proofs.field.read_serialized_uuid.Given as goal

abbrev pub invariant-loop-b : goal.invariant-loop-b
invariant-loop-b l =
    (length l.b-items ≡ 16) × SoFar uuid_after (limited_at 255 l.s) 16 (uuid_at l.s l.at) (take l.b-index l.b-items) l.next l.b-index
