-- `gtid_event_read::tagged::read_payload` meets its contract.
-- Assumes nothing.
use Prim.Native.Nat.{◌-◌}
use Rattle.misc.specs.Parse.{part}
use Rattle.misc.proofs.Bounds.{part_bytes}
use Rattle.misc.proofs.ParseLaws.{answered-ok}
use Rattle.gtid_event_read.proofs.FieldRanges.{fields-in-range}
use Rattle.gtid_event_read.proofs.tagged.read_payload.Goals as goal

pub finished-requires : goal.finished-requires
finished-requires c =
    let a = c.args in
    let size = a.payload_size - a.start in
    let (fields, at, e, same) = answered-ok _ _ c.in_ok-fields.ensures in
    rw same
    (fields-in-range a.last_non_ignorable_field_id (part a.body.now a.start size)
    (part_bytes a.body.now a.start size (λ i. (c.type_inv.body i).fits)) e)
