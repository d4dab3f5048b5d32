-- `gtid_event_read::tagged::deserialize_tagged` meets its contract.
-- Assumes nothing.
use mathlib.Core.Path.{◌∙◌}
use Rattle.misc.specs.Varlen.{varlen_at}
use Rattle.misc.proofs.ParseLaws.{handed-on, read-ok, read-err}
use Rattle.gtid_event_read.specs.Tagged.{tagged}
use Rattle.gtid_event_read.proofs.TaggedLaws.{tagged-gone, tagged-other, version-here, tagged-here}
use Rattle.gtid_event_read.proofs.tagged.deserialize_tagged.Goals as goal

pub returns-then-body-lt1 : goal.returns-then-body-lt1
returns-then-body-lt1 c = rw (tagged-gone _ c.if-body-lt1.true)

pub returns-then-body-ne-TAGGED_SERIALIZATION_VERSION_V2 : goal.returns-then-body-ne-TAGGED_SERIALIZATION_VERSION_V2
returns-then-body-ne-TAGGED_SERIALIZATION_VERSION_V2 c =
    rw (tagged-other _ c.if-body-lt1.false c.if-body-ne-TAGGED_SERIALIZATION_VERSION_V2.true)

pub returns-in_err-payload_size : goal.returns-in_err-payload_size
unfolding tagged
returns-in_err-payload_size c =
    let s = c.args.body.now in
    handed-on _ c.from_residual.ensures
    ∙ rw (
      version-here s c.if-body-lt1.false c.if-body-ne-TAGGED_SERIALIZATION_VERSION_V2.false,
      read-err (varlen_at s 1) c.in_err-payload_size.ensures,
    )

pub returns-in_err-last_non_ignorable_field_id : goal.returns-in_err-last_non_ignorable_field_id
unfolding tagged
returns-in_err-last_non_ignorable_field_id c =
    let s = c.args.body.now in
    handed-on _ c.from_residual-in_err-last_non_ignorable_field_id.ensures
    ∙ rw (
      version-here s c.if-body-lt1.false c.if-body-ne-TAGGED_SERIALIZATION_VERSION_V2.false,
      read-ok (varlen_at s 1) c.in_ok-payload_size.ensures,
      read-err (varlen_at s c.in_ok-payload_size.payload_size.next) c.in_err-last_non_ignorable_field_id.ensures,
    )

pub returns : goal.returns
returns c =
    rw (tagged-here c.args.body.now c.if-body-lt1.false c.if-body-ne-TAGGED_SERIALIZATION_VERSION_V2.false
    (read-ok _ c.in_ok-payload_size.ensures) (read-ok _ c.in_ok-last_non_ignorable_field_id.ensures))
    c.read_payload.ensures
