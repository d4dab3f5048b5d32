-- `gtid_event_write::write::write` meets its contract.
use mathlib.Core.Path.{sym, ◌∙◌}
use Rattle.misc.proofs.Clauses.{both}
use Rattle.gtid_event_write.proofs.WritableLaws.{as-tagged, as-untagged}
use Rattle.gtid_event_write.proofs.WriteLaws.{bytes-tagged, bytes-untagged, write-able, write-refused}
use Rattle.gtid_event_write.proofs.write.write.Goals as goal

pub returns-then-not-is_writable : goal.returns-then-not-is_writable
returns-then-not-is_writable c = both (write-refused _ (sym c.is_writable.ensures ∙ c.if-not-is_writable.true) _)

pub serialize_tagged_v2-requires : goal.serialize_tagged_v2-requires
serialize_tagged_v2-requires c =
    as-tagged c.args.event (sym c.is_writable.ensures ∙ c.if-not-is_writable.false) (sym c.is_tagged.ensures ∙ c.if-is_tagged.true)

pub returns-then-is_tagged : goal.returns-then-is_tagged
returns-then-is_tagged c =
    both (write-able _ (sym c.is_writable.ensures ∙ c.if-not-is_writable.false) _ (bytes-tagged _ (sym c.is_tagged.ensures ∙ c.if-is_tagged.true))
    (c.serialize_tagged_v2.ensures.value, c.serialize_tagged_v2.ensures.out_after))

pub serialize_untagged-requires : goal.serialize_untagged-requires
serialize_untagged-requires c =
    as-untagged c.args.event (sym c.is_writable.ensures ∙ c.if-not-is_writable.false) (sym c.is_tagged.ensures ∙ c.if-is_tagged.false)

pub returns : goal.returns
returns c =
    both (write-able _ (sym c.is_writable.ensures ∙ c.if-not-is_writable.false) _ (bytes-untagged _ (sym c.is_tagged.ensures ∙ c.if-is_tagged.false))
    (c.serialize_untagged.ensures.value, c.serialize_untagged.ensures.out_after))
