-- `gtid_event_write::write::length` meets its contract.
use mathlib.Core.Path.{sym, ap, ◌∙◌}
use lib.ListN.{length}
use Rattle.gtid_event_write.proofs.WritableLaws.{as-tagged}
use Rattle.gtid_event_write.proofs.WriteLaws.{bytes-tagged, bytes-untagged, length-able, length-refused}
use Rattle.gtid_event_write.proofs.write.length.Goals as goal

pub returns-then-not-is_writable : goal.returns-then-not-is_writable
returns-then-not-is_writable c = length-refused _ (sym c.is_writable.ensures ∙ c.if-not-is_writable.true)

pub len_tagged_v2-requires : goal.len_tagged_v2-requires
len_tagged_v2-requires c = as-tagged c.args.event (sym c.is_writable.ensures ∙ c.if-not-is_writable.false) (sym c.is_tagged.ensures ∙ c.if-is_tagged.true)

pub returns-then-is_tagged : goal.returns-then-is_tagged
returns-then-is_tagged c =
    length-able c.args.event (sym c.is_writable.ensures ∙ c.if-not-is_writable.false) _
    (c.len_tagged_v2.ensures ∙ ap length (bytes-tagged c.args.event (sym c.is_tagged.ensures ∙ c.if-is_tagged.true)))

pub returns : goal.returns
returns c =
    length-able c.args.event (sym c.is_writable.ensures ∙ c.if-not-is_writable.false) _
    (c.len_untagged.ensures ∙ ap length (bytes-untagged c.args.event (sym c.is_tagged.ensures ∙ c.if-is_tagged.false)))
