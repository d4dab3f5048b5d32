-- `gtid_event_write::tagged::serialize_tagged_v2` meets its contract.
use mathlib.Core.Path.{sym, ◌∙◌}
use native.Mathlib.Omega.{arith}
use lib.Seq.{length-take-le}
use Rattle.misc.proofs.OutputLaws.{output-short}
use Rattle.gtid_event_write.proofs.PutLaws.{wrote-all}
use Rattle.gtid_event_write.proofs.TaggedLaws.{size_is, whole-placed}
use borrow.Author.Rules.{rules}
use Rattle.misc.proofs.Clauses.{both}
use Rattle.gtid_event_write.proofs.tagged.serialize_tagged_v2.Goals as goal

pub returns-then-out-payload_size : goal.returns-then-out-payload_size
returns-then-out-payload_size c = both (output-short _ _ _ (size_is c.args.event c.write_tagged_fields_v2-len.ensures.0 _
    c.record_size-payload_size.ensures.0)
    c.if-out-payload_size.true)

pub slice_bounds-bytes-end : goal.slice_bounds-bytes-end
slice_bounds-bytes-end c = sym (length-take-le _ _ (search rules))

pub returns : goal.returns
returns c =
    let e = c.args.event in
    let fields = c.write_tagged_fields_v2-len.ensures in
    let size = c.record_size-payload_size.ensures.0 in
    let envelope = c.put_envelope.ensures in
    let whole = whole-placed e fields.0 (omega (arith, fields.1)) size envelope c.bytes.ensures in
    let (told, left) = wrote-all _ (size_is e fields.0 _ size) (omega arith) whole in
    both (told, search (rules, envelope.same, c.bytes.ensures.same) ∙ left)
