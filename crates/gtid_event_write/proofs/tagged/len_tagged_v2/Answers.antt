-- `gtid_event_write::tagged::len_tagged_v2` meets its contract.
use Rattle.gtid_event_write.proofs.TaggedLaws.{size_is}
use Rattle.gtid_event_write.proofs.tagged.len_tagged_v2.Goals as goal

pub returns : goal.returns
returns c = size_is c.args.event c.write_tagged_fields_v2-len.ensures.0 _ c.record_size.ensures.0
