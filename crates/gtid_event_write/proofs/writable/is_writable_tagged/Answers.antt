-- `gtid_event_write::writable::is_writable_tagged` meets its contract.
use Rattle.gtid_event_write.specs.Writable.{signed_top}
use Rattle.gtid_event_write.proofs.writable.is_writable_tagged.Goals as goal

pub returns : goal.returns
unfolding signed_top
returns c = rw c.has_good_tag.ensures
