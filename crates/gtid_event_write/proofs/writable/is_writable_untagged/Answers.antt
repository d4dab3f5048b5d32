-- `gtid_event_write::writable::is_writable_untagged` meets its contract.
use Rattle.gtid_event_write.proofs.writable.is_writable_untagged.Goals as goal

pub returns : goal.returns
returns c = rw c.is_later_absent.ensures
