-- `gtid_event_write::writable::is_kept` meets its contract.
use Rattle.gtid_event_write.proofs.writable.is_kept.Goals as goal

pub returns : goal.returns
returns c = rw c.cleared_beyond.ensures
