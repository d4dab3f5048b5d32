-- `gtid_event_write::untagged::put_opening` meets its contract.
use Rattle.misc.proofs.PutLaws.{◌and◌, puts-fit}
use Rattle.gtid_event_write.specs.Layout.{opening_bytes}
use Rattle.gtid_event_write.proofs.untagged.put_opening.Goals as goal

pub returns : goal.returns
unfolding opening_bytes
returns c = puts-fit c.byte.ensures and puts-fit c.bytes.ensures and puts-fit c.u64_le.ensures
