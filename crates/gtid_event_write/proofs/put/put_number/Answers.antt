-- `gtid_event_write::put::put_number` meets its contract.
use Rattle.misc.proofs.PutLaws.{◌and◌, puts-fit}
use Rattle.gtid_event_write.proofs.put.put_number.Goals as goal

pub returns : goal.returns
returns c = c.put_id.ensures and puts-fit c.varlen_uint.ensures
