-- `gtid_event_write::tagged::put_envelope` meets its contract.
use Rattle.misc.proofs.PutLaws.{◌and◌, puts-fit}
use Rattle.gtid_event_write.proofs.tagged.put_envelope.Goals as goal

pub returns : goal.returns
returns c = puts-fit c.byte.ensures and c.put_item.ensures and c.put_small.ensures
