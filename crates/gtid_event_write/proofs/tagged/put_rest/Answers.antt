-- `gtid_event_write::tagged::put_rest` meets its contract.
use Rattle.misc.proofs.PutLaws.{◌and◌}
use Rattle.gtid_event_write.specs.Layout.{rest_bytes}
use Rattle.gtid_event_write.proofs.tagged.put_rest.Goals as goal

pub returns : goal.returns
unfolding rest_bytes
returns c = c.put_number.ensures and c.put_number-2.ensures and c.put_unless.ensures and c.put_unless-2.ensures
