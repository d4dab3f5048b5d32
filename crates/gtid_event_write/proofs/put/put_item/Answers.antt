-- `gtid_event_write::put::put_item` meets its contract.
use native.Mathlib.Omega.{arith}
use Rattle.misc.proofs.PutLaws.{◌and◌, puts-fit}
use Rattle.gtid_event_write.proofs.PutLaws.{with-bytes, two_bytes}
use Rattle.gtid_event_write.proofs.put.put_item.Goals as goal

pub returns : goal.returns
returns c = with-bytes (two_bytes c.args.b (omega arith) (omega arith)) (puts-fit c.byte.ensures and puts-fit c.byte-2.ensures)
