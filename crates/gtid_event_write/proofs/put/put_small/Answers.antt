-- `gtid_event_write::put::put_small` meets its contract.
use mathlib.Core.Path.{sym}
use Rattle.misc.proofs.PutLaws.{puts-fit}
use Rattle.misc.proofs.VarlenLaws.{one_byte}
use Rattle.gtid_event_write.proofs.PutLaws.{with-bytes}
use Rattle.gtid_event_write.proofs.put.put_small.Goals as goal

pub returns : goal.returns
returns c = with-bytes (sym (one_byte _ c.requires)) (puts-fit c.byte.ensures)
