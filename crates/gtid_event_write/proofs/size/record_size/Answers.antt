-- `gtid_event_write::size::record_size` meets its contract.
use native.Mathlib.Omega.{arith}
use Rattle.gtid_event_write.proofs.SizeLaws.{payload-one, payload-two}
use Rattle.gtid_event_write.proofs.size.record_size.Goals as goal

pub returns-then-fields-lt125 : goal.returns-then-fields-lt125
returns-then-fields-lt125 c = (payload-one _ (omega arith), omega arith)

pub returns : goal.returns
returns c = (payload-two _ (omega arith) (omega arith), omega arith)
