-- `gtid_event_write::put::put_serialized_uuid` meets its contract.
use native.Mathlib.Omega.{arith}
use Rattle.gtid_event_write.proofs.PutLaws.{items-start, items-turn, items-end}
use Rattle.gtid_event_write.proofs.put.put_serialized_uuid.Goals as goal

pub loop-b-init : goal.loop-b-init
loop-b-init c = items-start c.args.sid _

pub loop-b-preserved : goal.loop-b-preserved
loop-b-preserved c = items-turn c.args.sid c.loop-b.b-index (omega arith) c.loop-b.invariant c.put_item.ensures

pub returns : goal.returns
returns c = items-end _ c.loop-b.b-index (omega arith) c.loop-b.invariant
