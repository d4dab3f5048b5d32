-- `binlog_reader::Reader::settle` meets its contract.
use Rattle.binlog_reader.proofs.SettleLaws.{settled-spare, settled-set}
use Rattle.binlog_reader.proofs.Reader.settle.Goals as goal

pub returns-in-Ok-clause-set_after : goal.returns-in-Ok-clause-set_after
returns-in-Ok-clause-set_after c = let a = c.args in
    settled-set a.self.len a.event.event_type a.event.body.now a.set.now a.spare.now _ _ c.smaller-kept.ensures.0 c.smaller-room.ensures.0 _
    c.act.auto.out _ c.in-Ok.ensures _ c.write_bytes.ensures.out_after

pub returns-in-Ok-clause-spare_after : goal.returns-in-Ok-clause-spare_after
returns-in-Ok-clause-spare_after c = let a = c.args in
    settled-spare a.self.len a.event.event_type a.event.body.now a.set.now a.spare.now _ _ c.smaller-kept.ensures.0 c.smaller-room.ensures.0 _
    c.act.auto.out _ c.in-Ok.ensures
