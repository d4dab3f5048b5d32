-- `gtid_event_write::tagged::put_clock` meets its contract.
use native.Mathlib.Omega.{arith}
use Rattle.misc.proofs.PutLaws.{◌and◌}
use Rattle.gtid_event_write.specs.Layout.{clock_bytes}
use Rattle.gtid_event_write.proofs.WritableLaws.{tagged-fits}
use Rattle.gtid_event_write.proofs.tagged.put_clock.Goals as goal

pub overflow_mul-event : goal.overflow_mul-event
overflow_mul-event c = omega (arith, (tagged-fits c.args.event c.requires).last)

pub overflow_mul-event-2 : goal.overflow_mul-event-2
overflow_mul-event-2 c = omega (arith, (tagged-fits c.args.event c.requires).sequence)

pub returns : goal.returns
unfolding clock_bytes
returns c = c.put_number.ensures and c.put_number-2.ensures and c.put_number-3.ensures and c.put_unless.ensures
