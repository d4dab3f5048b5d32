-- `gtid_event_read::sends_id` meets its contract.
-- Assumes nothing.
use borrow.Author.Tests.{eq-eqb, ne_eqb}
use Rattle.misc.specs.Mark.{has_bit}
use Rattle.gtid_event_read.proofs.sends_id.Goals as goal

pub returns-then-event_type-eq-GTID_TAGGED_LOG_EVENT : goal.returns-then-event_type-eq-GTID_TAGGED_LOG_EVENT
unfolding has_bit
returns-then-event_type-eq-GTID_TAGGED_LOG_EVENT c = rw (eq-eqb c.args.event_type 42 c.if-event_type-eq-GTID_TAGGED_LOG_EVENT.true)

pub returns : goal.returns
returns c = rw (ne_eqb c.args.event_type 42 c.if-event_type-eq-GTID_TAGGED_LOG_EVENT.false)
