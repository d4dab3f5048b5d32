-- `gtid_event_read::untagged::read_tx_length` meets its contract.
-- Assumes nothing.
use native.Mathlib.Omega.{arith}
use Rattle.gtid_event_read.specs.Untagged.{length_at}
use Rattle.gtid_event_read.proofs.UntaggedLaws.{left-absent, left_there}
use Rattle.gtid_event_read.proofs.untagged.read_tx_length.Goals as goal

pub returns-then-left_at-lt1 : goal.returns-then-left_at-lt1
unfolding length_at
returns-then-left_at-lt1 c = rw (left-absent 1 c.args.s.now c.args.at _ _ (omega arith))

pub returns : goal.returns
unfolding length_at
returns c = rw (left_there 1 c.args.s.now c.args.at _ _ (omega arith)) c.read_lenenc_int.ensures
