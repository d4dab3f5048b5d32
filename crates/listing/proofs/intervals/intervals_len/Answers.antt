use native.Mathlib.Omega.{arith}
use Rattle.listing.proofs.IntervalTextLaws.{counting-turn, counting-all}
use Rattle.listing.proofs.intervals.intervals_len.Goals as goal

pub loop-i-preserved : goal.loop-i-preserved
loop-i-preserved c = let n = c.interval_len-len.ensures in
    counting-turn c.loop-i.invariant (omega arith) _ _ c.number_at.ensures c.number_at-in-loop-i.ensures _ n.0 n.1

pub returns : goal.returns
returns c = counting-all c.loop-i.invariant (omega arith)
