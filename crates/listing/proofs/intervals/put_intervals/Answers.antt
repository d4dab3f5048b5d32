use native.Mathlib.Omega.{arith}
use Rattle.misc.proofs.PutLaws.{puts-fit}
use Rattle.text.proofs.PuttingLaws.{putting-all, putting-turn}
use Rattle.listing.proofs.IntervalTextLaws.{all_ahead, none_ahead, next-text}
use Rattle.listing.proofs.intervals.put_intervals.Goals as goal

pub loop-i-preserved : goal.loop-i-preserved
loop-i-preserved c =
    let a = c.args in
    let text = next-text a.set.now a.first a.count c.loop-i.i (omega arith) _ _ c.number_at.ensures c.number_at-in-loop-i.ensures in
    putting-turn c.loop-i.invariant _ _ text _ (puts-fit c.put_interval.ensures)

pub returns : goal.returns
returns c = let a = c.args in
    rw (all_ahead a.set.now a.first a.count) at (putting-all c.loop-i.invariant (none_ahead a.set.now a.first a.count {i = c.loop-i.i} (omega arith)))
