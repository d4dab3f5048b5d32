-- `set_join::put::put_widened` meets its contract.
use native.Mathlib.Omega.{arith}
use Rattle.set_join.proofs.PutLaws.{widening-all, widening-turn}
use Rattle.set_join.proofs.put.put_widened.Goals as goal

pub loop-preserved : goal.loop-preserved
loop-preserved c =
    let l = c.loop in
    rw c.beyond-rest.ensures (record {
      counts = omega (arith, l.invariant.counts);
      widening = widening-turn c.args.set.now _ _ l.rest _ l.invariant.widening c.entry_here-entry.result (omega (arith, l.invariant.counts))
          c.entry_here-entry.ensures _ c.put_wider.ensures;
    })

pub returns : goal.returns
returns c =
    let l = c.loop in
    widening-all c.args.set.now _ _ l.rest _ l.invariant.widening (omega (arith, l.invariant.counts))
