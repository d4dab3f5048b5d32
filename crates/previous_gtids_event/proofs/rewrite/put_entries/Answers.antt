use Prim.Native.Nat.{suc, ◌+◌, ◌-◌}
use native.Mathlib.Omega.{arith}
use mathlib.Core.Path.{◌≡◌}
use Rattle.previous_gtids_event.proofs.Rewriting.{put_whole, put_next, put-done}
use Rattle.previous_gtids_event.proofs.rewrite.put_entries.Goals as goal

pub put_entry-from-requires : goal.put_entry-from-requires
put_entry-from-requires c = let n = c.args.header.entries in
    let one : n - c.loop.counter ≡ suc (n - (c.loop.counter + 1)) = omega arith in
    put_whole (rw one at c.loop.invariant)

pub loop-preserved : goal.loop-preserved
loop-preserved c = let n = c.args.header.entries in
    let one : n - c.loop.counter ≡ suc (n - (c.loop.counter + 1)) = omega arith in
    put_next (rw one at c.loop.invariant) c.put_entry-from.ensures.next_value c.put_entry-from.ensures.where_fits

pub returns : goal.returns
returns c = let none : c.args.header.entries - c.loop.counter ≡ 0 = omega arith in
    put-done (rw none at c.loop.invariant)
