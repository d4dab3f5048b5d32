-- `set_intervals::splice_in` meets its contract.
use Prim.Native.Nat.{◌≤◌}
use borrow.Author.Rules.{rules}
use native.Mathlib.Omega.{arith}
use lib.ListN.{length}
use Rattle.set_intervals.specs.Intervals.{intervals_in}
use Rattle.set_intervals.proofs.Standing.{left-count}
use Rattle.set_intervals.proofs.Walks.{earlier-few, before-inside, splice-made}
use Rattle.set_intervals.proofs.splice_in.Goals as goal

pub offset_bounds-chunks-before : goal.offset_bounds-chunks-before
offset_bounds-chunks-before c =
    let few : c.earlier_in-before.result ≤ length (intervals_in c.args.intervals.now) = rw c.earlier_in-before.ensures (earlier-few _ _) in
    record { fits = omega (arith, few, left-count c.args.intervals.now 0) }

pub slice_bounds-rest-count : goal.slice_bounds-rest-count
slice_bounds-rest-count c = before-inside _ _ c.args.a _ c.chunks.ensures c.earlier_in-before.ensures

pub slice_bounds-rest-start : goal.slice_bounds-rest-start
slice_bounds-rest-start c = let inside = before-inside _ _ c.args.a _ c.chunks.ensures c.earlier_in-before.ensures in search rules

pub returns : goal.returns
returns c = splice-made c.chunks.result.now _ c.args.a c.args.b _ _ _ c.chunks.ensures c.earlier_in-before.ensures c.start_from.ensures c.reach_from-reach.ensures
