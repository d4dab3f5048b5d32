-- `previous_gtids_event::rewrite::sizes_of` meets its contract.
use lib.ListN.{length}
use Prim.Native.Nat.{◌*◌, ◌≤◌}
use Rattle.misc.specs.Parse.{many}
use Rattle.misc.proofs.Walk.{SoFar}
use Rattle.previous_gtids_event.specs.Inside.{sizes_read}
use Rattle.previous_gtids_event.specs.Previous.{entry_at}
use Rattle.previous_gtids_event.proofs.Rewriting.{gathered, sizes_after}
use Rattle.previous_gtids_event.proofs.rewrite.sizes_of.Given as goal

abbrev pub invariant-loop : goal.invariant-loop
invariant-loop l = record {
  within : l.at ≤ length l.body;
  plain_within : l.plain ≤ l.at;
  full_within : l.full ≤ 2 * l.at;
  so_far : SoFar sizes_after (entry_at l.header.tagged l.body) l.header.entries
      (sizes_read (many (entry_at l.header.tagged l.body) l.header.entries 8)) (gathered l.tagged l.plain l.full) l.at l.counter;
}
