-- `previous_gtids_event::rewrite::put_entries` meets its contract.
use Prim.Native.Nat.{◌-◌}
use Rattle.misc.specs.Parse.{many}
use Rattle.previous_gtids_event.specs.Inside.{entries_bytes_of}
use Rattle.previous_gtids_event.specs.Previous.{entry_at}
use Rattle.previous_gtids_event.proofs.Rewriting.{PutSoFar}
use Rattle.previous_gtids_event.proofs.rewrite.put_entries.Given as goal

abbrev pub invariant-loop : goal.invariant-loop
invariant-loop l =
    PutSoFar (entry_at l.header.tagged l.body) l.tags (entries_bytes_of l.tags (many (entry_at l.header.tagged l.body) l.header.entries 8)) l.initial.put
    (l.header.entries - l.counter) l.from l.put
