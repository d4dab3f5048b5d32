-- `set_join::take_in::join_body` meets its contract.
use Prim.Native.Nat.{◌-◌}
use mathlib.Core.Path.{◌≡◌}
use lib.ListN.{length}
use Rattle.previous_gtids_event.specs.Previous.{previous}
use Rattle.gtid_sets.specs.TakeIn.{union}
use Rattle.set_check.specs.SetOf.{entries_of}
use Rattle.set_join.specs.TakeIn.{held_set, widest}
use Rattle.set_join.proofs.FoldLaws.{Folding}
use Rattle.set_join.proofs.take_in.join_body.Given as goal

abbrev pub invariant-loop : goal.invariant-loop
invariant-loop l =
    let s = held_set l.initial.held l.initial.set in
    record {
      kept : length l.held ≡ length l.initial.held;
      spare_kept : length l.spare ≡ length l.initial.spare;
      folding : Folding l.body l.header.tagged (widest s) (union (entries_of (previous l.body)) s) l.held l.set (l.end - l.counter) l.at;
    }
