-- `set_join::take_in::join_entry` meets its contract.
use Prim.Native.Nat.{◌-◌}
use mathlib.Core.Path.{◌≡◌}
use lib.ListN.{length}
use Rattle.gtid_sets.specs.TakeIn.{join_all}
use Rattle.set_intervals.specs.Intervals.{intervals_at}
use Rattle.set_join.specs.TakeIn.{held_set, key_in}
use Rattle.set_join.proofs.FoldLaws.{Joining}
use Rattle.set_join.proofs.take_in.join_entry.Given as goal

abbrev pub invariant-loop : goal.invariant-loop
invariant-loop l =
    let key = key_in l.fn.entry in
    record {
      kept : length l.held ≡ length l.initial.held;
      spare_kept : length l.spare ≡ length l.initial.spare;
      joining :
          Joining l.body key (join_all key (intervals_at l.end l.body l.initial.at) (held_set l.initial.held l.initial.set)) l.held l.set l.at
          (l.end - l.counter);
    }
