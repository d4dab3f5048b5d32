-- `set_intervals::reach_from` meets its contract. The loop's invariant: what is left tells how many more are taken up, and the end.
use Prim.Native.Nat.{◌+◌}
use mathlib.Core.Path.{◌≡◌}
use lib.ListN.{drop}
use Rattle.gtid_sets.specs.Splice.{taken_up, reach}
use Rattle.set_intervals.specs.Intervals.{told}
use Rattle.set_intervals.proofs.reach_from.Given as goal

abbrev pub invariant-loop-taken : goal.invariant-loop-taken
invariant-loop-taken l = (taken_up l.b (told l.chunks) ≡ l.taken + taken_up l.end (told (drop l.taken l.chunks)))
    × (reach l.b (told l.chunks) ≡ reach l.end (told (drop l.taken l.chunks)))
