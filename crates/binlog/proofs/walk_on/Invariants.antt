-- `binlog::walk_on`: the walk from the phase that was reached over what is left of the chunk comes to what the whole walk comes to.
use Rattle.binlog.specs.Held.{sound, place_in}
use Rattle.binlog.specs.Walk.{walked}
use Rattle.binlog.specs.Format.{trailer}
use lib.ListN.{length, drop}
use mathlib.Core.Bool.{true}
use mathlib.Core.Path.{◌≡◌}
use Prim.Native.Nat.{◌≤◌, ◌-◌}
use Rattle.binlog.proofs.walk_on.Given as goal

abbrev pub invariant-loop-used : goal.invariant-loop-used
invariant-loop-used l = record {
  within : l.used ≤ length l.chunk;
  fit : sound l.here (length l.work) ≡ true;
  so_far : walked (trailer l.checksums) (place_in l.initial.here l.initial.work) 0 l.chunk
      ≡ walked (trailer l.checksums) (place_in l.here l.work) l.used (drop l.used l.chunk);
}

abbrev pub decreases-loop-used : goal.decreases-loop-used
decreases-loop-used l = length l.chunk - l.used
