-- What `walk` answers and leaves, from what the walk inside promises.
use Prim.Native.Nat.{ℕ}
use mathlib.Core.Path.{◌≡◌}
use mathlib.Core.Bool.{false}
use mathlib.Core.List.{List}
use Rattle.misc.specs.Refusal.{not_writable}
use Rattle.binlog.specs.Stop.{stop_for}
use Rattle.binlog.specs.Place.{stopped}
use Rattle.binlog.specs.Held.{made, place_of}
use Rattle.binlog.specs.declared.Phase.{Phase}
use Rattle.binlog.proofs.WalkRun.{walk-waits}
use Rattle.binlog.proofs.PhaseLaws.{phase-kept, front-none, front_kept, place-sound, sound-by}

pub ruleset walk_laws = (walk-waits, phase-kept, front_kept, front-none, place-sound, sound-by)

-- a phase that no call made: 12
pub unmade-place : (p : Phase) (w : List ℕ) → made p ≡ false → place_of p w ≡ stopped (stop_for not_writable) 0
unfolding place_of
unmade-place p w m = rw m
