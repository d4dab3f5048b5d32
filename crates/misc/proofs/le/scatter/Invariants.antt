-- `misc::le::scatter` meets its contract. The invariant: writing what is left gives what the contract asks.
-- Assumes nothing.
use mathlib.Core.Path.{◌≡◌}
use Prim.Native.Nat.{◌+◌, ◌-◌, ◌≤◌}
use lib.ListN.{length}
use Rattle.misc.specs.Le.{le_bytes}
use Rattle.misc.specs.Output.{written}
use Rattle.misc.proofs.le.scatter.Given as goal

abbrev pub invariant-loop-i : goal.invariant-loop-i
invariant-loop-i l = (l.i ≤ l.n) × (length l.out ≡ length l.initial.out) × (written l.out (l.at + l.i) (le_bytes
    (l.n - l.i) l.rest) ≡ written l.initial.out l.at (le_bytes l.n l.value))

abbrev pub decreases-loop-i : goal.decreases-loop-i
decreases-loop-i l = l.n - l.i
