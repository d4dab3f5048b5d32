-- `misc::le::gather` meets its contract. The invariant: `value` is what the first `i` bytes from `at` on spell, and `scale` what the next one
-- counts for.
-- Assumes nothing.
use mathlib.Core.Path.{◌≡◌}
use Prim.Native.Nat.{◌-◌, ◌*◌, ◌%◌, ◌≤◌, ◌<◌, ◌^◌}
use Rattle.misc.specs.Parse.{part}
use Rattle.misc.specs.Le.{le_of}
use Rattle.misc.proofs.le.gather.Given as goal

abbrev pub invariant-loop-i : goal.invariant-loop-i
invariant-loop-i l = (l.i ≤ l.n) × (l.value ≡ le_of (part l.s l.at l.i)) × (l.value < 256 ^ l.i) × (l.scale ≡ 2 ^ (8 * l.i) % 2 ^ 64)

abbrev pub decreases-loop-i : goal.decreases-loop-i
decreases-loop-i l = l.n - l.i
