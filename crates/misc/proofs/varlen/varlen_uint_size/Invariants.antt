-- `misc::varlen::varlen_uint_size` meets its contract. The invariant: the sizes from `n` on have the answer.
-- Assumes nothing.
use mathlib.Core.Path.{◌≡◌}
use Prim.Native.Nat.{◌-◌, ◌≤◌}
use Rattle.misc.specs.Varlen.{size_from, varlen_size}
use Rattle.misc.proofs.varlen.varlen_uint_size.Given as goal

abbrev pub invariant-loop-n : goal.invariant-loop-n
invariant-loop-n l = (1 ≤ l.n) × (l.n ≤ 9) × (size_from (9 - l.n) l.n l.value ≡ varlen_size l.value)

abbrev pub decreases-loop-n : goal.decreases-loop-n
decreases-loop-n l = 9 - l.n
