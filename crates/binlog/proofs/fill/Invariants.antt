-- `binlog::fill` meets its contract. The invariant: behind the front that stays stand the first `i` bytes.
use Prim.Native.Nat.{◌+◌}
use mathlib.Core.Path.{◌≡◌}
use mathlib.Core.List.{◌++◌}
use lib.ListN.{length, take}
use Rattle.binlog.proofs.fill.Given as goal

abbrev pub invariant-loop-i : goal.invariant-loop-i
invariant-loop-i l = (length l.work ≡ length l.initial.work) × (take (l.have + l.i) l.work ≡ take l.have l.initial.work ++ take l.i l.bytes)
