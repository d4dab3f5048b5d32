-- `gtid_event_write::size::payload_size` meets its contract. The invariant: the sizes from `n` bytes on have the answer.
use mathlib.Core.Path.{◌≡◌}
use Prim.Native.Nat.{◌-◌}
use Rattle.gtid_event_write.specs.Size.{size_with, payload_size}
use Rattle.gtid_event_write.proofs.size.payload_size.Given as goal

abbrev pub invariant-loop-n : goal.invariant-loop-n
invariant-loop-n l = size_with (9 - l.n) l.n l.fields ≡ payload_size l.fields
