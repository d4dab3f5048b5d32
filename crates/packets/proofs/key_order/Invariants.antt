-- `packets::key_order` meets its contract. The loop's invariant: what is left behind `i` words decides.
use Prim.Native.Nat.{◌*◌}
use Rattle.packets.specs.Key.{order}
use Rattle.packets.proofs.OrderWalk.{Decides}
use Rattle.packets.proofs.key_order.Given as goal

abbrev pub invariant-loop-i : goal.invariant-loop-i
invariant-loop-i l = Decides (order l.a l.b) (8 * l.i) l.a l.b
