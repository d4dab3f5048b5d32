-- `packets::order_from` meets its contract. The loop's invariant: what is left from `i` on decides.
use lib.ListN.{drop}
use Rattle.packets.specs.Key.{order}
use Rattle.packets.proofs.OrderWalk.{Decides}
use Rattle.packets.proofs.order_from.Given as goal

abbrev pub invariant-loop-i : goal.invariant-loop-i
invariant-loop-i l = Decides (order (drop l.from l.a) (drop l.from l.b)) l.i l.a l.b
