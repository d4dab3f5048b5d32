use native.Mathlib.Omega.{arith}
use Rattle.packets.proofs.OrderWalk.{ends-told}
use Rattle.packets.proofs.order_from.Goals as goal

pub returns : goal.returns
returns c = ends-told _ _ _ _ c.loop-i.invariant (omega arith) (omega arith) (omega arith) _ c.cmp.ensures
