use Prim.Native.Nat.{◌+◌, ◌*◌}
use mathlib.Core.Path.{◌≡◌}
use native.Mathlib.Omega.{arith}
use Rattle.std.proofs.Common.{rules}
use Rattle.packets.proofs.OrderWalk.{word-told, word-same}
use Rattle.packets.proofs.key_order.Goals as goal

pub returns-then-is_ne : goal.returns-then-is_ne
returns-then-is_ne c = let p = c.type_inv.a in
    let q = c.type_inv.b in
    word-told _ _ _ _ c.loop-i.invariant (λ j. (p j).fits) (λ j. (q j).fits) (omega arith) (omega arith) _ _ c.word_at.ensures
    c.word_at-in-loop-i.ensures _ c.cmp-found.ensures (search rules)

pub loop-i-preserved : goal.loop-i-preserved
loop-i-preserved c = let p = c.type_inv.a in
    let q = c.type_inv.b in
    let on : 8 * (c.loop-i.i + 1) ≡ 8 * c.loop-i.i + 8 = omega arith in
    rw on (word-same _ _ _ _ c.loop-i.invariant (λ j. (p j).fits) (λ j. (q j).fits) (omega arith) (omega arith) _ _ c.word_at.ensures
    c.word_at-in-loop-i.ensures _ c.cmp-found.ensures (search rules))
