use Prim.Native.Nat.{◌+◌}
use mathlib.Core.Path.{◌≡◌, refl}
use native.Mathlib.Omega.{arith}
use Rattle.packets.specs.Word.{big_endian}
use Rattle.packets.proofs.WordLaws.{word_room, word_more}
use Rattle.packets.proofs.word_at.Goals as goal

pub loop-i-init : goal.loop-i-init
unfolding big_endian
loop-i-init c = refl

pub overflow_mul-word : goal.overflow_mul-word
overflow_mul-word c = let w = c.loop-i in
    let a = c.args in
    let room = word_room a.s.now a.at w.i w.word (λ j. (c.type_inv.s j).fits) (omega arith) (omega arith) w.invariant in
    omega (arith, room)

pub overflow_add-word : goal.overflow_add-word
overflow_add-word c = let w = c.loop-i in
    let a = c.args in
    let byte = c.type_inv.s (a.at + w.i) in
    let room = word_room a.s.now a.at w.i w.word (λ j. (c.type_inv.s j).fits) (omega arith) (omega arith) w.invariant in
    omega (arith, room)

pub loop-i-preserved : goal.loop-i-preserved
loop-i-preserved c = let w = c.loop-i in
    let a = c.args in
    word_more a.s.now a.at w.i w.word _ (omega arith) c.from.ensures w.invariant

pub returns : goal.returns
returns c = let all : c.loop-i.i ≡ 8 = omega arith in
    rw all at c.loop-i.invariant
