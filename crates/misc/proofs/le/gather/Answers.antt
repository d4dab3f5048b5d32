use mathlib.Core.Path.{◌≡◌, refl}
use Prim.Native.Nat.{◌+◌, ◌*◌, ◌≤◌}
use native.Mathlib.Nat.{mul-le-mul_right}
use native.Mathlib.Omega.{arith}
use Rattle.misc.specs.Le.{le_of}
use Rattle.misc.proofs.LeLaws.{scale-held, scale-next, gather-more}
use Rattle.misc.proofs.le.gather.Goals as goal

pub loop-i-init : goal.loop-i-init
unfolding le_of
loop-i-init c = (omega arith, refl, omega arith, refl)

pub overflow_mul-value : goal.overflow_mul-value
overflow_mul-value c = let w = c.loop-i in
    let byte = c.type_inv.s (c.args.at + w.i) in
    let most : c.from.result * w.scale ≤ 255 * w.scale = mul-le-mul_right w.scale (omega arith) in
    omega (arith, most, (scale-held w.i w.scale (omega arith) w.invariant.3).1)

pub loop-i-preserved : goal.loop-i-preserved
loop-i-preserved c = let w = c.loop-i in
    let a = c.args in
    let byte = c.type_inv.s (a.at + w.i) in
    let more = gather-more w.i w.scale (omega arith) w.invariant.3 a.s.now a.at w.value c.from.result (omega arith) c.from.ensures
    (omega arith) w.invariant.1 w.invariant.2 in
    (omega arith, more.0, more.1, scale-next w.i w.scale (omega arith) w.invariant.3)

pub returns : goal.returns
returns c = let w = c.loop-i in
    let all : w.i ≡ c.args.n = omega arith in
    (rw all at w.invariant.1, rw all at w.invariant.2)
