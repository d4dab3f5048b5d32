use mathlib.Core.Path.{◌≡◌, refl, ◌∙◌}
use Prim.Native.Nat.{◌+◌, ◌-◌}
use native.Mathlib.Nat.{add-zero, sub-zero}
use native.Mathlib.Omega.{arith}
use lib.ListN.{length-set}
use Rattle.misc.specs.Le.{le_bytes}
use Rattle.misc.specs.Output.{written}
use Rattle.misc.proofs.LeLaws.{scatter-step, nothing_left}
use Rattle.misc.proofs.le.scatter.Goals as goal

pub loop-i-init : goal.loop-i-init
loop-i-init c = (omega arith, refl, simp (add-zero, sub-zero))

pub loop-i-preserved : goal.loop-i-preserved
loop-i-preserved c = let a = c.args in
    let w = c.loop-i in
    (omega arith, simp length-set w.invariant.1, scatter-step w.out a.at w.i a.n w.rest c.loop-i-test.true ∙ w.invariant.2)

pub returns : goal.returns
returns c = let done : c.args.n - c.loop-i.i ≡ 0 = omega arith in
    let e : written c.loop-i.out (c.args.at + c.loop-i.i) (le_bytes 0 c.loop-i.rest) ≡ _ =
    rw done at c.loop-i.invariant.2 in
    nothing_left c.loop-i.out _ _ ∙ e
