use mathlib.Core.Path.{◌≡◌, refl, sym, ◌∙◌}
use Prim.Native.Nat.{ℕ, ◌≤◌}
use native.Mathlib.Omega.{arith}
use Rattle.misc.specs.Varlen.{varlen_size, varlen_bytes}
use lib.ListN.{length}
use Rattle.misc.proofs.VarlenLaws.{size-found, size-passed, size-nine, size-range, length-varlen_bytes}
use Rattle.misc.proofs.varlen.varlen_uint_size.Goals as goal

-- all that is ensured follows from the size
sized : (v r : ℕ) → r ≡ varlen_size v → (r ≡ length (varlen_bytes v)) × (r ≤ 9)
sized v r e = (e ∙ sym (length-varlen_bytes v), omega (arith, size-range v))

pub loop-n-init : goal.loop-n-init
unfolding varlen_size
loop-n-init c = (omega arith, omega arith, refl)

pub returns-then-value-n-eq0 : goal.returns-then-value-n-eq0
returns-then-value-n-eq0 c = let v = c.args.value in
    let w = c.loop-n in
    sized v w.n (size-found v w.n c.loop-n-test.true c.if-value-n-eq0.true ∙ w.invariant.2)

pub loop-n-preserved : goal.loop-n-preserved
loop-n-preserved c = let v = c.args.value in
    let w = c.loop-n in
    (omega arith, omega arith, size-passed v w.n c.loop-n-test.true c.if-value-n-eq0.false ∙ w.invariant.2)

pub returns : goal.returns
returns c = let w = c.loop-n in
    sized c.args.value 9 (size-nine _ w.n (omega arith) ∙ w.invariant.2)
