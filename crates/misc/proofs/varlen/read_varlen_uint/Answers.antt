-- `misc::varlen::read_varlen_uint` meets its contract.
use Rattle.misc.proofs.VarlenLaws.{varlen-past, varlen-even, varlen-led, varlen-cut, varlen-narrow}
use Rattle.misc.specs.Parse.{parsed, read_of}
use native.Mathlib.Omega.{arith}
use Prim.Native.Nat.{ℕ, ◌+◌, ◌/◌, ◌^◌, ◌<◌}
use mathlib.Core.Path.{sym, ap, ◌∙◌}
use Rattle.misc.proofs.varlen.read_varlen_uint.Goals as goal

pub returns-then-s-at : goal.returns-then-s-at
returns-then-s-at c = ap read_of (sym (varlen-past _ _ c.if-s-at.true))

pub returns-then-first-eq0 : goal.returns-then-first-eq0
returns-then-first-eq0 c = let a = c.args in
    ap (λ (v : ℕ). read_of (parsed v (a.at + 1))) c.from.ensures ∙ ap read_of (sym (varlen-even a.s.now a.at (omega arith) c.if-first-eq0.true))

pub returns-then-ones-eq8 : goal.returns-then-ones-eq8
returns-then-ones-eq8 c = let a = c.args in
    c.read_u64_le.ensures ∙ ap read_of (sym (varlen-led a.s.now a.at c.trailing_ones-ones.result
    (omega arith) c.trailing_ones-ones.ensures.0 c.if-ones-eq8.true))

pub returns-then-s-at-2 : goal.returns-then-s-at-2
returns-then-s-at-2 c = let a = c.args in
    ap read_of (sym (varlen-cut a.s.now a.at c.trailing_ones-ones.result (omega arith) c.trailing_ones-ones.ensures.0 (omega arith)))

pub returns : goal.returns
returns c = let a = c.args in
    let n = c.trailing_ones-ones.result + 1 in
    let few : c.trailing_ones-ones.result < 8 = omega (arith, c.if-ones-eq8.false) in
    let law = varlen-narrow a.s.now a.at c.trailing_ones-ones.result (omega arith) c.trailing_ones-ones.ensures.0 (omega arith) few in
    ap (λ (v : ℕ). read_of (parsed (v / 2 ^ n) (a.at + n))) c.gather_at_once-le_val.ensures.0 ∙ ap read_of (sym law)
