-- `misc::lenenc::read_lenenc_int` meets its contract.
use mathlib.Core.Path.{refl, sym, ap, ◌∙◌}
use Prim.Native.Nat.{ℕ, ◌+◌}
use native.Mathlib.Omega.{arith}
use lib.ListN.{get_or}
use Rattle.misc.specs.Parse.{parsed, read_of}
use Rattle.misc.proofs.LenencLaws.{lenenc-past, lenenc-led, led-value, led-2, led-3, led-8, led-none}
use Rattle.misc.proofs.lenenc.read_lenenc_int.Goals as goal

pub returns-then-s-at : goal.returns-then-s-at
returns-then-s-at c = ap read_of (sym (lenenc-past _ _ c.if-s-at.true))

pub returns-in-251 : goal.returns-in-251
returns-in-251 c = let a = c.args in
    let lead = get_or a.s.now a.at 0 in
    ap read_of (sym (lenenc-led a.s.now a.at lead c.if-s-at.false refl
    ∙ led-none lead a.s.now (a.at + 1) (omega (arith, c.in-251.is)) (λ e. omega (arith, c.in-251.is)) (λ e. omega (arith, c.in-251.is)) (λ e. omega (arith, c.in-251.is))))

pub returns-in-252 : goal.returns-in-252
returns-in-252 c = let a = c.args in
    c.read_le.ensures.value ∙ ap read_of (sym (lenenc-led a.s.now a.at 0xFC c.if-s-at.false c.in-252.is ∙ led-2 a.s.now (a.at + 1)))

pub returns-in-253 : goal.returns-in-253
returns-in-253 c = let a = c.args in
    c.read_le-in-253.ensures.value ∙ ap read_of (sym (lenenc-led a.s.now a.at 0xFD c.if-s-at.false c.in-253.is ∙ led-3 a.s.now (a.at + 1)))

pub returns-in-254 : goal.returns-in-254
returns-in-254 c = let a = c.args in
    c.read_le-in-254.ensures.value ∙ ap read_of (sym (lenenc-led a.s.now a.at 0xFE c.if-s-at.false c.in-254.is ∙ led-8 a.s.now (a.at + 1)))

pub returns-in_default : goal.returns-in_default
returns-in_default c = let a = c.args in
    let lead = get_or a.s.now a.at 0 in
    let byte = c.type_inv.s a.at in
    let law = lenenc-led a.s.now a.at lead c.if-s-at.false refl ∙ led-value lead a.s.now (a.at + 1) (grind (arith, byte)) in
    ap (λ (v : ℕ). read_of (parsed v (a.at + 1))) c.from.ensures ∙ ap read_of (sym law)
