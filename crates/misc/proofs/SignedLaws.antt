-- Laws of signed integers as they are sent (`specs/Signed.antt`), and of the machine's -1 - x.
use mathlib.Core.Path.{◌≡◌, refl, sym, ap, subst, ◌∙◌}
use mathlib.Core.Bool.{Bool, true, false}
use Prim.Native.Nat.{ℕ, zero, suc, ◌+◌, ◌-◌, ◌*◌, ◌/◌, ◌%◌, ◌^◌, ◌<◌}
use native.Mathlib.Nat.{zero-add}
use native.Mathlib.Omega.{arith}
use lib.IntN.{ℤ, pos, negsuc, ◌-ℤ◌}
use lib.Signed.{lt_z}
use lib.Dec.{eqb}
use Rattle.misc.specs.Pick.{pick}
use borrow.Author.Tests.{eqb-true, eqb-false, eq-eqb, ne_eqb, le-ltb, ltb-true}
use mir.Syntax.{w64}
use mir.Val.{to_z, of_z, SFits}
use mir.Facts.{to_z-of_z, to_z_pos}
use Rattle.misc.specs.Refusal.{Refusal, negative}
use Rattle.misc.specs.Parse.{refuse, parsed}
use Rattle.misc.specs.Varlen.{varlen_at}
use Rattle.misc.specs.Signed.{sent_as, meant_by, signed_at, natural_at}
use mathlib.Core.List.{List}

-- -1 - x turns a number below 0 into one above, and back
turn-pos : (n : ℕ) → negsuc 0 -ℤ pos n ≡ negsuc n
turn-pos zero = refl
turn-pos (suc n) = ap (λ (k : ℕ). negsuc (suc k)) (zero-add n)

turn-neg : (n : ℕ) → negsuc 0 -ℤ negsuc n ≡ pos n
turn-neg n =
    let e : suc n - 1 ≡ n = omega arith in
    simp (le-ltb (suc n) 1 (omega arith), e)

small : (n : ℕ) → n < 2 ^ 63 → SFits w64 (negsuc n)
small n h = record { sfits = h }

-- ---- from what was sent
pub turned-half : (h : ℕ) → h < 2 ^ 63 → negsuc 0 -ℤ to_z w64 h ≡ negsuc h
turned-half h l = ap (λ (z : ℤ). negsuc 0 -ℤ z) (to_z_pos w64 l) ∙ turn-pos h

pub meant-even : (sent : ℕ) → sent < 2 ^ 64 → sent % 2 ≡ 0 → to_z w64 (sent / 2) ≡ meant_by sent
unfolding meant_by
meant-even sent h e = simp (eq-eqb (sent % 2) 0 e) (to_z_pos w64 (omega arith))

pub meant-odd : (sent : ℕ) → sent < 2 ^ 64 → (sent % 2 ≡ 0 → ⊥) → to_z w64 (of_z w64 (negsuc 0 -ℤ to_z w64 (sent / 2))) ≡ meant_by sent
unfolding meant_by
meant-odd sent h ne =
    simp (ne_eqb (sent % 2) 0 ne)
    (ap (λ (z : ℤ). to_z w64 (of_z w64 z)) (turned-half (sent / 2) (omega arith)) ∙ to_z-of_z (small (sent / 2) (omega arith)))

-- ---- to what is sent
below-zero : (z : ℤ) → SFits w64 z → lt_z z (pos 0) ≡ true → (n : ℕ) × (z ≡ negsuc n) × (n < 2 ^ 63)
below-zero (pos n) s t = absurd (let h : n < 0 = ltb-true n 0 t in omega arith)
below-zero (negsuc n) s t = (n, refl, s.sfits)

not-below : (z : ℤ) → SFits w64 z → lt_z z (pos 0) ≡ false → (n : ℕ) × (z ≡ pos n) × (n < 2 ^ 63)
not-below (pos n) s t = (n, refl, s.sfits)
not-below (negsuc n) s t = absurd (let e : ◌≡◌ {A = ℕ} 0 1 = cc in omega arith)

-- the machine's value of a negative number, turned
pub turned : (z : ℤ) → SFits w64 z → lt_z (to_z w64 (of_z w64 z)) (pos 0) ≡ true
    → (n : ℕ) × (negsuc 0 -ℤ to_z w64 (of_z w64 z) ≡ pos n) × (to_z w64 (of_z w64 (negsuc 0 -ℤ to_z w64 (of_z w64 z))) ≡ pos n) × (n < 2 ^ 63)
    × (n * 2 + 1 ≡ sent_as z)
unfolding sent_as
turned z s t = go (below-zero z s (subst (λ (y : ℤ). lt_z y (pos 0) ≡ true) (to_z-of_z s) t))
  where
    go : (n : ℕ) × (z ≡ negsuc n) × (n < 2 ^ 63)
        → (n : ℕ) × (negsuc 0 -ℤ to_z w64 (of_z w64 z) ≡ pos n) × (to_z w64 (of_z w64 (negsuc 0 -ℤ to_z w64 (of_z w64 z))) ≡ pos n) × (n < 2 ^ 63)
        × (n * 2 + 1 ≡ sent_as z)
    go b =
        let flip : negsuc 0 -ℤ to_z w64 (of_z w64 z) ≡ pos b.0 = ap (λ (y : ℤ). negsuc 0 -ℤ y) (to_z-of_z s ∙ b.1) ∙ turn-neg b.0 in
        (b.0, flip, ap (λ (y : ℤ). to_z w64 (of_z w64 y)) flip ∙ to_z_pos w64 b.2, b.2, sym (ap sent_as b.1))

pub kept : (z : ℤ) → SFits w64 z → lt_z (to_z w64 (of_z w64 z)) (pos 0) ≡ false → (n : ℕ) × (to_z w64 (of_z w64 z) ≡ pos n) × (n < 2 ^ 63) × (n * 2 ≡ sent_as z)
unfolding sent_as
kept z s t =
    let b = not-below z s (subst (λ (y : ℤ). lt_z y (pos 0) ≡ false) (to_z-of_z s) t) in
    (b.0, to_z-of_z s ∙ b.1, b.2, sym (ap sent_as b.1))

-- ---- there and back
pub meant-sent : (z : ℤ) → meant_by (sent_as z) ≡ z
unfolding meant_by sent_as
meant-sent (pos n) =
    let half : n * 2 / 2 ≡ n = omega arith in
    simp (eq-eqb (n * 2 % 2) 0 (omega arith), half)
meant-sent (negsuc n) =
    let half : (n * 2 + 1) / 2 ≡ n = omega arith in
    let odd : (n * 2 + 1) % 2 ≡ 1 = omega arith in
    simp (odd, half)

pub sent-meant : (sent : ℕ) → sent_as (meant_by sent) ≡ sent
unfolding meant_by sent_as
sent-meant sent = go (eqb (sent % 2) 0) refl
  where
    go : (t : Bool) → eqb (sent % 2) 0 ≡ t → sent_as (pick t (pos (sent / 2)) (negsuc (sent / 2))) ≡ sent
    go true e = omega (arith, eqb-true (sent % 2) 0 e)
    go false e = let odd : sent % 2 ≡ 1 = omega (arith, eqb-false (sent % 2) 0 e) in omega arith

pub sent-lt : (z : ℤ) → SFits w64 z → sent_as z < 2 ^ 64
unfolding sent_as
sent-lt (pos n) s = let h : n < 2 ^ 63 = s.sfits in omega arith
sent-lt (negsuc n) s = let h : n < 2 ^ 63 = s.sfits in omega arith

-- ---- what the readers find, by what was sent
module _ (s : List ℕ) (at : ℕ) where
  pub signed-refused : {x : Refusal} → varlen_at s at ≡ refuse x → signed_at s at ≡ refuse x
  unfolding signed_at
  signed-refused e = rw e

  pub signed-read : {sent next : ℕ} → varlen_at s at ≡ parsed sent next → signed_at s at ≡ parsed (meant_by sent) next
  unfolding signed_at
  signed-read e = rw e

  pub natural-refused : {x : Refusal} → varlen_at s at ≡ refuse x → natural_at s at ≡ refuse x
  unfolding natural_at
  natural-refused e = rw (signed-refused e)

  pub natural-even : {sent next : ℕ} → varlen_at s at ≡ parsed sent next → sent % 2 ≡ 0 → natural_at s at ≡ parsed (sent / 2) next
  unfolding natural_at signed_at meant_by
  natural-even {sent} {next} e even = rw (e, eq-eqb (sent % 2) 0 even)

  pub natural-odd : {sent next : ℕ} → varlen_at s at ≡ parsed sent next → (sent % 2 ≡ 0 → ⊥) → natural_at s at ≡ refuse negative
  unfolding natural_at signed_at meant_by
  natural-odd {sent} {next} e odd = rw (e, ne_eqb (sent % 2) 0 odd)
