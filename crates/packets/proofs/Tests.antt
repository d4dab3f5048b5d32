-- Both ways a test comes out.
use mathlib.Core.Path.{◌≡◌, refl, sym, ◌∙◌}
use mathlib.Core.Bool.{Bool, true, false, ◌&&◌, false≢true}
use native.Mathlib.Omega.{arith}
use borrow.Author.Tests.{ltb-true, ltb-false, leb-true, leb-false}

-- either way a test comes out, P
pub split {ℓ} : {P : Type ℓ} (t : Bool) → (t ≡ true → P) → (t ≡ false → P) → P
split true f g = f refl
split false f g = g refl

-- a test does not come out both ways
pub clash {ℓ} : {P : Type ℓ} {t : Bool} → t ≡ true → t ≡ false → P
clash p q = absurd (false≢true (sym q ∙ p))

pub and-true : (x y : Bool) → x && y ≡ true → (x ≡ true) × (y ≡ true)
and-true true y h = (refl, h)
and-true false y h = clash h refl

-- `omega tests` reads the tests of numbers in scope
pub ruleset tests = (arith, ltb-true, ltb-false, leb-true, leb-false)
