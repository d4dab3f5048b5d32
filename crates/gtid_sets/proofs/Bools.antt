-- Laws of `||` that joining and walking sets need, beside those of the library.
use mathlib.Core.Path.{◌≡◌, refl, sym}
use mathlib.Core.Bool.{Bool, true, false, ◌||◌, or-true}
use Rattle.packets.proofs.Tests.{clash}

pub or_swap : (x y z : Bool) → x || (y || z) ≡ y || (x || z)
or_swap true y z = rw (or-true y)
or_swap false y z = refl

pub or-shift : (x y z : Bool) → x || (y || z) ≡ (y || x) || z
or-shift x true z = or-true x
or-shift x false z = refl

pub or-within : (x y : Bool) → (x ≡ true → y ≡ true) → x || y ≡ y
or-within true y h = sym (h refl)
or-within false y h = refl

pub or-false-parts : (x y : Bool) → x || y ≡ false → (x ≡ false) × (y ≡ false)
or-false-parts true y h = clash refl h
or-false-parts false y h = (refl, h)
