-- Laws of the line of a refusal.
use mathlib.Core.Path.{◌≡◌}
use mathlib.Core.List.{[], ◌∷◌}
use Prim.Native.Nat.{ℕ, ◌+◌, ◌≤◌}
use native.Mathlib.Omega.{arith}
use lib.ListN.{length, length-append}
use Rattle.misc.specs.Put.{Puts, PutsWhereFits}
use Rattle.misc.specs.declared.put.Put.{Put}
use Rattle.misc.proofs.PutLaws.{◌and◌, puts-fit}
use Rattle.text.specs.Digits.{decimal}
use Rattle.text.specs.Lines.{newline, refused_word, refused_text}
use Rattle.text.proofs.DigitLaws.{decimal-most}

pub refused-long : (n : ℕ) → 9 + length (decimal n) ≡ length (refused_text n)
unfolding refused_text
refused-long n = simp length-append (omega arith)

pub refused-most : (n : ℕ) → length (refused_text n) ≤ 29
refused-most n = omega (arith, refused-long n, decimal-most n)

pub refused-put : {p p₁ p₂ p₃ : Put} (n : ℕ)
    → Puts p refused_word p₁ → Puts p₁ (decimal n) p₂ → Puts p₂ (newline ∷ []) p₃ → PutsWhereFits p (refused_text n) p₃
unfolding refused_text
refused-put n f g h = puts-fit f and puts-fit g and puts-fit h
