-- Laws of the text of keys: how its parts are put, and how long it is.
use mathlib.Core.Path.{◌≡◌, refl}
use mathlib.Core.List.{List, [], ◌∷◌, ◌++◌}
use Prim.Native.Nat.{ℕ, suc, ◌+◌, ◌≤◌}
use native.Mathlib.Omega.{arith}
use lib.ListN.{length, length-append}
use Rattle.misc.specs.Parse.{part}
use Rattle.misc.specs.Put.{Puts, PutsWhereFits}
use Rattle.misc.specs.declared.put.Put.{Put}
use Rattle.misc.proofs.ParseLaws.{part_length}
use Rattle.misc.proofs.PutLaws.{◌and◌, puts-fit, puts_none}
use Rattle.text.specs.Digits.{hex}
use Rattle.text.specs.Keys.{colon, dash, uuid_text, tag_text, key_text}
use Rattle.text.proofs.DigitLaws.{hex-long}

-- ---- putting them

pub no-tag-put : (tag : List ℕ) (p : Put) → length tag ≡ 0 → PutsWhereFits p (tag_text tag) p
no-tag-put [] p e = puts-fit (puts_none p)
no-tag-put (b ∷ bs) p e = absurd (omega arith)

pub tag-put : {p q r : Put} (tag : List ℕ) → (length tag ≡ 0 → ⊥) → Puts p (colon ∷ []) q → Puts q tag r → PutsWhereFits p (tag_text tag) r
tag-put [] h f g = absurd (h refl)
tag-put (b ∷ bs) h f g = puts-fit f and puts-fit g

pub key-put : {p q r : Put} (uuid tag : List ℕ) → Puts p (uuid_text uuid) q → PutsWhereFits q (tag_text tag) r → PutsWhereFits p (key_text uuid tag) r
unfolding key_text
key-put uuid tag f g = puts-fit f and g

-- a dash and a group of digits
group-put : {p q r : Put} {digits : List ℕ} → Puts p (dash ∷ []) q → Puts q digits r → PutsWhereFits p (dash ∷ digits) r
group-put f g = puts-fit f and puts-fit g

-- five groups of digits with dashes between them
pub uuid-put : {p p₁ p₂ p₃ p₄ p₅ p₆ p₇ p₈ p₉ : Put} (u : List ℕ) → Puts p (hex (part u 0 4)) p₁
    → Puts p₁ (dash ∷ []) p₂ → Puts p₂ (hex (part u 4 2)) p₃ → Puts p₃ (dash ∷ []) p₄ → Puts p₄ (hex (part u 6 2)) p₅
    → Puts p₅ (dash ∷ []) p₆ → Puts p₆ (hex (part u 8 2)) p₇ → Puts p₇ (dash ∷ []) p₈ → Puts p₈ (hex (part u 10 6)) p₉
    → PutsWhereFits p (uuid_text u) p₉
unfolding uuid_text
uuid-put u f₁ f₂ f₃ f₄ f₅ f₆ f₇ f₈ f₉ = puts-fit f₁ and group-put f₂ f₃ and group-put f₄ f₅ and group-put f₆ f₇ and group-put f₈ f₉

-- ---- how long they are

groups-long : (a b c d e : List ℕ) → length a ≡ 4 → length b ≡ 2 → length c ≡ 2 → length d ≡ 2 → length e ≡ 6
    → length (hex a ++ (dash ∷ hex b) ++ (dash ∷ hex c) ++ (dash ∷ hex d) ++ (dash ∷ hex e)) ≡ 36
groups-long a b c d e p q r s t = simp (length-append, hex-long) (omega arith)

pub uuid-long : (u : List ℕ) → length u ≡ 16 → length (uuid_text u) ≡ 36
unfolding uuid_text
uuid-long u h =
    groups-long (part u 0 4) (part u 4 2) (part u 6 2) (part u 8 2) (part u 10 6) (part_length 4 u 0 (omega arith)) (part_length 2 u 4 (omega arith))
    (part_length 2 u 6 (omega arith)) (part_length 2 u 8 (omega arith)) (part_length 6 u 10 (omega arith))

pub no-tag-long : (tag : List ℕ) → length tag ≡ 0 → length (tag_text tag) ≡ 0
no-tag-long [] h = refl
no-tag-long (b ∷ bs) h = absurd (omega arith)

pub tag-long : (tag : List ℕ) → (length tag ≡ 0 → ⊥) → length (tag_text tag) ≡ suc (length tag)
tag-long [] h = absurd (h refl)
tag-long (b ∷ bs) h = refl

pub key-long : (uuid tag : List ℕ) → length uuid ≡ 16 → length (key_text uuid tag) ≡ 36 + length (tag_text tag)
unfolding key_text
key-long uuid tag whole = rw (length-append (uuid_text uuid) (tag_text tag), uuid-long uuid whole)

pub tag-most : (tag : List ℕ) → length tag ≤ 32 → length (tag_text tag) ≤ 33
tag-most [] short = omega arith
tag-most (b ∷ bs) short = omega arith

pub key-most : (uuid tag : List ℕ) → length uuid ≡ 16 → length tag ≤ 32 → length (key_text uuid tag) ≤ 69
key-most uuid tag whole short = omega (arith, key-long uuid tag whole, tag-most tag short)
