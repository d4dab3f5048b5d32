-- Examples, by computation.
use mathlib.Core.Path.{◌≡◌, refl}
use mathlib.Core.List.{List, [], ◌∷◌, ◌++◌}
use Prim.Native.Nat.{ℕ}
use Rattle.text.specs.Digits.{decimal_in, decimal, hex_digit, hex}
use Rattle.text.specs.Keys.{uuid_text, key_text}
use Rattle.text.specs.Intervals.{interval_text}
use Rattle.text.specs.Lines.{refused_text}

-- ---- numbers

zero-digit : decimal 0 ≡ 48 ∷ []
unfolding decimal decimal_in
zero-digit = refl

nine : decimal 9 ≡ 57 ∷ []
unfolding decimal decimal_in
nine = refl

ten : decimal 10 ≡ 49 ∷ 48 ∷ []
unfolding decimal decimal_in
ten = refl

-- the greatest number of 64 bits
greatest : decimal 18446744073709551615
    ≡ 49 ∷ 56 ∷ 52 ∷ 52 ∷ 54 ∷ 55 ∷ 52 ∷ 52 ∷ 48 ∷ 55 ∷ 51 ∷ 55 ∷ 48 ∷ 57 ∷ 53 ∷ 53 ∷ 49 ∷ 54 ∷ 49 ∷ 53 ∷ []
unfolding decimal decimal_in
greatest = refl

-- ---- keys

-- 00 11 22 .. FF
abbrev uuid : List ℕ
uuid = 0 ∷ 17 ∷ 34 ∷ 51 ∷ 68 ∷ 85 ∷ 102 ∷ 119 ∷ 136 ∷ 153 ∷ 170 ∷ 187 ∷ 204 ∷ 221 ∷ 238 ∷ 255 ∷ []

-- `00112233-4455-6677-8899-aabbccddeeff:ab`
tagged : key_text uuid (97 ∷ 98 ∷ [])
    ≡ (48 ∷ 48 ∷ 49 ∷ 49 ∷ 50 ∷ 50 ∷ 51 ∷ 51 ∷ 45 ∷ 52 ∷ 52 ∷ 53 ∷ 53 ∷ 45 ∷ 54 ∷ 54 ∷ 55 ∷ 55 ∷ 45 ∷ 56 ∷ 56 ∷ 57 ∷ 57 ∷ 45 ∷ [])
    ++ (97 ∷ 97 ∷ 98 ∷ 98 ∷ 99 ∷ 99 ∷ 100 ∷ 100 ∷ 101 ∷ 101 ∷ 102 ∷ 102 ∷ 58 ∷ 97 ∷ 98 ∷ [])
unfolding key_text uuid_text hex hex_digit
tagged = refl

-- ---- intervals

-- `:9`
one_number : interval_text 9 10 ≡ 58 ∷ 57 ∷ []
unfolding decimal decimal_in
one_number = refl

-- `:1-2`
two-numbers : interval_text 1 3 ≡ 58 ∷ 49 ∷ 45 ∷ 50 ∷ []
unfolding decimal decimal_in
two-numbers = refl

-- ---- lines

-- `refused 13`
no_room : refused_text 13 ≡ (114 ∷ 101 ∷ 102 ∷ 117 ∷ 115 ∷ 101 ∷ 100 ∷ 32 ∷ []) ++ (49 ∷ 51 ∷ 10 ∷ [])
unfolding refused_text decimal decimal_in
no_room = refl
