-- Numbers and bytes as text, in ASCII.
use Rattle.std.specs.Prelude.{ℕ, zero, suc, ◌+◌, ◌/◌, ◌%◌, List, [], ◌∷◌, ◌++◌, ltb}
use Rattle.misc.specs.Pick.{pick}

-- a number of at most n + 1 decimal digits: below ten it is a digit, else the number of its tens and then its last digit
unfoldable pub decimal_in : ℕ → ℕ → List ℕ
decimal_in zero v = (48 + v) ∷ []
decimal_in (suc n) v = pick (ltb v 10) ((48 + v) ∷ []) (decimal_in n (v / 10) ++ ((48 + v % 10) ∷ []))

-- a number below 2^64 has at most twenty
unfoldable pub decimal : ℕ → List ℕ
decimal v = decimal_in 19 v

-- `0` to `9`, then `a` to `f`
unfoldable pub hex_digit : ℕ → ℕ
hex_digit d = pick (ltb d 10) (48 + d) (87 + d)

-- two digits for each byte
unfoldable pub hex : List ℕ → List ℕ
hex [] = []
hex (b ∷ bs) = hex_digit (b / 16) ∷ hex_digit (b % 16) ∷ hex bs
