-- The layout of integers: which bytes are a form of a number, by value and width. No parser is named here.
use Rattle.std.specs.Prelude.{ℕ, ◌+◌, ◌-◌, ◌/◌, ◌%◌, ◌^◌, ◌<◌, ◌≡◌, List, [], ◌∷◌, length}
use Rattle.misc.specs.Le.{le_of}

-- a little-endian number of w bytes
pub record Number (w v : ℕ) (bs : List ℕ) : Type 0 where
  pub long : length bs ≡ w
  pub spells : le_of bs ≡ v

-- the lowest bits of b are t ones and then a zero
abbrev pub Ones : ℕ → ℕ → Type 0
Ones t b = b % 2 ^ (t + 1) ≡ 2 ^ t - 1

-- the forms of a variable-length integer, the shortest or not
pub data Form (v : ℕ) : List ℕ → Type 0 where
  -- t trailing ones in the first byte, t below 8: t more bytes follow; the little-endian number divided by 2^(t+1) is the value
  few : (t first : ℕ) (more : List ℕ) → t < 8 → Ones t first → length more ≡ t → le_of (first ∷ more) / 2 ^ (t + 1) ≡ v → Form v (first ∷ more)
  -- FF is followed by eight little-endian bytes
  nine : (more : List ℕ) → length more ≡ 8 → le_of more ≡ v → Form v (0xFF ∷ more)

-- the forms of a length-encoded integer
pub data LenencForm (v : ℕ) : List ℕ → Type 0 where
  itself : v < 251 → LenencForm v (v ∷ [])
  led_by_fc : (more : List ℕ) → length more ≡ 2 → le_of more ≡ v → LenencForm v (0xFC ∷ more)
  led_by_fd : (more : List ℕ) → length more ≡ 3 → le_of more ≡ v → LenencForm v (0xFD ∷ more)
  led_by_fe : (more : List ℕ) → length more ≡ 8 → le_of more ≡ v → LenencForm v (0xFE ∷ more)
