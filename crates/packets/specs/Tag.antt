-- The tag rule: 1 to 32 bytes, each a to z, 0 to 9 or an underscore, and no digit first.
use Rattle.std.specs.Prelude.{ℕ, Bool, true, false, not, ◌&&◌, ◌||◌, List, [], ◌∷◌, length, leb, eqb}

-- '0' to '9'
abbrev pub is_digit : ℕ → Bool
is_digit b = leb 48 b && leb b 57

-- 'a' to 'z', '0' to '9', '_'
abbrev pub is_tag_byte : ℕ → Bool
is_tag_byte b = (leb 97 b && leb b 122) || is_digit b || eqb b 95

unfoldable pub all_tag_bytes : List ℕ → Bool
all_tag_bytes [] = true
all_tag_bytes (b ∷ bs) = is_tag_byte b && all_tag_bytes bs

unfoldable pub is_tag : List ℕ → Bool
is_tag [] = false
is_tag (b ∷ bs) = leb (length (b ∷ bs)) 32 && not (is_digit b) && all_tag_bytes (b ∷ bs)

-- no tag, or one that obeys the tag rule
abbrev pub none_or_tag : List ℕ → Bool
none_or_tag tag = eqb (length tag) 0 || is_tag tag
