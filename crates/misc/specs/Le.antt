-- Little-endian numbers of a fixed width.
use Rattle.std.specs.Prelude.{ℕ, zero, suc, ◌+◌, ◌*◌, ◌/◌, ◌%◌, List, [], ◌∷◌}
use Rattle.misc.specs.Parse.{Parse, mapped, bytes_at, parsed_or}

-- the number that bytes spell, the lowest first
unfoldable pub le_of : List ℕ → ℕ
le_of [] = 0
le_of (b ∷ bs) = b + 256 * le_of bs

-- the n low bytes of v, the lowest first
unfoldable pub le_bytes : ℕ → ℕ → List ℕ
le_bytes zero v = []
le_bytes (suc n) v = v % 256 ∷ le_bytes n (v / 256)

-- the next n bytes, as a number
unfoldable pub le_at : ℕ → List ℕ → ℕ → Parse ℕ
le_at n s at = mapped le_of (bytes_at n s at)

-- the number in the eight bytes from a place on, 0 where they aren't all there
unfoldable pub number_at : List ℕ → ℕ → ℕ
number_at s at = parsed_or 0 (le_at 8 s at)
