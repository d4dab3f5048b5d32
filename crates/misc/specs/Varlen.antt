-- Variable-length integers, as the server's serialization library lays them out: t trailing ones in the first byte say that the
-- item has t + 1 bytes. The number that they spell is the value above those ones and a zero; after FF it is eight plain bytes.
use Rattle.std.specs.Prelude.{ℕ, zero, suc, ◌+◌, ◌-◌, ◌*◌, ◌/◌, ◌%◌, ◌^◌, List, ◌∷◌, drop, ltb}
use Rattle.misc.specs.Pick.{pick}
use Rattle.misc.specs.Parse.{Parse, and_then, mapped, byte_at, bytes_at}
use Rattle.misc.specs.Le.{le_of, le_bytes}

-- ---- reading

-- one more than t below a set bit, none below a zero
abbrev pub above : ℕ → ℕ → ℕ
above zero t = zero
above (suc d) t = suc t

-- how many of the k lowest bits of b are ones below its lowest zero
unfoldable pub trailing_ones : ℕ → ℕ → ℕ
trailing_ones zero b = zero
trailing_ones (suc k) b = above (b % 2) (trailing_ones k (b / 2))

-- the value of an item whose first byte has t trailing ones
unfoldable pub item_value : ℕ → List ℕ → ℕ
item_value t item = pick (ltb t 8) (le_of item / 2 ^ (t + 1)) (le_of (drop 1 item))

-- the item at a place, whose first byte has t trailing ones
abbrev pub item_at : ℕ → List ℕ → ℕ → Parse ℕ
item_at t s at = mapped (item_value t) (bytes_at (t + 1) s at)

-- the item at a place: its first byte is looked at, and then the whole of it is read
unfoldable pub varlen_at : List ℕ → ℕ → Parse ℕ
varlen_at s at = and_then (byte_at s at) (λ first after. item_at (trailing_ones 8 first) s at)

-- ---- writing

-- the least of the sizes n, n + 1, .. (k of them) that holds v, else the one after them
unfoldable pub size_from : ℕ → ℕ → ℕ → ℕ
size_from zero n v = n
size_from (suc k) n v = pick (ltb v (2 ^ (7 * n))) n (size_from k (n + 1) v)

-- the shortest size: n bytes hold values below 2 ^ (7 n), for n from 1 to 8; nine hold the rest
unfoldable pub varlen_size : ℕ → ℕ
varlen_size v = size_from 8 1 v

-- v as an item of n bytes: above n - 1 ones and a zero, or after FF
unfoldable pub item_of : ℕ → ℕ → List ℕ
item_of n v = pick (ltb n 9) (le_bytes n (v * 2 ^ n + (2 ^ (n - 1) - 1))) (255 ∷ le_bytes 8 v)

-- v in the shortest form
unfoldable pub varlen_bytes : ℕ → List ℕ
varlen_bytes v = item_of (varlen_size v) v
