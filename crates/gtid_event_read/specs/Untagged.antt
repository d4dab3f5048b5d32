-- An untagged event (types 33 and 34): flags, uuid and gno, and if the byte 2 follows them, later parts, each there as far as the body
-- reaches.
use Rattle.std.specs.Prelude.{ℕ, ◌+◌, ◌-◌, ◌*◌, Bool, ◌&&◌, List, length, get_or, leb, ltb, eqb}
use Rattle.misc.specs.Pick.{pick}
use Rattle.misc.specs.Parse.{Parse, parsed, and_then, mapped, part, byte_at, bytes_at}
use Rattle.misc.specs.Le.{le_of, le_at}
use Rattle.misc.specs.Lenenc.{lenenc_at}
use Rattle.misc.specs.Mark.{has_bit, clear_bit}
use Rattle.gtid_event.specs.Event.{undefined_version, fresh, set_number, set_typecode}
use Rattle.gtid_event.specs.declared.GtidEvent.{GtidEvent}

-- ---- pairs: an immediate number and the original

pub data Pair : Type 0 where
  pair : ℕ → ℕ → Pair

-- the highest bit of the immediate number, of w bytes, says that the original follows; otherwise they are equal
abbrev pub original_after : ℕ → List ℕ → ℕ → ℕ → Parse Pair
original_after w s v at =
    pick (has_bit (8 * w - 1) v) (mapped (pair (clear_bit (8 * w - 1) v)) (le_at w s at)) (parsed (pair v v) at)

unfoldable pub pair_at : ℕ → List ℕ → ℕ → Parse Pair
pair_at w s at = and_then (le_at w s at) (original_after w s)

-- ---- parts that may be absent

-- read if n bytes remain at least
abbrev pub if_left : {A : Type 0} → ℕ → List ℕ → ℕ → A → Parse A → Parse A
if_left n s at absent item = pick (leb n (length s - at)) item (parsed absent at)

unfoldable pub timestamps_at : List ℕ → ℕ → Parse Pair
timestamps_at s at = if_left 7 s at (pair 0 0) (pair_at 7 s at)

unfoldable pub length_at : List ℕ → ℕ → Parse ℕ
length_at s at = if_left 1 s at 0 (lenenc_at s at)

unfoldable pub versions_at : List ℕ → ℕ → Parse Pair
versions_at s at = if_left 4 s at (pair undefined_version undefined_version) (pair_at 4 s at)

-- ---- the record

-- flags, uuid and gno; all else absent
abbrev pub opened : ℕ → List ℕ → ℕ → GtidEvent
opened flags sid gno = set_number 0 flags (fresh sid gno 0 undefined_version)

unfoldable pub opening_at : List ℕ → ℕ → Parse GtidEvent
opening_at s at =
    and_then (byte_at s at) (λ flags at₁.
    and_then (bytes_at 16 s at₁) (λ sid at₂.
    mapped (opened flags sid) (le_at 8 s at₂)))

-- with the typecode, and what follows it
abbrev pub clocked : GtidEvent → ℕ → ℕ → Pair → ℕ → Pair → GtidEvent
clocked e last sequence (pair immediate original) len (pair version original_version) =
    set_typecode 2 (set_number 4 last (set_number 5 sequence (set_number 6 immediate (set_number 7 original
    (set_number 8 len (set_number 9 version (set_number 10 original_version e)))))))

unfoldable pub clock_at : List ℕ → GtidEvent → ℕ → Parse GtidEvent
clock_at s e at =
    and_then (le_at 8 s at) (λ last at₁.
    and_then (le_at 8 s at₁) (λ sequence at₂.
    and_then (timestamps_at s at₂) (λ timestamps at₃.
    and_then (length_at s at₃) (λ len at₄.
    mapped (clocked e last sequence timestamps len) (versions_at s at₄)))))

-- whether the typecode stands at a place
abbrev pub typecode_at : List ℕ → ℕ → Bool
typecode_at s at = ltb at (length s) && eqb (get_or s at 0) 2

unfoldable pub untagged : List ℕ → Parse GtidEvent
untagged s = and_then (opening_at s 0) (λ e at. pick (typecode_at s at) (clock_at s e (at + 1)) (parsed e at))

-- ---- inside

-- the record of flags, uuid and gno, which stand in the first 25 bytes
abbrev pub opened_in : List ℕ → GtidEvent
opened_in s = opened (get_or s 0 0) (part s 1 16) (le_of (part s 17 8))

-- what `clock_at` reads after the sequence number
abbrev pub later_at : List ℕ → GtidEvent → ℕ → ℕ → ℕ → Parse GtidEvent
later_at s e last sequence at =
    and_then (timestamps_at s at) (λ timestamps at₁.
    and_then (length_at s at₁) (λ len at₂.
    mapped (clocked e last sequence timestamps len) (versions_at s at₂)))
