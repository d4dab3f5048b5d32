-- Signed variable-length integers.
use Rattle.std.specs.Prelude.{ℕ, ◌+◌, ◌*◌, ◌/◌, ◌%◌, List, ℤ, pos, negsuc, eqb}
use Rattle.misc.specs.Pick.{pick}
use Rattle.misc.specs.Refusal.{negative}
use Rattle.misc.specs.Parse.{Parse, refuse, parsed, and_then, mapped}
use Rattle.misc.specs.Varlen.{varlen_at}

-- v at or above 0 is sent as 2 v; below, v is - (n + 1), and is sent as 2 n + 1
unfoldable pub sent_as : ℤ → ℕ
sent_as (pos n) = n * 2
sent_as (negsuc n) = n * 2 + 1

-- the number that was sent so
unfoldable pub meant_by : ℕ → ℤ
meant_by sent = pick (eqb (sent % 2) 0) (pos (sent / 2)) (negsuc (sent / 2))

unfoldable pub signed_at : List ℕ → ℕ → Parse ℤ
signed_at s at = mapped meant_by (varlen_at s at)

-- a number that may not be negative, though it is sent as a signed one
abbrev pub not_negative : ℤ → ℕ → Parse ℕ
not_negative (pos n) next = parsed n next
not_negative (negsuc n) next = refuse negative

unfoldable pub natural_at : List ℕ → ℕ → Parse ℕ
natural_at s at = and_then (signed_at s at) not_negative
