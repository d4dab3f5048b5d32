-- The payload size of a tagged event: it counts the version byte, the byte of the last non-ignorable id, the bytes of the fields, and
-- itself; the least number that does.
use Rattle.std.specs.Prelude.{ℕ, zero, suc, ◌+◌, ◌^◌, ◌≡◌, eqb, ltb}
use Rattle.misc.specs.Pick.{pick}
use Rattle.misc.specs.Varlen.{varlen_size}

abbrev pub Agrees : ℕ → ℕ → Type 0
Agrees fields p = p ≡ 2 + fields + varlen_size p

-- of the sizes with n, n + 1, .. bytes for the size itself (k of them), the first that agrees, else the next
unfoldable pub size_with : ℕ → ℕ → ℕ → ℕ
size_with zero n fields = 2 + fields + n
size_with (suc k) n fields = pick (eqb (varlen_size (2 + fields + n)) n) (2 + fields + n) (size_with k (n + 1) fields)

-- the size takes 1 to 9 bytes
unfoldable pub payload_size : ℕ → ℕ
payload_size fields = size_with 8 1 fields

-- the same where 64 bits hold it, else 0, which is no size
unfoldable pub size_in64 : ℕ → ℕ
size_in64 fields = pick (ltb (payload_size fields) (2 ^ 64)) (payload_size fields) 0
