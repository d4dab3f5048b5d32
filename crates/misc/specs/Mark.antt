-- One bit of a number, in plain arithmetic.
use Rattle.std.specs.Prelude.{ℕ, ◌-◌, ◌*◌, ◌/◌, ◌%◌, ◌^◌, Bool, eqb}

abbrev pub bit_of : ℕ → ℕ → ℕ
bit_of k x = x / 2 ^ k % 2

unfoldable pub has_bit : ℕ → ℕ → Bool
has_bit k x = eqb (bit_of k x) 1

-- the number without that bit
unfoldable pub clear_bit : ℕ → ℕ → ℕ
clear_bit k x = x - bit_of k x * 2 ^ k
