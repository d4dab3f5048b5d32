-- Laws of the number in the eight bytes from a place on.
use Prim.Native.Nat.{ℕ, ◌+◌, ◌^◌, ◌<◌, ◌≤◌}
use mathlib.Core.Path.{◌≡◌, sym, ap, ◌∙◌}
use mathlib.Core.List.{List, ◌++◌}
use native.Mathlib.Omega.{arith}
use lib.ListN.{length, drop}
use Rattle.misc.specs.Parse.{Parse, Bytes, part, parsed_or}
use Rattle.misc.specs.Le.{le_of, le_bytes, number_at}
use Rattle.misc.proofs.LeLaws.{length-le_bytes, le_of-le_bytes, le-here}
use Rattle.misc.proofs.Places.{part-there, left_there}
use Rattle.misc.proofs.Accepted.{le-accepted}

pub number-here : (bs : List ℕ) (at : ℕ) → at + 8 ≤ length bs → number_at bs at ≡ le_of (part bs at 8)
unfolding number_at
number-here bs at h = ap (λ (p : Parse ℕ). parsed_or 0 p) (le-here 8 bs at h)

-- a number that was read is written as it stood
pub number-stands : (bs : List ℕ) → Bytes bs → (at : ℕ) → at + 8 ≤ length bs → le_bytes 8 (number_at bs at) ≡ part bs at 8
number-stands bs ok at h =
    rw (number-here bs at h) (sym (le-accepted bs at ok 8 (le_of (part bs at 8)) (at + 8) (le-here 8 bs at h)).0)

-- a number that was written is read
pub number-there : (bs : List ℕ) (at v : ℕ) (rest : List ℕ) → drop at bs ≡ le_bytes 8 v ++ rest → v < 2 ^ 64 → number_at bs at ≡ v
number-there bs at v rest e h =
    let size = left_there bs at (le_bytes 8 v) rest e in
    number-here bs at (omega (arith, length-le_bytes 8 v))
    ∙ rw (part-there bs at 8 (le_bytes 8 v) rest e (length-le_bytes 8 v)) (le_of-le_bytes 8 v (omega arith))
