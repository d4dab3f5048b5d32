-- A set's header is one number: the count alone, or with 1 in its top and its bottom byte.
use Prim.Native.Nat.{ℕ, ◌+◌, ◌-◌, ◌*◌, ◌/◌, ◌%◌, ◌^◌, ◌<◌, ◌≤◌}
use mathlib.Core.Path.{◌≡◌, refl, ap, ◌∙◌}
use mathlib.Core.Bool.{Bool, true, false}
use mathlib.Core.List.{List, ◌++◌}
use native.Mathlib.Omega.{arith}
use lib.ListN.{length, length-append}
use Rattle.misc.specs.Parse.{Bytes}
use Rattle.previous_gtids_event.specs.Rewrite.{header_bytes}
use Rattle.gtid_sets.specs.Limits.{max_entries}
use Rattle.gtid_sets.proofs.LimitLaws.{max_entries-is}
use Rattle.previous_gtids_event.proofs.Writing.{header_number, header-number, length-header}
use Rattle.misc.specs.Le.{number_at}
use Rattle.set_check.specs.Check.{HeaderIs, NoHeader}
use Rattle.misc.proofs.Places.{part-from}
use Rattle.misc.proofs.NumberLaws.{number-stands, number-there}

few : (n : ℕ) → n ≤ max_entries → n ≤ 384
few n h = omega (arith, max_entries-is)

-- the header is the number that stands there
pub header-there : (bs : List ℕ) (w : Bool) (n : ℕ) (x : List ℕ) → n ≤ max_entries → bs ≡ header_bytes w n ++ x → number_at bs 0 ≡ header_number w n
header-there bs w n x h e =
    let f = few n h in
    number-there bs 0 (header_number w n) x (e ∙ ap (λ (y : List ℕ). y ++ x) (header-number w n (omega arith))) (small w)
  where
    small : (v : Bool) → header_number v n < 2 ^ 64
    small false = omega (arith, few n h)
    small true = omega (arith, few n h)

pub headers-same : (w v : Bool) (n m : ℕ) → n ≤ max_entries → m ≤ max_entries → header_number w n ≡ header_number v m → (w ≡ v) × (n ≡ m)
headers-same false false n m h k e = (refl, e)
headers-same false true n m h k e = absurd (omega (arith, few n h))
headers-same true false n m h k e = absurd (omega (arith, few m k))
headers-same true true n m h k e = (refl, omega arith)

module _ (bs : List ℕ) where
  pub header-gone : length bs < 8 → NoHeader bs
  header-gone h w n x k e =
      let l : length bs ≡ length (header_bytes w n) + length x = ap length e ∙ length-append (header_bytes w n) x in
      omega (arith, length-header w n)

  pub header_is : Bytes bs → 8 ≤ length bs → (w : Bool) (n : ℕ) → n ≤ 384 → number_at bs 0 ≡ header_number w n
      → HeaderIs bs (record { tagged = w; at = 8; left = n })
  header_is ok h w n k e = record {
    is = rw (header-number w n (omega arith), ← e, number-stands bs ok 0 (omega arith)) (part-from bs 0 8);
    few = omega (arith, max_entries-is);
    there = h;
    behind = refl;
  }

  module _ (v : ℕ) (is : v ≡ number_at bs 0) (many : 384 < v) where
    -- a greater number is that of a tagged header
    header-tagged : (w : Bool) (n : ℕ) (x : List ℕ) → n ≤ max_entries → bs ≡ header_bytes w n ++ x → v ≡ 2 ^ 56 + n * 256 + 1
    header-tagged false n x h e = absurd (omega (arith, few n h, header-there bs false n x h e))
    header-tagged true n x h e = is ∙ header-there bs true n x h e

    pub header-low : v < 2 ^ 56 + 1 → NoHeader bs
    header-low h w n x k e = omega (arith, header-tagged w n x k e)

    pub header-odd : 2 ^ 56 + 1 ≤ v → ((v - (2 ^ 56 + 1)) % 256 ≡ 0 → ⊥) → NoHeader bs
    header-odd h o w n x k e = let t = header-tagged w n x k e in o (omega arith)

    pub header-many : 2 ^ 56 + 1 ≤ v → 384 < (v - (2 ^ 56 + 1)) / 256 → NoHeader bs
    header-many h o w n x k e = omega (arith, few n k, header-tagged w n x k e)
