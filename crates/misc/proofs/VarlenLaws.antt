-- Laws of the variable-length integers (`specs/Varlen.antt`).
use mathlib.Core.Path.{◌≡◌, refl, sym, ap, ◌∙◌}
use mathlib.Core.List.{List, [], ◌∷◌}
use Prim.Native.Nat.{ℕ, zero, suc, ◌+◌, ◌-◌, ◌*◌, ◌/◌, ◌%◌, ◌^◌, ◌≤◌, ◌<◌}
use native.Mathlib.Nat.{one-mul, div-lt_iff_lt-mul, div-eq_of_lt}
use mathlib.Core.Bool.{Bool, true, false}
use lib.Dec.{ltb}
use borrow.Author.Tests.{lt-ltb, le-ltb, ltb-true}
use native.Mathlib.Numerals.{add-one}
use native.Mathlib.Decide.{dec_lt}
use native.Mathlib.Omega.{arith}
use Rattle.misc.proofs.LeLaws.{length-le_bytes, le-here, le-gone}
use lib.Pow.{pow_pos, pow_mono, shl_exact}
use lib.Bits.{bit_or, or_shifted}
use lib.ListN.{length, get_or, drop}
use lib.Seq.{drop-cons}
use Rattle.misc.specs.Refusal.{ended}
use Rattle.misc.specs.Parse.{refuse, parsed, part}
use Rattle.misc.specs.Le.{le_of, le_bytes, le_at}
use Rattle.misc.proofs.ParseLaws.{split, bytes-here, bytes-gone, byte-here, byte-gone}
use lib.Count.{count_trailing_zeros, under}
use Rattle.misc.specs.Pick.{pick}
use Rattle.misc.specs.Varlen.{above, trailing_ones, item_value, item_at, varlen_at, size_from, varlen_size, item_of, varlen_bytes}

-- the trailing zeros of the flipped bits are the trailing ones
flip-digit : (d t : ℕ) → d < 2 → under (1 - d) t ≡ above d t
flip-digit zero t h = refl
flip-digit (suc zero) t h = refl
flip-digit (suc (suc d)) t h = absurd (omega arith)

pub flipped : (k b : ℕ) → b < 2 ^ k → count_trailing_zeros k (2 ^ k - 1 - b) ≡ trailing_ones k b
unfolding count_trailing_zeros trailing_ones
flipped zero b h = refl
flipped (suc k) b h =
    let p : 0 < 2 ^ k = pow_pos k in
    let half : (2 ^ suc k - 1 - b) / 2 ≡ 2 ^ k - 1 - b / 2 = omega arith in
    let low : (2 ^ suc k - 1 - b) % 2 ≡ 1 - b % 2 = omega arith in
    rw (half, low, flipped k (b / 2) (omega arith)) (flip-digit (b % 2) (trailing_ones k (b / 2)) (omega arith))

pub trailing_ones-le : (k b : ℕ) → trailing_ones k b ≤ k
unfolding trailing_ones
trailing_ones-le zero b = omega arith
trailing_ones-le (suc k) b = go (b % 2) (trailing_ones k (b / 2)) (trailing_ones-le k (b / 2))
  where
    go : (d t : ℕ) → t ≤ k → above d t ≤ suc k
    go zero t h = omega arith
    go (suc d) t h = omega arith

-- ---- sizes: a turn of the loop that looks for the shortest
fits-shr : (v k : ℕ) → v / 2 ^ k ≡ 0 → ltb v (2 ^ k) ≡ true
fits-shr v k e = lt-ltb v (2 ^ k) (rw one-mul at ((div-lt_iff_lt-mul {x = v} {y = 1} (pow_pos k)).0 (omega arith)))

over-shr : (v k : ℕ) → (v / 2 ^ k ≡ 0 → ⊥) → ltb v (2 ^ k) ≡ false
over-shr v k ne = le-ltb v (2 ^ k) (lt-or v (2 ^ k) (λ lt. ne (div-eq_of_lt lt)))
  where
    lt-or : (a b : ℕ) → (a < b → ⊥) → b ≤ a
    lt-or a b f = omega (arith, f)

size_step : (v n : ℕ) → n < 9 → size_from (9 - n) n v ≡ pick (ltb v (2 ^ (7 * n))) n (size_from (9 - (n + 1)) (n + 1) v)
unfolding size_from
size_step v n h =
    let e : 9 - n ≡ suc (9 - (n + 1)) = omega arith in
    rw e

pub size-found : (v n : ℕ) → n < 9 → v / 2 ^ (7 * n) ≡ 0 → n ≡ size_from (9 - n) n v
size-found v n h e = sym (size_step v n h ∙ simp (fits-shr v (7 * n) e))

pub size-passed : (v n : ℕ) → n < 9 → (v / 2 ^ (7 * n) ≡ 0 → ⊥) → size_from (9 - (n + 1)) (n + 1) v ≡ size_from (9 - n) n v
size-passed v n h ne = sym (size_step v n h ∙ simp (over-shr v (7 * n) ne))

pub size-nine : (v n : ℕ) → n ≡ 9 → 9 ≡ size_from (9 - n) n v
unfolding size_from
size-nine v n e = rw e

-- ---- what the reader finds, case by case
pub varlen-past : (s : List ℕ) (at : ℕ) → length s ≤ at → varlen_at s at ≡ refuse ended
unfolding varlen_at
varlen-past s at h = rw (byte-gone s at h)

module _ (s : List ℕ) (at t : ℕ) (inside : at < length s) (ones : t ≡ trailing_ones 8 (get_or s at 0)) where
  varlen-inside : varlen_at s at ≡ item_at t s at
  unfolding varlen_at
  varlen-inside = rw (byte-here s at inside, ← ones)

  pub varlen-cut : length s < at + (t + 1) → varlen_at s at ≡ refuse ended
  varlen-cut h = varlen-inside ∙ rw (bytes-gone (t + 1) s at h)

  pub varlen-narrow : at + (t + 1) ≤ length s → t < 8 → varlen_at s at ≡ parsed (le_of (part s at (t + 1)) / 2 ^ (t + 1)) (at + (t + 1))
  unfolding item_value
  varlen-narrow h l = varlen-inside ∙ rw (bytes-here (t + 1) s at h, lt-ltb t 8 l)

  pub varlen-nine : at + 9 ≤ length s → t ≡ 8 → varlen_at s at ≡ parsed (le_of (part s (at + 1) 8)) (at + 9)
  unfolding item_value
  varlen-nine h e =
      let rest : drop 1 (part s at 9) ≡ part s (at + 1) 8 = rw (drop-cons s at 0 inside, add-one) in
      varlen-inside ∙ rw (e, bytes-here 9 s at h, rest)

  -- after eight ones a fixed number of eight bytes follows, if they are there
  pub varlen-led : t ≡ 8 → varlen_at s at ≡ le_at 8 s (at + 1)
  varlen-led e =
      let next : at + 1 + 8 ≡ at + 9 = omega arith in
      split (at + 9) (length s)
      (λ here. varlen-nine here e ∙ sym (le-here 8 s (at + 1) (omega arith) ∙ ap (parsed (le_of (part s (at + 1) 8))) next))
      (λ gone. varlen-cut (omega arith) ∙ sym (le-gone 8 s (at + 1) (omega arith)))

-- ---- one byte
ones-even : (k b : ℕ) → b % 2 ≡ 0 → 0 ≡ trailing_ones (suc k) b
unfolding trailing_ones
ones-even k b e = rw e

-- an even first byte is the whole item
pub varlen-even : (s : List ℕ) (at : ℕ) → at < length s → get_or s at 0 % 2 ≡ 0 → varlen_at s at ≡ parsed (get_or s at 0 / 2) (at + 1)
unfolding le_of
varlen-even s at inside even =
    let one : le_of (part s at 1) ≡ get_or s at 0 = rw (drop-cons s at 0 inside) (omega arith) in
    varlen-narrow s at 0 inside (ones-even 7 (get_or s at 0) even) (omega arith) (omega arith) ∙ ap (λ (v : ℕ). parsed (v / 2) (at + 1)) one

-- ---- the shortest size
size-case : (k n v : ℕ) (b : Bool) → ltb v (2 ^ (7 * n)) ≡ b
    → (n + 1 ≤ size_from k (n + 1) v) × (size_from k (n + 1) v ≤ n + 1 + k) × (size_from k (n + 1) v < n + 1 + k → v < 2 ^ (7 * size_from k (n + 1) v))
    → (n ≤ pick b n (size_from k (n + 1) v)) × (pick b n (size_from k (n + 1) v) ≤ n + suc k)
    × (pick b n (size_from k (n + 1) v) < n + suc k → v < 2 ^ (7 * pick b n (size_from k (n + 1) v)))
size-case k n v true e h = (omega arith, omega arith, λ _. ltb-true v (2 ^ (7 * n)) e)
size-case k n v false e h = (omega arith, omega arith, λ l. h.2 (omega arith))

size-from : (k n v : ℕ) → (n ≤ size_from k n v) × (size_from k n v ≤ n + k) × (size_from k n v < n + k → v < 2 ^ (7 * size_from k n v))
unfolding size_from
size-from zero n v = (omega arith, omega arith, λ l. absurd (omega arith))
size-from (suc k) n v = size-case k n v (ltb v (2 ^ (7 * n))) refl (size-from k (n + 1) v)

pub size-range : (v : ℕ) → (1 ≤ varlen_size v) × (varlen_size v ≤ 9)
unfolding varlen_size
size-range v = ((size-from 8 1 v).0, (size-from 8 1 v).1)

pub size_holds : (v : ℕ) → varlen_size v < 9 → v < 2 ^ (7 * varlen_size v)
unfolding varlen_size
size_holds v l = (size-from 8 1 v).2 l

-- ---- the shifted value and its trailer
module _ (v n : ℕ) (some : 1 ≤ n) (most : n ≤ 8) (fits : v < 2 ^ (7 * n)) where
  pub shifted-is : (v * 2 ^ n) % 2 ^ 64 ≡ v * 2 ^ n
  shifted-is = shl_exact (7 * n) n 64 fits (omega arith)

  pub trailer-lt : 2 ^ (n - 1) - 1 < 2 ^ n
  trailer-lt = omega (arith, pow_pos n, pow_mono {i = n - 1} {j = n} (omega arith))

  pub one_shifted : (1 * 2 ^ (n - 1)) % 2 ^ 64 ≡ 2 ^ (n - 1)
  one_shifted = shl_exact 1 (n - 1) 64 (omega arith) (omega arith) ∙ one-mul (2 ^ (n - 1))

  pub encoded-is : bit_or ((v * 2 ^ n) % 2 ^ 64) ((1 * 2 ^ (n - 1)) % 2 ^ 64 - 1) ≡ v * 2 ^ n + (2 ^ (n - 1) - 1)
  encoded-is = rw (shifted-is, one_shifted) (or_shifted v n (2 ^ (n - 1) - 1) trailer-lt)

-- ---- the shortest form, by its size
pub bytes-short : (v n : ℕ) → n ≡ varlen_size v → n < 9 → varlen_bytes v ≡ le_bytes n (v * 2 ^ n + (2 ^ (n - 1) - 1))
unfolding varlen_bytes item_of
bytes-short v n e h = simp (← e, lt-ltb n 9 h)

-- a small length is one byte, twice the length
pub one_byte : (n : ℕ) → n < 128 → varlen_bytes n ≡ 2 * n ∷ []
unfolding varlen_size size_from le_bytes
one_byte n h =
    let size : 1 ≡ varlen_size n = rw (lt-ltb n (2 ^ 7) h) in
    let low : (n * 2 + 0) % 256 ≡ 2 * n = omega arith in
    bytes-short n 1 size (omega arith) ∙ rw low

pub length-small : (n : ℕ) → n < 128 → length (varlen_bytes n) ≡ 1
length-small n h = ap length (one_byte n h)

pub bytes-nine : (v : ℕ) → varlen_size v ≡ 9 → varlen_bytes v ≡ 255 ∷ le_bytes 8 v
unfolding varlen_bytes item_of
bytes-nine v e = simp e

-- ---- lengths
pub length-varlen_bytes : (v : ℕ) → length (varlen_bytes v) ≡ varlen_size v
length-varlen_bytes v = go (dec_lt (varlen_size v) 9)
  where
    go : Dec (varlen_size v < 9) → length (varlen_bytes v) ≡ varlen_size v
    go (yes h) = rw (bytes-short v (varlen_size v) refl h) (length-le_bytes (varlen_size v) _)
    go (no h) =
        let r = size-range v in
        let nine : varlen_size v ≡ 9 = omega (arith, h) in
        rw (bytes-nine v nine, nine) (ap suc (length-le_bytes 8 v))
