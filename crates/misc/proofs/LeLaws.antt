-- Laws of the little-endian definitions (`specs/Le.antt`).
use mathlib.Core.Path.{◌≡◌, refl, sym, ap, ◌∙◌}
use mathlib.Core.List.{List, [], ◌∷◌, ◌++◌, append_assoc}
use Prim.Native.Nat.{ℕ, zero, suc, ◌+◌, ◌-◌, ◌*◌, ◌/◌, ◌%◌, ◌^◌, ◌≤◌, ◌<◌}
use native.Mathlib.Numerals.{add-one}
use native.Mathlib.Nat.{pow-suc, pow-le-pow_right, mul_assoc, mul-le-mul_right, mod-lt, mod-eq_of_lt}
use native.Mathlib.Omega.{arith}
use lib.ListN.{length, take, drop, length-drop, get_or, set}
use lib.Bits.{bit_or, or_shifted_r}
use lib.Pow.{pow-add, pow_pos, field, mod-pow-add, shl-shr}
use lib.Seq.{drop-append_seam, take-append_seam, take-suc, get_or-drop, length-take-le}
use Rattle.misc.specs.Refusal.{ended}
use Rattle.misc.specs.Parse.{refuse, parsed, Bytes, part, read_of}
use Rattle.std.specs.Prelude.{Ok, Err}
use Rattle.misc.specs.Le.{le_of, le_bytes, le_at}
use Rattle.misc.proofs.ParseLaws.{bytes-here, bytes-gone}
use Rattle.misc.specs.Output.{written}

-- ---- little-endian bytes
pub length-le_bytes : (n v : ℕ) → length (le_bytes n v) ≡ n
unfolding le_bytes
length-le_bytes zero v = refl
length-le_bytes (suc n) v = ap suc (length-le_bytes n (v / 256))

pub le_of-le_bytes : (n v : ℕ) → v < 256 ^ n → le_of (le_bytes n v) ≡ v
unfolding le_of le_bytes
le_of-le_bytes zero v h = omega arith
le_of-le_bytes (suc n) v h =
    let h' : v < 256 ^ n * 256 = rw pow-suc at h in
    let e = le_of-le_bytes n (v / 256) (omega arith) in
    rw e (omega arith)

pub pow-bytes : (n : ℕ) → 256 ^ n ≡ 2 ^ (8 * n)
pow-bytes zero = refl
pow-bytes (suc n) =
    let e : 8 * suc n ≡ 8 * n + 8 = omega arith in
    rw (pow-suc, pow-bytes n, e, pow-add 2 (8 * n) 8)

-- the bytes that stand between two lists
pub bytes-between : (pre item post : List ℕ) (n : ℕ) → n ≡ length item → part (pre ++ item ++ post) (length pre) n ≡ item
bytes-between pre item post n e = rw (e, append_assoc pre item post, drop-append_seam pre (item ++ post)) (take-append_seam item post)

-- ---- what a fixed read finds
module _ (n : ℕ) (s : List ℕ) (at : ℕ) where
  pub le-gone : length s < at + n → le_at n s at ≡ refuse ended
  unfolding le_at
  le-gone h = rw (bytes-gone n s at h)

  pub le-here : at + n ≤ length s → le_at n s at ≡ parsed (le_of (part s at n)) (at + n)
  unfolding le_at
  le-here h = rw (bytes-here n s at h)

  -- the answers of a fixed read
  pub le-refused : length s < at + n → Err ended ≡ read_of (le_at n s at)
  le-refused h = ap read_of (sym (le-gone h))

  pub le_read : {v : ℕ} → at + n ≤ length s → v ≡ le_of (part s at n) → Ok (record { value = v; next = at + n }) ≡ read_of (le_at n s at)
  le_read {v} h is = ap (λ (y : ℕ). read_of (parsed y (at + n))) is ∙ ap read_of (sym (le-here h))

-- ---- loops

-- a turn of the writing loop: what is left to write, with one byte of it written
pub scatter-step : (l : List ℕ) (at i n v : ℕ) → i < n
    → written (set l (at + i) (v % 256)) (at + (i + 1)) (le_bytes (n - (i + 1)) (v / 256)) ≡ written l (at + i) (le_bytes (n - i) v)
unfolding written le_bytes
scatter-step l at i n v h =
    let e : n - i ≡ suc (n - (i + 1)) = omega arith in
    let p : at + (i + 1) ≡ suc (at + i) = omega arith in
    rw (e, p)

-- nothing left to write
pub nothing_left : (l : List ℕ) (at v : ℕ) → l ≡ written l at (le_bytes 0 v)
unfolding written le_bytes
nothing_left l at v = refl

-- a byte above those that were read counts for the power of their number
le_of-snoc : (xs : List ℕ) (b : ℕ) → le_of (xs ++ (b ∷ [])) ≡ le_of xs + b * 2 ^ (8 * length xs)
unfolding le_of
le_of-snoc [] b = omega arith
le_of-snoc (x ∷ xs) b =
    let e : 8 * suc (length xs) ≡ 8 * length xs + 8 = omega arith in
    let p : 2 ^ (8 * suc (length xs)) ≡ 2 ^ (8 * length xs) * 256 = rw e (pow-add 2 (8 * length xs) 8) in
    let q : b * (2 ^ (8 * length xs) * 256) ≡ b * 2 ^ (8 * length xs) * 256 = sym (mul_assoc b (2 ^ (8 * length xs)) 256) in
    rw (le_of-snoc xs b, p) (omega (arith, q))

-- what the byte above i others counts for: a machine number holds it up to the eighth byte
module _ (i scale : ℕ) (few : i ≤ 7) (is : scale ≡ 2 ^ (8 * i) % 2 ^ 64) where
  pub scale-held : (scale ≡ 2 ^ (8 * i)) × (scale ≤ 2 ^ 56)
  scale-held =
      let places : 8 * i ≤ 56 = omega arith in
      let top : 2 ^ (8 * i) ≤ 2 ^ 56 = pow-le-pow_right (omega arith) places in
      let same : scale ≡ 2 ^ (8 * i) = is ∙ mod-eq_of_lt (omega (arith, top)) in
      (same, omega (arith, top))

  pub scale-next : scale * 256 % 2 ^ 64 ≡ 2 ^ (8 * (i + 1)) % 2 ^ 64
  scale-next =
      let e : 8 * (i + 1) ≡ 8 * i + 8 = omega arith in
      rw (e, pow-add 2 (8 * i) 8, scale-held.0)

  -- a turn of the reading loop
  pub gather-more : (s : List ℕ) (at v b : ℕ) → at + i < length s → b ≡ get_or s (at + i) 0 → b < 256 → v ≡ le_of (part s at i) → v < 256 ^ i
      → (bit_or v (b * scale) ≡ le_of (part s at (i + 1))) × (bit_or v (b * scale) < 256 ^ (i + 1))
  gather-more s at v b lt byte small spelt low =
      let P = 2 ^ (8 * i) in
      let below : v < P = rw (pow-bytes i) at low in
      let most : b * P ≤ 255 * P = mul-le-mul_right P (omega arith) in
      let sum : bit_or v (b * P) ≡ b * P + v = or_shifted_r b (8 * i) v below in
      let here : i < length (drop at s) = rw length-drop (omega arith) in
      let one : part s at (i + 1) ≡ part s at i ++ (b ∷ []) = rw (add-one, take-suc (drop at s) i 0 here, get_or-drop at s i 0, byte) in
      let size : length (part s at i) ≡ i = length-take-le i (drop at s) (omega (arith, here)) in
      let all : le_of (part s at (i + 1)) ≡ le_of (part s at i) + b * P = rw (one, le_of-snoc (part s at i) b, size) in
      let power : 256 ^ (i + 1) ≡ P * 256 = rw (add-one, pow-suc, pow-bytes i) in
      rw (scale-held.0, sum, all, power) (omega arith, omega (arith, most, below))

-- ---- eight bytes at once

-- the first n of m bytes spell the low 8 n bits of what all of them spell
low-bytes : (n m : ℕ) (bs : List ℕ) → Bytes bs → n ≤ m → le_of (take m bs) % 2 ^ (8 * n) ≡ le_of (take n bs)
unfolding le_of
low-bytes zero m bs small h = omega arith
low-bytes (suc n) zero bs small h = absurd (omega arith)
low-bytes (suc n) (suc m) [] small h = mod-eq_of_lt (pow_pos (8 * suc n))
low-bytes (suc n) (suc m) (b ∷ bs) small h =
    let all = le_of (take m bs) in
    let byte : b < 256 = small 0 in
    let e : 8 * suc n ≡ 8 * n + 8 = omega arith in
    let rest : (b + 256 * all) / 2 ^ 8 ≡ all = omega arith in
    let first : (b + 256 * all) % 2 ^ 8 ≡ b = omega arith in
    rw (e, mod-pow-add (b + 256 * all) (8 * n) 8, rest, first, low-bytes n m bs (λ i. small (suc i)) (omega arith)) (omega arith)

-- what a machine number holds above its n low bytes is shifted out of it, and the rest back
shifted-out : (v n : ℕ) → n ≤ 8 → (v * 2 ^ (64 - 8 * n)) % 2 ^ 64 / 2 ^ (64 - 8 * n) ≡ v % 2 ^ (8 * n)
shifted-out v n h =
    let k = 64 - 8 * n in
    let e : 64 ≡ 8 * n + k = omega arith in
    ap (λ (w : ℕ). (v * 2 ^ k) % 2 ^ w / 2 ^ k) e ∙ field (v * 2 ^ k) (8 * n) k ∙ rw (shl-shr v k)

-- the first n of the eight bytes that were loaded
pub loaded-low : (s : List ℕ) (at n v : ℕ) → Bytes s → n ≤ 8 → v ≡ le_of (part s at 8)
    → ((v * 2 ^ (64 - 8 * n)) % 2 ^ 64 / 2 ^ (64 - 8 * n) ≡ le_of (part s at n)) × ((v * 2 ^ (64 - 8 * n)) % 2 ^ 64 / 2 ^ (64 - 8 * n) < 256 ^ n)
loaded-low s at n v small few is =
    let from : Bytes (drop at s) = λ i. rw (get_or-drop at s i 0) (small (at + i)) in
    let out = shifted-out v n few in
    (out ∙ rw is (low-bytes n 8 (drop at s) from few), rw (pow-bytes n, out) (mod-lt v (pow_pos (8 * n))))
