-- Reading what was written: for every width, and so for the shortest form of every 64-bit value. One proof over the width.
use mathlib.Core.Path.{◌≡◌, refl, sym, ap, ◌∙◌}
use mathlib.Core.List.{List, [], ◌∷◌, ◌++◌, append_assoc}
use Prim.Native.Nat.{ℕ, zero, suc, ◌+◌, ◌-◌, ◌*◌, ◌/◌, ◌%◌, ◌^◌, ◌≤◌, ◌<◌}
use native.Mathlib.Nat.{pow-suc, suc-add, mul_assoc}
use native.Mathlib.Numerals.{add-one}
use native.Mathlib.Decide.{dec_lt}
use native.Mathlib.Omega.{arith}
use lib.Arith.{digits_lt}
use lib.Pow.{pow_pos, pow_mono, pow-add, high, field, mod-mod-pow}
use lib.ListN.{length, get_or, length-append}
use lib.Seq.{get_or-append_seam, append_snoc}
use borrow.Author.Tests.{lt-ltb}
use Rattle.misc.specs.Parse.{parsed, mapped, part}
use Rattle.misc.specs.Le.{le_of, le_bytes, le_at}
use Rattle.misc.specs.Lenenc.{led_at, lenenc_at, lenenc_bytes}
use Rattle.misc.proofs.LenencLaws.{lenenc-led, led-value, led-2, led-3, led-8, bytes-1, bytes-3, bytes_4, bytes-9}
use Rattle.misc.specs.Varlen.{trailing_ones, varlen_at, varlen_size, item_of, varlen_bytes}
use lib.IntN.{ℤ}
use mir.Syntax.{w64}
use mir.Val.{SFits}
use Rattle.misc.specs.Signed.{sent_as, meant_by, signed_at}
use Rattle.misc.proofs.SignedLaws.{meant-sent, sent-lt}
use Rattle.misc.proofs.LeLaws.{le-here, length-le_bytes, le_of-le_bytes, pow-bytes, bytes-between}
use Rattle.misc.proofs.VarlenLaws.{varlen-narrow, varlen-nine, size-range, size_holds, length-varlen_bytes}

-- bits above the k that are looked at don't matter
ones-mod : (k x : ℕ) → trailing_ones k (x % 2 ^ k) ≡ trailing_ones k x
unfolding trailing_ones
ones-mod zero x = refl
ones-mod (suc k) x =
    let low : x % 2 ^ (k + 1) % 2 ≡ x % 2 = mod-mod-pow x k 1 in
    let rest : x % 2 ^ (k + 1) / 2 ≡ x / 2 % 2 ^ k = field x k 1 in
    rw (← add-one k, low, rest, ones-mod k (x / 2))

-- t ones below a zero are counted
ones-of : (k a t : ℕ) → t < k → trailing_ones k (a * 2 ^ (t + 1) + (2 ^ t - 1)) ≡ t
unfolding trailing_ones
ones-of zero a t h = absurd (omega arith)
ones-of (suc k) a zero h =
    let low : (a * 2 + 0) % 2 ≡ 0 = omega arith in
    rw low
ones-of (suc k) a (suc t) h =
    let p : 0 < 2 ^ t = pow_pos t in
    let e : a * 2 ^ (suc t + 1) ≡ a * 2 ^ (t + 1) * 2 = rw (suc-add, pow-suc, ← mul_assoc) in
    let low : (a * 2 ^ (suc t + 1) + (2 ^ suc t - 1)) % 2 ≡ 1 = rw e (omega arith) in
    let rest : (a * 2 ^ (suc t + 1) + (2 ^ suc t - 1)) / 2 ≡ a * 2 ^ (t + 1) + (2 ^ t - 1) = rw e (omega arith) in
    rw (low, rest, ones-of k a t (omega arith))

-- the number that an item of t + 1 bytes spells: v above t ones and a zero
number : ℕ → ℕ → ℕ
number t v = v * 2 ^ (t + 1) + (2 ^ t - 1)

first_byte : (pre post : List ℕ) (n x : ℕ) → get_or (pre ++ le_bytes (n + 1) x ++ post) (length pre) 0 ≡ x % 256
unfolding le_bytes
first_byte pre post n x = rw (add-one, append_assoc) (get_or-append_seam pre (x % 256) (le_bytes n (x / 256) ++ post) 0)

module _ (pre post : List ℕ) (t v : ℕ) (small : t < 8) (fits : v < 2 ^ (7 * (t + 1))) where
  trailer : 2 ^ t - 1 < 2 ^ (t + 1)
  trailer = omega (arith, pow_pos t, pow_mono {i = t} {j = t + 1} (omega arith))

  number_lt : number t v < 256 ^ (t + 1)
  unfolding number
  number_lt =
      let e : 8 * (t + 1) ≡ 7 * (t + 1) + (t + 1) = omega arith in
      rw (pow-bytes (t + 1), e, pow-add 2 (7 * (t + 1)) (t + 1)) (digits_lt fits trailer)

  read-narrow : varlen_at (pre ++ le_bytes (t + 1) (number t v) ++ post) (length pre) ≡ parsed v (length pre + (t + 1))
  read-narrow =
      let s : List ℕ = pre ++ le_bytes (t + 1) (number t v) ++ post in
      let len : length s ≡ length pre + (t + 1) + length post = simp (length-append, length-le_bytes) in
      let ones : t ≡ trailing_ones 8 (get_or s (length pre) 0) =
      sym (ap (trailing_ones 8) (first_byte pre post t (number t v)) ∙ ones-mod 8 (number t v) ∙ unfold number in ones-of 8 v t small) in
      let value : le_of (part s (length pre) (t + 1)) / 2 ^ (t + 1) ≡ v =
      rw (
        bytes-between pre (le_bytes (t + 1) (number t v)) post (t + 1) (sym (length-le_bytes (t + 1) (number t v))),
        le_of-le_bytes (t + 1) (number t v) number_lt,
      )
      (unfold number in high v (t + 1) trailer) in
      varlen-narrow s (length pre) t (omega arith) ones (omega arith) small ∙ ap (λ (x : ℕ). parsed x (length pre + (t + 1))) value

length-snoc : (l : List ℕ) (x : ℕ) → length (l ++ (x ∷ [])) ≡ length l + 1
length-snoc l x = length-append l (x ∷ [])

read-nine : (pre post : List ℕ) (v : ℕ) → v < 2 ^ 64 → varlen_at (pre ++ (255 ∷ le_bytes 8 v) ++ post) (length pre) ≡ parsed v (length pre + 9)
read-nine pre post v fits =
    let s : List ℕ = pre ++ (255 ∷ le_bytes 8 v) ++ post in
    let len : length s ≡ length pre + 9 + length post = simp (length-append, length-le_bytes) (omega arith) in
    let first : get_or s (length pre) 0 ≡ 255 = rw append_assoc (get_or-append_seam pre 255 (le_bytes 8 v ++ post) 0) in
    let ones : 8 ≡ trailing_ones 8 (get_or s (length pre) 0) = rw first (unfold trailing_ones in refl) in
    let rest : part s (length pre + 1) 8 ≡ le_bytes 8 v = rw (← append_snoc pre 255 (le_bytes 8 v), ← length-snoc pre 255)
    (bytes-between (pre ++ (255 ∷ [])) (le_bytes 8 v) post 8 (sym (length-le_bytes 8 v))) in
    varlen-nine s (length pre) 8 (omega arith) ones (omega arith) refl
    ∙ ap (λ (x : ℕ). parsed x (length pre + 9)) (ap le_of rest ∙ le_of-le_bytes 8 v fits)

-- an item of n bytes reads as its value, whether or not it is the shortest
pub read-item : (pre post : List ℕ) (n v : ℕ) → 1 ≤ n → n ≤ 8 → v < 2 ^ (7 * n) → varlen_at (pre ++ item_of n v ++ post) (length pre) ≡ parsed v (length pre + n)
unfolding item_of number
read-item pre post n v some most fits =
    let e : n - 1 + 1 ≡ n = omega arith in
    simp (lt-ltb n 9 (omega arith)) (rw e at (read-narrow pre post (n - 1) v (omega arith) (rw e fits)))

-- what was written is read, and exactly its bytes are used
by_size : (pre post : List ℕ) (v : ℕ) → v < 2 ^ 64 → Dec (varlen_size v < 9)
    → varlen_at (pre ++ varlen_bytes v ++ post) (length pre) ≡ parsed v (length pre + varlen_size v)
unfolding varlen_bytes
by_size pre post v h (yes l) = read-item pre post (varlen_size v) v (size-range v).0 (omega arith) (size_holds v l)
by_size pre post v h (no l) =
    let r = size-range v in
    let nine : varlen_size v ≡ 9 = omega (arith, l) in
    rw nine (unfold item_of in read-nine pre post v h)

pub varlen-written : (pre post : List ℕ) (v : ℕ) → v < 2 ^ 64
    → varlen_at (pre ++ varlen_bytes v ++ post) (length pre) ≡ parsed v (length pre + length (varlen_bytes v))
varlen-written pre post v h = rw (length-varlen_bytes v) (by_size pre post v h (dec_lt (varlen_size v) 9))

-- ---- fixed and length-encoded integers
pub le-written : (pre post : List ℕ) (n v : ℕ) → v < 256 ^ n → le_at n (pre ++ le_bytes n v ++ post) (length pre) ≡ parsed v (length pre + n)
le-written pre post n v h =
    let s : List ℕ = pre ++ le_bytes n v ++ post in
    let len : length s ≡ length pre + n + length post = simp (length-append, length-le_bytes) in
    let value : le_of (part s (length pre) n) ≡ v = ap le_of (bytes-between pre (le_bytes n v) post n (sym (length-le_bytes n v))) ∙ le_of-le_bytes n v h in
    le-here n s (length pre) (omega arith) ∙ ap (λ (x : ℕ). parsed x (length pre + n)) value

-- a lead byte and n bytes
module _ (pre post bs : List ℕ) (lead : ℕ) where
  lead-read : lenenc_at (pre ++ (lead ∷ bs) ++ post) (length pre) ≡ led_at lead (pre ++ (lead ∷ bs) ++ post) (length pre + 1)
  lead-read = lenenc-led _ _ lead (simp length-append (omega arith)) (rw append_assoc (get_or-append_seam pre lead (bs ++ post) 0))

led-written : (pre post : List ℕ) (lead n v : ℕ) → v < 256 ^ n → le_at n (pre ++ (lead ∷ le_bytes n v) ++ post) (length pre + 1) ≡ parsed v (length pre + 1 + n)
led-written pre post lead n v h = rw (← append_snoc pre lead (le_bytes n v), ← length-snoc pre lead) (le-written (pre ++ (lead ∷ [])) post n v h)

module _ (pre post : List ℕ) (v : ℕ) (fits : v < 2 ^ 64) where
  abbrev lenenc-back : List ℕ → Type 0
  lenenc-back bs = lenenc_at (pre ++ bs ++ post) (length pre) ≡ parsed v (length pre + length bs)

  led-back : (lead n : ℕ) → v < 256 ^ n
      → led_at lead (pre ++ (lead ∷ le_bytes n v) ++ post) (length pre + 1) ≡ le_at n (pre ++ (lead ∷ le_bytes n v) ++ post) (length pre + 1)
      → lenenc-back (lead ∷ le_bytes n v)
  led-back lead n h law =
      let e : length pre + 1 + n ≡ length pre + length (lead ∷ le_bytes n v) = rw length-le_bytes (omega arith) in
      lead-read pre post (le_bytes n v) lead ∙ law ∙ led-written pre post lead n v h ∙ ap (parsed v) e

  -- what was written is read, and exactly its bytes are used
  pub lenenc-written : lenenc_at (pre ++ lenenc_bytes v ++ post) (length pre) ≡ parsed v (length pre + length (lenenc_bytes v))
  lenenc-written = go (dec_lt v 251) (dec_lt v (2 ^ 16)) (dec_lt v (2 ^ 24))
    where
      go : Dec (v < 251) → Dec (v < 2 ^ 16) → Dec (v < 2 ^ 24) → lenenc-back (lenenc_bytes v)
      go (yes a) b c =
          let e : length pre + 1 ≡ length pre + length (v ∷ le_bytes 0 0) = rw length-le_bytes in
          rw (bytes-1 v a) (lead-read pre post (le_bytes 0 0) v ∙ led-value v _ (length pre + 1) a ∙ ap (parsed v) e)
      go (no a) (yes b) c = rw (bytes-3 v (omega (arith, a)) b) (led-back 0xFC 2 (omega arith) (led-2 _ _))
      go (no a) (no b) (yes c) = rw (bytes_4 v (omega (arith, b)) c) (led-back 0xFD 3 (omega arith) (led-3 _ _))
      go (no a) (no b) (no c) = rw (bytes-9 v (omega (arith, c))) (led-back 0xFE 8 (omega arith) (led-8 _ _))

-- ---- signed integers
pub signed-written : (pre post : List ℕ) (z : ℤ) → SFits w64 z
    → signed_at (pre ++ varlen_bytes (sent_as z) ++ post) (length pre) ≡ parsed z (length pre + length (varlen_bytes (sent_as z)))
unfolding signed_at
signed-written pre post z fits =
    ap (mapped meant_by) (varlen-written pre post (sent_as z) (sent-lt z fits))
    ∙ ap (λ (y : ℤ). parsed y (length pre + length (varlen_bytes (sent_as z)))) (meant-sent z)
