-- How great the numbers can be that are read from bytes.
use mathlib.Core.Path.{◌≡◌, refl, sym, ◌∙◌}
use mathlib.Core.Bool.{true, false, false≢true}
use mathlib.Core.List.{List, [], ◌∷◌, ◌++◌}
use Prim.Native.Nat.{ℕ, zero, suc, ◌+◌, ◌*◌, ◌/◌, ◌%◌, ◌^◌, ◌≤◌, ◌<◌}
use native.Mathlib.Nat.{pow-suc, pow-le-pow_right, div-le_self}
use native.Mathlib.Numerals.{add-one}
use native.Mathlib.Omega.{arith}
use lib.Dec.{ltb, eqb}
use lib.IntN.{ℤ, pos, negsuc}
use lib.ListN.{length, drop, get_or, replicate, length-take, length-drop, get_or-eq_default}
use lib.Seq.{get_or-take, get_or-drop}
use borrow.Author.Tests.{ltb-true, lt-ltb, le-ltb}
use Rattle.misc.specs.Parse.{Bytes, parsed, part, mapped, byte_at, bytes_at}
use Rattle.misc.specs.Le.{le_of, le_bytes, le_at}
use Rattle.misc.specs.Lenenc.{led_at, lenenc_at}
use Rattle.misc.specs.Mark.{has_bit, clear_bit}
use Rattle.misc.specs.Varlen.{trailing_ones, item_value, varlen_at}
use Rattle.misc.specs.Signed.{meant_by, signed_at, not_negative, natural_at}
use Rattle.misc.proofs.ParseLaws.{split, never, then-parsed, mapped-parsed, bytes-parsed, byte-parsed, pick-either, part_length}
use Rattle.misc.proofs.MarkLaws.{top-bit-clear, top-bit-set}
use Rattle.misc.proofs.VarlenLaws.{trailing_ones-le}

-- ---- bytes

pub append-bytes : (a b : List ℕ) → Bytes a → Bytes b → Bytes (a ++ b)
append-bytes [] b p q i = q i
append-bytes (x ∷ a) b p q zero = p 0
append-bytes (x ∷ a) b p q (suc i) = append-bytes a b (λ j. p (suc j)) q i

pub front_bytes : (a b : List ℕ) → Bytes (a ++ b) → Bytes a
front_bytes [] b h i = omega arith
front_bytes (x ∷ a) b h zero = h 0
front_bytes (x ∷ a) b h (suc i) = front_bytes a b (λ j. h (suc j)) i

pub behind-bytes : (a b : List ℕ) → Bytes (a ++ b) → Bytes b
behind-bytes [] b h i = h i
behind-bytes (x ∷ a) b h i = behind-bytes a b (λ j. h (suc j)) i

pub le_bytes-bytes : (n v : ℕ) → Bytes (le_bytes n v)
unfolding le_bytes
le_bytes-bytes zero v i = omega arith
le_bytes-bytes (suc n) v zero = omega arith
le_bytes-bytes (suc n) v (suc i) = le_bytes-bytes n (v / 256) i

pub zero-at : (n i : ℕ) → get_or {A = ℕ} (replicate n 0) i 0 ≡ 0
zero-at zero i = refl
zero-at (suc n) zero = refl
zero-at (suc n) (suc i) = zero-at n i

pub same_bytes : (n b : ℕ) → b < 256 → Bytes (replicate n b)
same_bytes zero b h i = omega arith
same_bytes (suc n) b h zero = h
same_bytes (suc n) b h (suc i) = same_bytes n b h i

pub zeros-bytes : (n : ℕ) → Bytes (replicate n 0)
zeros-bytes n = same_bytes n 0 (omega arith)

drop-bytes : (n : ℕ) (s : List ℕ) → Bytes s → Bytes (drop n s)
drop-bytes n s h i = rw (get_or-drop n s i 0) (h (n + i))

pub part_bytes : (s : List ℕ) (at n : ℕ) → Bytes s → Bytes (part s at n)
part_bytes s at n h i =
    split n i
    (λ past. rw (get_or-eq_default (part s at n) 0 {n = i} (rw length-take (omega arith))) (omega arith))
    (λ below. rw (get_or-take n (drop at s) i 0 below) (drop-bytes at s h i))

-- ---- numbers

pub le_of-below : (bs : List ℕ) → Bytes bs → le_of bs < 256 ^ length bs
unfolding le_of
le_of-below [] h = omega arith
le_of-below (b ∷ bs) h = rw pow-suc (omega (arith, h 0, le_of-below bs (λ i. h (suc i))))

half : (sent : ℕ) (z : ℤ) (m : ℕ) {v next : ℕ} → z ≡ meant_by sent → not_negative z m ≡ parsed v next → v ≡ sent / 2
unfolding meant_by
half sent (pos n) m u q = pick-either (eqb (sent % 2) 0) (sym u) (λ _ a. cc) (λ _ a. absurd (let clash : ◌≡◌ {A = ℕ} 0 1 = cc in omega arith))
half sent (negsuc n) m u q = never q

module _ (s : List ℕ) (bytes : Bytes s) where
  pub le_below : (n at : ℕ) {v next : ℕ} → le_at n s at ≡ parsed v next → v < 256 ^ n
  unfolding le_at
  le_below n at {v} {next} e =
      let (bs, p, q) = mapped-parsed le_of (bytes_at n s at) v next e in
      let h = bytes-parsed n s at bs next p in
      let l : length (part s at n) ≡ n = part_length n s at h.0 in
      rw (q, ← h.1) (rw l at (le_of-below (part s at n) (part_bytes s at n bytes)))

  item-below : (t at : ℕ) → t ≤ 8 → at + (t + 1) ≤ length s → item_value t (part s at (t + 1)) < 2 ^ 64
  unfolding item_value
  item-below t at most room =
      let item = part s at (t + 1) in
      let size : length item ≡ t + 1 = part_length (t + 1) s at room in
      split 8 t
      (λ big.
      let rest : length (drop 1 item) ≡ 8 = rw (length-drop, size) (omega arith) in
      let below : le_of (drop 1 item) < 256 ^ 8 = rw rest at (le_of-below (drop 1 item) (drop-bytes 1 item (part_bytes s at (t + 1) bytes))) in
      rw (le-ltb t 8 big) (omega arith))
      (λ small.
      let below : le_of item < 256 ^ (t + 1) = rw size at (le_of-below item (part_bytes s at (t + 1) bytes)) in
      let room : t + 1 ≤ 8 = omega arith in
      let most : 256 ^ (t + 1) ≤ 256 ^ 8 = pow-le-pow_right (omega arith) room in
      rw (lt-ltb t 8 small) (omega (arith, div-le_self (le_of item) (2 ^ (t + 1)))))

  pub varlen-below : (at : ℕ) {v next : ℕ} → varlen_at s at ≡ parsed v next → v < 2 ^ 64
  unfolding varlen_at
  varlen-below at {v} {next} e =
      let (b, m, p, q) = then-parsed (byte_at s at) _ v next e in
      let t = trailing_ones 8 b in
      let (bs, r, u) = mapped-parsed (item_value t) (bytes_at (t + 1) s at) v next q in
      let h = bytes-parsed (t + 1) s at bs next r in
      rw (u, ← h.1) (item-below t at (trailing_ones-le 8 b) h.0)

  pub natural-below : (at : ℕ) {v next : ℕ} → natural_at s at ≡ parsed v next → v < 2 ^ 63
  unfolding natural_at signed_at
  natural-below at {v} {next} e =
      let (z, m, p, q) = then-parsed (mapped meant_by (varlen_at s at)) not_negative v next e in
      let (sent, r, u) = mapped-parsed meant_by (varlen_at s at) z m p in
      omega (arith, half sent z m u q, varlen-below at r)

  pub byte-below : (at : ℕ) {v next : ℕ} → byte_at s at ≡ parsed v next → v < 256
  byte-below at {v} {next} e = rw (byte-parsed s at v next e).1 (bytes at)

  pub lenenc-below : (at : ℕ) {v next : ℕ} → lenenc_at s at ≡ parsed v next → v < 2 ^ 64
  unfolding lenenc_at led_at
  lenenc-below at {v} {next} e =
      let (lead, m, p, q) = then-parsed (byte_at s at) _ v next e in
      pick-either (ltb lead 251) q (λ t r. let same : lead ≡ v = cc in omega (arith, ltb-true lead 251 t))
      (λ _ r. pick-either (eqb lead 0xFC) r (λ _ t. omega (arith, le_below 2 m t))
      (λ _ u. pick-either (eqb lead 0xFD) u (λ _ t. omega (arith, le_below 3 m t))
      (λ _ w. pick-either (eqb lead 0xFE) w (λ _ t. omega (arith, le_below 8 m t)) (λ _. never))))

-- a number with no bit above k is below that bit once it is cleared, or if it is not set
module _ (k v : ℕ) (below : v < 2 ^ (k + 1)) where
  pub cleared-below : has_bit k v ≡ true → clear_bit k v < 2 ^ k
  cleared-below bit =
      split (2 ^ k) v
      (λ large. let double : 2 ^ (k + 1) ≡ 2 ^ k * 2 = rw (add-one, pow-suc) in omega (arith, (top-bit-set k v large below).1))
      (λ small. absurd (false≢true (sym (top-bit-clear k v small).0 ∙ bit)))

  pub unmarked-below : has_bit k v ≡ false → v < 2 ^ k
  unmarked-below bit = split (2 ^ k) v (λ large. absurd (false≢true (sym bit ∙ (top-bit-set k v large below).0))) (λ small. small)
