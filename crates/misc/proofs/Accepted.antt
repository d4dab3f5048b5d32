-- What the readers accept are forms of the layout (`specs/Forms.antt`), and so is what is written.
use mathlib.Core.Path.{◌≡◌, refl, sym, ap, ◌∙◌}
use mathlib.Core.Bool.{Bool, true, false}
use mathlib.Core.List.{List, [], ◌∷◌, ◌++◌, append-nil}
use Prim.Native.Nat.{ℕ, zero, suc, ◌+◌, ◌-◌, ◌*◌, ◌/◌, ◌%◌, ◌^◌, ◌≤◌, ◌<◌}
use native.Mathlib.Nat.{pow-suc, zero-add}
use native.Mathlib.Numerals.{add-one}
use native.Mathlib.Omega.{arith}
use lib.Pow.{pow_pos, mod-pow-add}
use lib.ListN.{length, get_or}
use lib.Seq.{drop-cons}
use borrow.Author.Tests.{lt-ltb, le-ltb, ltb-true, eqb-true}
use lib.Dec.{ltb, eqb}
use lib.IntN.{ℤ}
use Rattle.misc.specs.Pick.{pick}
use Rattle.misc.specs.Parse.{Bytes, parsed, part, bytes_at, byte_at}
use Rattle.misc.specs.Le.{le_of, le_bytes, le_at}
use Rattle.misc.specs.Lenenc.{led_at, lenenc_at}
use Rattle.misc.specs.Signed.{sent_as, meant_by, signed_at}
use Rattle.misc.specs.Varlen.{above, trailing_ones, item_value, varlen_at, varlen_size, item_of, varlen_bytes}
use Rattle.misc.specs.Forms.{Number, Ones, Form, LenencForm}
use Rattle.misc.proofs.ParseLaws.{split, never, pick-either, then-parsed, mapped-parsed, bytes-parsed, byte-parsed, part_length}
use Rattle.misc.proofs.Bounds.{part_bytes, le_bytes-bytes}
use Rattle.misc.proofs.LeLaws.{length-le_bytes, le_of-le_bytes}
use Rattle.misc.proofs.SignedLaws.{sent-meant}
use Rattle.misc.proofs.RoundTrip.{varlen-written}
use Rattle.misc.proofs.VarlenLaws.{trailing_ones-le}
use Rattle.misc.proofs.Places.{Found, part-from, found-whole}

-- a number with t trailing ones has those ones and a zero for its lowest bits
pub ones_low : (k x t : ℕ) → t ≡ trailing_ones k x → t < k → Ones t x
unfolding trailing_ones
ones_low zero x t e h = absurd (omega arith)
ones_low (suc k) x t e h = go (ones_low k (x / 2) (trailing_ones k (x / 2)) refl) (x % 2) refl e
  where
    go : (trailing_ones k (x / 2) < k → x / 2 % 2 ^ (trailing_ones k (x / 2) + 1) ≡ 2 ^ trailing_ones k (x / 2) - 1)
        → (d : ℕ) → x % 2 ≡ d → t ≡ above d (trailing_ones k (x / 2)) → x % 2 ^ (t + 1) ≡ 2 ^ t - 1
    go rest zero p q = rw q p
    go rest (suc d) p q =
        let u = trailing_ones k (x / 2) in
        let odd : x % 2 ≡ 1 = omega arith in
        let ih : x / 2 % 2 ^ (u + 1) ≡ 2 ^ u - 1 = rest (omega arith) in
        let parts : x % 2 ^ (u + 1 + 1) ≡ x / 2 % 2 ^ (u + 1) * 2 + x % 2 = mod-pow-add x (u + 1) 1 in
        let pos : 0 < 2 ^ u = pow_pos u in
        let same : suc u + 1 ≡ u + 1 + 1 = omega arith in
        rw (q, same, parts, ih, odd) (omega (arith, pow-suc 2 u))

pub ones-full : (k x : ℕ) → k ≡ trailing_ones k x → x % 2 ^ k ≡ 2 ^ k - 1
unfolding trailing_ones
ones-full zero x e = omega arith
ones-full (suc k) x e = go (ones-full k (x / 2)) (x % 2) refl e
  where
    go : (k ≡ trailing_ones k (x / 2) → x / 2 % 2 ^ k ≡ 2 ^ k - 1) → (d : ℕ) → x % 2 ≡ d → suc k ≡ above d (trailing_ones k (x / 2))
        → x % 2 ^ suc k ≡ 2 ^ suc k - 1
    go rest zero p q = absurd (omega arith)
    go rest (suc d) p q =
        let odd : x % 2 ≡ 1 = omega arith in
        let ih : x / 2 % 2 ^ k ≡ 2 ^ k - 1 = rest (omega arith) in
        let parts : x % 2 ^ (k + 1) ≡ x / 2 % 2 ^ k * 2 + x % 2 = mod-pow-add x k 1 in
        let pos : 0 < 2 ^ k = pow_pos k in
        rw (← add-one k, parts, ih, odd, add-one k) (omega arith)

all-bytes : (bs : List ℕ) → Bytes bs → le_bytes (length bs) (le_of bs) ≡ bs
unfolding le_bytes le_of
all-bytes [] h = refl
all-bytes (b ∷ bs) h =
    let low : b < 256 = h 0 in
    let first : (b + 256 * le_of bs) % 256 ≡ b = omega arith in
    let others : (b + 256 * le_of bs) / 256 ≡ le_of bs = omega arith in
    rw (first, others, all-bytes bs (λ i. h (suc i)))

module _ (s : List ℕ) (at : ℕ) (are_bytes : Bytes s) where
  -- the bytes are those of the number that they spell
  pub part-is : (n : ℕ) → at + n ≤ length s → le_bytes n (le_of (part s at n)) ≡ part s at n
  part-is n h = ap (λ (k : ℕ). le_bytes k (le_of (part s at n))) (sym (part_length n s at h)) ∙ all-bytes (part s at n) (part_bytes s at n are_bytes)

  -- n bytes, which are those of the value
  pub le-accepted : (n v next : ℕ) → le_at n s at ≡ parsed v next → (part s at n ≡ le_bytes n v) × (next ≡ at + n) × (next ≤ length s)
  unfolding le_at
  le-accepted n v next e =
      let (bs, p, q) = mapped-parsed le_of (bytes_at n s at) v next e in
      let h = bytes-parsed n s at bs next p in
      let spelt : le_of (part s at n) ≡ v = ap le_of h.1 ∙ sym q in
      (sym (part-is n h.0) ∙ ap (le_bytes n) spelt, sym h.2, omega arith)

-- ---- fixed and length-encoded integers
module _ (s : List ℕ) where
  pub number-found : (n at v next : ℕ) → le_at n s at ≡ parsed v next → Found (Number n v) s at next
  unfolding le_at
  number-found n at v next e =
      let (bs, read, spelt) = mapped-parsed le_of (bytes_at n s at) v next e in
      let (room, these, end) = bytes-parsed n s at bs next read in
      record {
        bytes = part s at n;
        holds = record { long = part_length n s at room; spells = ap le_of these ∙ sym spelt };
        is = part-from s at n ∙ rw end;
        inside = omega arith;
      }

  led-found : (lead n at v next : ℕ) → at < length s → get_or s at 0 ≡ lead → le_at n s (at + 1) ≡ parsed v next
      → ((more : List ℕ) → length more ≡ n → le_of more ≡ v → LenencForm v (lead ∷ more)) → Found (LenencForm v) s at next
  led-found lead n at v next inside first e mk =
      let x = number-found n (at + 1) v next e in
      record {
        bytes = lead ∷ x.bytes;
        holds = mk x.bytes x.holds.long x.holds.spells;
        is = drop-cons s at 0 inside ∙ rw (first, ← add-one at, x.is);
        inside = x.inside;
      }

  pub lenenc-found : (at v next : ℕ) → lenenc_at s at ≡ parsed v next → Found (LenencForm v) s at next
  unfolding lenenc_at led_at
  lenenc-found at v next e =
      let (lead, m, p, q) = then-parsed (byte_at s at) _ v next e in
      let (inside, is, after) = byte-parsed s at lead m p in
      go lead inside (sym is) (rw after at q)
    where
      go : (lead : ℕ) → at < length s → get_or s at 0 ≡ lead → led_at lead s (at + 1) ≡ parsed v next → Found (LenencForm v) s at next
      go lead inside first q =
          pick-either (ltb lead 251) q
          (λ low r.
          let same : lead ≡ v = cc in
          let end : at + 1 ≡ next = cc in
          record {
            bytes = v ∷ [];
            holds = LenencForm.itself (rw same at (ltb-true lead 251 low));
            is = drop-cons s at 0 inside ∙ rw (first, same, ← end, add-one at);
            inside = omega arith;
          })
          (λ _ r. pick-either (eqb lead 0xFC) r (λ t u. led-found 0xFC 2 at v next inside (first ∙ eqb-true lead 0xFC t) u LenencForm.led_by_fc)
          (λ _ u. pick-either (eqb lead 0xFD) u (λ t w. led-found 0xFD 3 at v next inside (first ∙ eqb-true lead 0xFD t) w LenencForm.led_by_fd)
          (λ _ w. pick-either (eqb lead 0xFE) w (λ t x. led-found 0xFE 8 at v next inside (first ∙ eqb-true lead 0xFE t) x LenencForm.led_by_fe)
          (λ _ x. never x))))

-- ---- variable-length integers
module _ (s : List ℕ) (are : Bytes s) (at : ℕ) where
  formed : (b t v : ℕ) → t ≡ trailing_ones 8 b → at < length s → b ≡ get_or s at 0 → at + (t + 1) ≤ length s → v ≡ item_value t (b ∷ part s (at + 1) t)
      → Form v (b ∷ part s (at + 1) t)
  unfolding item_value
  formed b t v ones inside first room value =
      let size : length (part s (at + 1) t) ≡ t = part_length t s (at + 1) (omega arith) in
      split 8 t
      (λ big.
      let eight : t ≡ 8 = omega (arith, trailing_ones-le 8 b) in
      let full = ones-full 8 b (sym eight ∙ ones) in
      let lead : b ≡ 0xFF = omega (arith, are at) in
      let is : v ≡ le_of (part s (at + 1) t) = rw (le-ltb t 8 big) at value in
      rw lead (Form.nine (part s (at + 1) t) (size ∙ eight) (sym is)))
      (λ small.
      let is : v ≡ le_of (b ∷ part s (at + 1) t) / 2 ^ (t + 1) = rw (lt-ltb t 8 small) at value in
      Form.few t b (part s (at + 1) t) small (ones_low 8 b t ones small) size (sym is))

  cons-part : (b t : ℕ) → at < length s → b ≡ get_or s at 0 → part s at (t + 1) ≡ b ∷ part s (at + 1) t
  cons-part b t inside first = rw (add-one t, drop-cons s at 0 inside, ← first, ← add-one at)

  pub form-read : (v next : ℕ) → varlen_at s at ≡ parsed v next → Found (Form v) s at next
  unfolding varlen_at
  form-read v next e =
      let (b, m, one, rest) = then-parsed (byte_at s at) _ v next e in
      let (inside, first, _) = byte-parsed s at b m one in
      let (item, whole, value) = mapped-parsed (item_value (trailing_ones 8 b)) (bytes_at (trailing_ones 8 b + 1) s at) v next rest in
      let (room, these, end) = bytes-parsed (trailing_ones 8 b + 1) s at item next whole in
      go b (trailing_ones 8 b) item refl inside first room these end value
    where
      go : (b t : ℕ) (item : List ℕ) → t ≡ trailing_ones 8 b → at < length s → b ≡ get_or s at 0 → at + (t + 1) ≤ length s → part s at (t + 1) ≡ item
          → at + (t + 1) ≡ next → v ≡ item_value t item → Found (Form v) s at next
      go b t item ones inside first room these end value =
          let cons = cons-part b t inside first in
          let same : item ≡ b ∷ part s (at + 1) t = sym these ∙ cons in
          record {
            bytes = b ∷ part s (at + 1) t;
            holds = formed b t v ones inside first room (rw same at value);
            is = part-from s at (t + 1) ∙ rw (cons, end);
            inside = omega arith;
          }

  -- a form of the number as it is sent
  pub signed-read : (z : ℤ) (next : ℕ) → signed_at s at ≡ parsed z next → Found (Form (sent_as z)) s at next
  unfolding signed_at
  signed-read z next e =
      let (sent, p, q) = mapped-parsed meant_by (varlen_at s at) z next e in
      let same : sent_as z ≡ sent = ap sent_as q ∙ sent-meant sent in
      rw same (form-read sent next p)

-- ---- what is written is a form
pub number-written : (w v : ℕ) → v < 256 ^ w → Number w v (le_bytes w v)
number-written w v h = record { long = length-le_bytes w v; spells = le_of-le_bytes w v h }

varlen-bytes : (v : ℕ) → Bytes (varlen_bytes v)
unfolding varlen_bytes item_of
varlen-bytes v = either (ltb (varlen_size v) 9)
  where
    either : (b : Bool) → Bytes (pick b (le_bytes (varlen_size v) (v * 2 ^ varlen_size v + (2 ^ (varlen_size v - 1) - 1))) (255 ∷ le_bytes 8 v))
    either true i = le_bytes-bytes (varlen_size v) (v * 2 ^ varlen_size v + (2 ^ (varlen_size v - 1) - 1)) i
    either false zero = omega arith
    either false (suc i) = le_bytes-bytes 8 v i

pub varlen-form : (v : ℕ) → v < 2 ^ 64 → Form v (varlen_bytes v)
varlen-form v h =
    let bs = varlen_bytes v in
    let alone : bs ++ [] ≡ bs = append-nil bs in
    let read : varlen_at bs 0 ≡ parsed v (length bs) = rw (alone, zero-add) at (varlen-written [] [] v h) in
    found-whole bs (form-read bs (varlen-bytes v) 0 v (length bs) read)
