-- What a read that finds a value says of places: it ends behind where it began, and within the bytes. A loop over items falls by this.
use mathlib.Core.Path.{◌≡◌, sym}
use mathlib.Core.List.{List}
use Prim.Native.Nat.{ℕ, ◌+◌, ◌≤◌, ◌<◌}
use native.Mathlib.Omega.{arith}
use lib.ListN.{length}
use lib.Dec.{ltb, eqb}
use Rattle.misc.specs.Parse.{parsed, bytes_at, byte_at}
use Rattle.misc.specs.Le.{le_of, le_at}
use Rattle.misc.specs.Lenenc.{led_at, lenenc_at}
use Rattle.misc.specs.Varlen.{trailing_ones, item_value, varlen_at}
use Rattle.misc.proofs.ParseLaws.{never, pick-either, then-parsed, mapped-parsed, bytes-parsed, byte-parsed}

-- read from at to next, in s
abbrev pub Forward : List ℕ → ℕ → ℕ → Type 0
Forward s at next = (at < next) × (next ≤ length s)

module _ (s : List ℕ) (at : ℕ) {v next : ℕ} where
  pub le-forward : (n : ℕ) → le_at n s at ≡ parsed v next → (next ≡ at + n) × (next ≤ length s)
  unfolding le_at
  le-forward n e =
      let (bs, p, q) = mapped-parsed le_of (bytes_at n s at) v next e in
      let h = bytes-parsed n s at bs next p in
      (sym h.2, omega arith)

  pub varlen-forward : varlen_at s at ≡ parsed v next → Forward s at next
  unfolding varlen_at
  varlen-forward e =
      let (b, m, p, q) = then-parsed (byte_at s at) _ v next e in
      let t = trailing_ones 8 b in
      let (bs, r, u) = mapped-parsed (item_value t) (bytes_at (t + 1) s at) v next q in
      let h = bytes-parsed (t + 1) s at bs next r in
      (omega arith, omega arith)

-- a lead byte and what it leads
led-forward : (s : List ℕ) (at lead : ℕ) {v next : ℕ} → at < length s → led_at lead s (at + 1) ≡ parsed v next → Forward s at next
unfolding led_at
led-forward s at lead {v} {next} inside e =
    pick-either (ltb lead 251) e (λ _ p. let h : at + 1 ≡ next = cc in (omega arith, omega arith))
    (λ _ p. pick-either (eqb lead 0xFC) p (λ _. tail 2)
    (λ _ q. pick-either (eqb lead 0xFD) q (λ _. tail 3)
    (λ _ r. pick-either (eqb lead 0xFE) r (λ _. tail 8) (λ _. never))))
  where
    tail : (n : ℕ) → le_at n s (at + 1) ≡ parsed v next → Forward s at next
    tail n p = let h = le-forward s (at + 1) n p in (omega arith, omega arith)

pub lenenc-forward : (s : List ℕ) (at : ℕ) {v next : ℕ} → lenenc_at s at ≡ parsed v next → Forward s at next
unfolding lenenc_at
lenenc-forward s at {v} {next} e =
    let (lead, m, p, q) = then-parsed (byte_at s at) _ v next e in
    let h = byte-parsed s at lead m p in
    led-forward s at lead h.0 (rw h.2 at q)
