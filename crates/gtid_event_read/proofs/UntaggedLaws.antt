-- Laws of the untagged layout (`specs/Untagged.antt`): what its parts give where they are there, and where they are not.
use mathlib.Core.Path.{◌≡◌}
use mathlib.Core.Bool.{true, false}
use mathlib.Core.List.{List}
use Prim.Native.Nat.{ℕ, ◌-◌, ◌*◌, ◌≤◌, ◌<◌}
use native.Mathlib.Omega.{arith}
use lib.ListN.{length, get_or}
use Rattle.packets.proofs.KeptLaws.{kept_whole}
use borrow.Author.Tests.{le-leb, lt-leb, lt-ltb, le-ltb, eq-eqb, ne_eqb}
use Rattle.misc.specs.Refusal.{ended}
use Rattle.misc.specs.Parse.{Parse, refuse, parsed, mapped, part, byte_at, bytes_at}
use Rattle.misc.specs.Le.{le_of, le_at}
use Rattle.misc.specs.Mark.{has_bit, clear_bit}
use Rattle.std.specs.Prelude.{Ok}
use Rattle.misc.specs.declared.Read.{Read}
use Rattle.gtid_event_read.specs.declared.untagged.Pair.{Pair as PairRead}
use Rattle.gtid_event_read.specs.Pairs.{paired, pair_read}
use Rattle.misc.proofs.ParseLaws.{ok-err, split, then-parsed, mapped-parsed, part_length, byte-here, byte-gone, bytes-here, bytes-gone}
use Rattle.misc.proofs.LeLaws.{le-here, le-gone}
use Rattle.packets.specs.Kept.{kept}
use Rattle.gtid_event.specs.declared.GtidEvent.{GtidEvent}
use Rattle.gtid_event_read.specs.Untagged.{Pair, pair, pair_at, if_left, timestamps_at, length_at, versions_at, opened, opening_at, clocked}
use Rattle.gtid_event_read.specs.Untagged.{clock_at, untagged}
use Rattle.gtid_event_read.specs.Untagged.{later_at}

-- ---- flags, uuid, gno and the typecode
module _ (s : List ℕ) where
  pub opening-here : 25 ≤ length s → opening_at s 0 ≡ parsed (opened (get_or s 0 0) (part s 1 16) (le_of (part s 17 8))) 25
  unfolding opening_at
  opening-here h = rw (byte-here s 0 (omega arith), bytes-here 16 s 1 (omega arith), le-here 8 s 17 (omega arith))

  -- the uuid's sixteen bytes are kept as they are
  pub uuid-here : 25 ≤ length s → kept 16 (part s 1 16) ≡ part s 1 16
  uuid-here h = kept_whole 16 (part s 1 16) (part_length 16 s 1 (omega arith))

  pub opening-gone : length s < 25 → opening_at s 0 ≡ refuse ended
  unfolding opening_at
  opening-gone h =
      split (length s) 0 (λ k. rw (byte-gone s 0 k)) (λ k.
      split 17 (length s)
      (λ l. rw (byte-here s 0 k, bytes-here 16 s 1 l, le-gone 8 s 17 (omega arith)))
      (λ l. rw (byte-here s 0 k, bytes-gone 16 s 1 l)))

  pub untagged-gone : length s < 25 → untagged s ≡ refuse ended
  unfolding untagged
  untagged-gone h = rw (opening-gone h)

  module _ {e : GtidEvent} (is : opening_at s 0 ≡ parsed e 25) where
    pub untagged-clock : 25 < length s → get_or s 25 0 ≡ 2 → untagged s ≡ clock_at s e 26
    unfolding untagged
    untagged-clock h t = rw (is, lt-ltb 25 (length s) h, eq-eqb (get_or s 25 0) 2 t)

    pub untagged-other : 25 < length s → (get_or s 25 0 ≡ 2 → ⊥) → untagged s ≡ parsed e 25
    unfolding untagged
    untagged-other h t = rw (is, lt-ltb 25 (length s) h, ne_eqb (get_or s 25 0) 2 t)

    pub untagged-end : length s ≤ 25 → untagged s ≡ parsed e 25
    unfolding untagged
    untagged-end h = rw (is, le-ltb 25 (length s) h)

-- ---- what follows the typecode
pub clock-later : (s : List ℕ) (e : GtidEvent) (at : ℕ) {last sequence at₁ at₂ : ℕ} → le_at 8 s at ≡ parsed last at₁ → le_at 8 s at₁ ≡ parsed sequence at₂
    → clock_at s e at ≡ later_at s e last sequence at₂
unfolding clock_at
clock-later s e at p q = rw (p, q)

-- ---- parts that may be absent
module _ {A : Type 0} (n : ℕ) (s : List ℕ) (at : ℕ) (absent : A) (item : Parse A) where
  pub left-absent : length s - at < n → if_left n s at absent item ≡ parsed absent at
  left-absent h = rw (lt-leb n (length s - at) h)

  pub left_there : n ≤ length s - at → if_left n s at absent item ≡ item
  left_there h = rw (le-leb n (length s - at) h)

-- ---- pairs, whose first number is v
module _ (w : ℕ) (s : List ℕ) (at : ℕ) {v next : ℕ} (first : le_at w s at ≡ parsed v next) where
  pub pair-both : has_bit (8 * w - 1) v ≡ true → pair_at w s at ≡ mapped (pair (clear_bit (8 * w - 1) v)) (le_at w s next)
  unfolding pair_at
  pair-both bit = rw (first, bit)

  pub pair_one : has_bit (8 * w - 1) v ≡ false → pair_at w s at ≡ parsed (pair v v) next
  unfolding pair_at
  pair_one bit = rw (first, bit)

-- from the answer of a reader of them
pub pair-told : (p : Parse Pair) {r : Read PairRead} → Ok r ≡ pair_read p → p ≡ parsed (pair r.value.immediate r.value.original) r.next
pair-told (refuse x) e = absurd (ok-err e)
pair-told (parsed (pair i o) next) {r} e = let same : r ≡ paired (pair i o) next = cc in rw same

-- ---- what a success says of the parts
pub record OpeningParts (s : List ℕ) (at : ℕ) (e : GtidEvent) (next : ℕ) : Type 0 where
  pub flags : ℕ
  pub sid : List ℕ
  pub gno : ℕ
  pub at₁ : ℕ
  pub at₂ : ℕ
  pub flags-read : byte_at s at ≡ parsed flags at₁
  pub sid-read : bytes_at 16 s at₁ ≡ parsed sid at₂
  pub gno-read : le_at 8 s at₂ ≡ parsed gno next
  pub is : e ≡ opened flags sid gno

pub opening-parsed : (s : List ℕ) (at : ℕ) {e : GtidEvent} {next : ℕ} → opening_at s at ≡ parsed e next → OpeningParts s at e next
unfolding opening_at
opening-parsed s at {e} {next} q =
    let (flags, at₁, p₁, e₁) = then-parsed (byte_at s at) _ e next q in
    let (sid, at₂, p₂, e₂) = then-parsed (bytes_at 16 s at₁) _ e next e₁ in
    let (gno, p₃, is) = mapped-parsed (opened flags sid) (le_at 8 s at₂) e next e₂ in
    record { flags = flags; sid = sid; gno = gno; at₁ = at₁; at₂ = at₂; flags-read = p₁; sid-read = p₂; gno-read = p₃; is = is }

pub record ClockParts (s : List ℕ) (event : GtidEvent) (at : ℕ) (e : GtidEvent) (next : ℕ) : Type 0 where
  pub last : ℕ
  pub sequence : ℕ
  pub timestamps : Pair
  pub len : ℕ
  pub versions : Pair
  pub at₁ : ℕ
  pub at₂ : ℕ
  pub at₃ : ℕ
  pub at₄ : ℕ
  pub last-read : le_at 8 s at ≡ parsed last at₁
  pub sequence-read : le_at 8 s at₁ ≡ parsed sequence at₂
  pub timestamps-read : timestamps_at s at₂ ≡ parsed timestamps at₃
  pub len_read : length_at s at₃ ≡ parsed len at₄
  pub versions-read : versions_at s at₄ ≡ parsed versions next
  pub is : e ≡ clocked event last sequence timestamps len versions

pub clock-parsed : (s : List ℕ) (event : GtidEvent) (at : ℕ) {e : GtidEvent} {next : ℕ} → clock_at s event at ≡ parsed e next → ClockParts s event at e next
unfolding clock_at
clock-parsed s event at {e} {next} q =
    let (last, at₁, p₁, e₁) = then-parsed (le_at 8 s at) _ e next q in
    let (sequence, at₂, p₂, e₂) = then-parsed (le_at 8 s at₁) _ e next e₁ in
    let (timestamps, at₃, p₃, e₃) = then-parsed (timestamps_at s at₂) _ e next e₂ in
    let (len, at₄, p₄, e₄) = then-parsed (length_at s at₃) _ e next e₃ in
    let (versions, p₅, is) = mapped-parsed (clocked event last sequence timestamps len) (versions_at s at₄) e next e₄ in
    record {
      last = last;
      sequence = sequence;
      timestamps = timestamps;
      len = len;
      versions = versions;
      at₁ = at₁;
      at₂ = at₂;
      at₃ = at₃;
      at₄ = at₄;
      last-read = p₁;
      sequence-read = p₂;
      timestamps-read = p₃;
      len_read = p₄;
      versions-read = p₅;
      is = is;
    }
