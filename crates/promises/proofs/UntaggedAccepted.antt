-- An untagged record that is read is laid out.
use Prim.Native.Nat.{ℕ, ◌+◌, ◌-◌, ◌*◌, ◌^◌, ◌≤◌, ◌<◌}
use mathlib.Core.Path.{◌≡◌, refl, sym, ap, subst, ◌∙◌}
use mathlib.Core.Bool.{true, false}
use mathlib.Core.List.{List, [], ◌∷◌, ◌++◌, append_assoc}
use mathlib.Core.Logic.{inl, inr}
use native.Mathlib.Nat.{pow-suc}
use native.Mathlib.Numerals.{add-one}
use native.Mathlib.Omega.{arith}
use lib.Dec.{ltb, leb, eqb}
use lib.ListN.{length, drop, get_or, length-append, length-drop, drop_of_length-le}
use lib.Seq.{drop-cons}
use borrow.Author.Tests.{ltb-true, eqb-true, eqb-false, leb-false, ltb-false}
use Rattle.misc.specs.Pick.{pick}
use Rattle.misc.specs.Parse.{Bytes, parsed, bytes_at, byte_at}
use Rattle.misc.specs.Le.{le_at}
use Rattle.misc.specs.Mark.{has_bit, clear_bit}
use Rattle.misc.proofs.ParseLaws.{split, pick-either, then-parsed, mapped-parsed, bytes-parsed, byte-parsed, part_length}
use Rattle.misc.proofs.LeLaws.{pow-bytes}
use Rattle.misc.proofs.Bounds.{le_below, unmarked-below}
use Rattle.misc.proofs.MarkLaws.{top-bit-clear, top-bit-set}
use Rattle.misc.proofs.Places.{part-from, Found, found_as, found-both, found-size}
use Rattle.misc.proofs.Accepted.{number-found, lenenc-found}
use Rattle.packets.proofs.Tests as tests
use Rattle.packets.proofs.Tests.{clash, and-true}
use Rattle.gtid_event.specs.declared.GtidEvent.{GtidEvent}
use Rattle.gtid_event_read.specs.Untagged.{Pair, pair, if_left, original_after, pair_at, timestamps_at, length_at, versions_at, opening_at, clocked, clock_at}
use Rattle.gtid_event_read.specs.Untagged.{typecode_at, untagged}
use Rattle.gtid_event_read.proofs.UntaggedLaws.{OpeningParts, opening-parsed, clock-parsed}
use Rattle.promises.specs.UntaggedLayout.{PairLaid, PairIfLeft, LengthIfLeft, NoTypecode, ShortLaid, LongLaid, UntaggedLaid}
use Rattle.promises.proofs.Gives.{le-parsed}

module _ (s : List ℕ) where
  -- ---- bytes

  byte-at : (at b next : ℕ) → byte_at s at ≡ parsed b next → (drop at s ≡ (b ∷ []) ++ drop next s) × (next ≡ at + 1)
  byte-at at b next e =
      let (inside, is, end) = byte-parsed s at b next e in
      (drop-cons s at 0 inside ∙ rw (is, end, add-one at), end)

  bytes-at : (n at : ℕ) (bs : List ℕ) (next : ℕ) → bytes_at n s at ≡ parsed bs next → (drop at s ≡ bs ++ drop next s) × (length bs ≡ n) × (next ≡ at + n)
  bytes-at n at bs next e =
      let (room, these, end) = bytes-parsed n s at bs next e in
      (part-from s at n ∙ rw (these, end), ap length (sym these) ∙ part_length n s at room, sym end)

  -- ---- a transaction length

  pub length_found : (at v next : ℕ) → at ≤ length s → length_at s at ≡ parsed v next → Found (λ bs. LengthIfLeft v bs (drop next s)) s at next
  unfolding length_at
  length_found at v next inside e =
      pick-either (leb 1 (length s - at)) e
      (λ _ p. found_as s (λ bs. LengthIfLeft.there) (lenenc-found s at v next p))
      (λ few p.
      let none : 0 ≡ v = cc in
      let end : at ≡ next = cc in
      let past : drop next s ≡ [] = drop_of_length-le s {i = next} (omega (arith, leb-false 1 (length s - at) few)) in
      record { bytes = []; holds = rw (past, ← none) LengthIfLeft.gone; is = rw end; inside = omega arith })

  -- ---- pairs

  module _ (are : Bytes s) (w : ℕ) (some : 1 ≤ w) where
    -- a number of w bytes whose highest bit is set
    pub marked-is : (v : ℕ) → v < 2 ^ (8 * w) → has_bit (8 * w - 1) v ≡ true
        → (v ≡ clear_bit (8 * w - 1) v + 2 ^ (8 * w - 1)) × (clear_bit (8 * w - 1) v < 2 ^ (8 * w - 1))
    marked-is v below bit =
        let k = 8 * w - 1 in
        let one : k + 1 ≡ 8 * w = omega arith in
        let double : 2 ^ (k + 1) ≡ 2 ^ k * 2 = rw (add-one k, pow-suc) in
        let low : v < 2 ^ (k + 1) = rw one below in
        split (2 ^ k) v
        (λ large. let (_, clear) = top-bit-set k v large low in (omega arith, omega arith))
        (λ small. clash bit (top-bit-clear k v small).0)

    pair_found : (at i o next : ℕ) → pair_at w s at ≡ parsed (pair i o) next → Found (PairLaid w i o) s at next
    unfolding pair_at
    pair_found at i o next e =
        let (v, m, p, q) = then-parsed (le_at w s at) (original_after w s) (pair i o) next e in
        go v m p q
      where
        go : (v m : ℕ) → le_at w s at ≡ parsed v m → original_after w s v m ≡ parsed (pair i o) next → Found (PairLaid w i o) s at next
        go v m p q =
            let below : v < 2 ^ (8 * w) = rw (pow-bytes w) at (le_below s are w at p) in
            let first = number-found s w at v m p in
            pick-either (has_bit (8 * w - 1) v) q
            (λ bit r.
            let (original, read, is) = mapped-parsed (pair (clear_bit (8 * w - 1) v)) (le_at w s m) (pair i o) next r in
            let imm : clear_bit (8 * w - 1) v ≡ i = cc in
            let orig : original ≡ o = cc in
            let (sum, small) = marked-is v below bit in
            let total : v ≡ i + 2 ^ (8 * w - 1) = rw imm at sum in
            found-both s (λ a b n n'. PairLaid.both (rw total at n) (rw imm at small) (rw orig at n')) first (number-found s w m original next read))
            (λ bit r.
            let imm : v ≡ i = cc in
            let orig : v ≡ o = cc in
            let end : m ≡ next = cc in
            let one : 8 * w - 1 + 1 ≡ 8 * w = omega arith in
            let small : v < 2 ^ (8 * w - 1) = unmarked-below (8 * w - 1) v (rw one below) bit in
            rw (← imm, ← orig, ← end) (found_as s (λ bs n. PairLaid.equal n small) first))

    pub left-found : (absent at i o next : ℕ) → at ≤ length s → if_left w s at (pair absent absent) (pair_at w s at) ≡ parsed (pair i o) next
        → Found (λ bs. PairIfLeft w absent i o bs (drop next s)) s at next
    left-found absent at i o next inside e =
        pick-either (leb w (length s - at)) e
        (λ _ p. found_as s (λ bs. PairIfLeft.there) (pair_found at i o next p))
        (λ few p.
        let imm : absent ≡ i = cc in
        let orig : absent ≡ o = cc in
        let end : at ≡ next = cc in
        let short : length (drop at s) < w = rw length-drop (leb-false w (length s - at) few) in
        rw (← imm, ← orig, ← end) (record { bytes = []; holds = PairIfLeft.gone short; is = refl; inside = inside }))

  -- ---- the typecode

  no_typecode : (at : ℕ) → typecode_at s at ≡ false → NoTypecode (drop at s)
  no_typecode at e =
      tests.split (ltb at (length s))
      (λ inside.
      let other : eqb (get_or s at 0) 2 ≡ false = rw inside at e in
      rw (drop-cons s at 0 (ltb-true at (length s) inside)) (NoTypecode.other (eqb-false (get_or s at 0) 2 other)))
      (λ past.
      let none : drop at s ≡ [] = drop_of_length-le s {i = at} (ltb-false at (length s) past) in
      rw none NoTypecode.nothing)

  pub typecode : (at : ℕ) → typecode_at s at ≡ true → drop at s ≡ (2 ∷ []) ++ drop (at + 1) s
  typecode at e =
      let (inside, two) = and-true (ltb at (length s)) (eqb (get_or s at 0) 2) e in
      drop-cons s at 0 (ltb-true at (length s) inside) ∙ rw (eqb-true (get_or s at 0) 2 two, add-one at)

-- ---- the record

module _ (s : List ℕ) (are : Bytes s) where
  short-laid : {event : GtidEvent} {at : ℕ} → OpeningParts s 0 event at → typecode_at s at ≡ false → ShortLaid s event at
  short-laid {event} {at} o none =
      let (first, one) = byte-at s 0 o.flags o.at₁ o.flags-read in
      let (second, sixteen, two) = bytes-at s 16 o.at₁ o.sid o.at₂ o.sid-read in
      let third = number-found s 8 o.at₂ o.gno at o.gno-read in
      let (_, _, three) = le-parsed 8 s o.at₂ o.gno at o.gno-read in
      let eight = third.holds.long in
      rw o.is (record {
        gno_bytes = third.bytes;
        unread = drop at s;
        whole = first ∙ rw (second, third.is) (simp append_assoc);
        uuid_is = sixteen;
        gno_is = third.holds;
        no_typecode = no_typecode s at none;
        others = refl;
        uses = simp length-append (omega arith);
      })

  module _ {event : GtidEvent} {at : ℕ} (o : OpeningParts s 0 event at) (two : typecode_at s at ≡ true) where
    long-laid : (last sequence : ℕ) (timestamps : Pair) (len : ℕ) (versions : Pair) (at₁ at₂ at₃ at₄ next : ℕ) → le_at 8 s (at + 1) ≡ parsed last at₁
        → le_at 8 s at₁ ≡ parsed sequence at₂ → timestamps_at s at₂ ≡ parsed timestamps at₃ → length_at s at₃ ≡ parsed len at₄
        → versions_at s at₄ ≡ parsed versions next → LongLaid s (clocked event last sequence timestamps len versions) next
    unfolding timestamps_at versions_at
    long-laid last sequence (pair i o') len (pair v ov) at₁ at₂ at₃ at₄ next p₁ p₂ p₃ p₄ p₅ =
        let (first, one) = byte-at s 0 o.flags o.at₁ o.flags-read in
        let (second, sixteen, seventeen) = bytes-at s 16 o.at₁ o.sid o.at₂ o.sid-read in
        let third = number-found s 8 o.at₂ o.gno at o.gno-read in
        let fourth = typecode s at two in
        let fifth = number-found s 8 (at + 1) last at₁ p₁ in
        let sixth = number-found s 8 at₁ sequence at₂ p₂ in
        let times = left-found s are 7 (omega arith) 0 at₂ i o' at₃ sixth.inside p₃ in
        let size = length_found s at₃ len at₄ times.inside p₄ in
        let servers = left-found s are 4 (omega arith) 999999 at₄ v ov next size.inside p₅ in
        rw o.is (record {
          gno_bytes = third.bytes;
          last_bytes = fifth.bytes;
          sequence_bytes = sixth.bytes;
          timestamps = times.bytes;
          len_bytes = size.bytes;
          versions = servers.bytes;
          unread = drop next s;
          whole = first ∙ rw (second, third.is, fourth, fifth.is, sixth.is, times.is, size.is, servers.is) (simp append_assoc);
          uuid_is = sixteen;
          gno_is = third.holds;
          last_is = fifth.holds;
          sequence_is = sixth.holds;
          timestamps_are = subst (λ (l : List ℕ). PairIfLeft 7 0 i o' times.bytes l)
              (size.is ∙ ap (λ (l : List ℕ). size.bytes ++ l) servers.is ∙ sym (append_assoc size.bytes servers.bytes (drop next s))) times.holds;
          len_is = subst (λ (l : List ℕ). LengthIfLeft len size.bytes l) servers.is size.holds;
          versions_are = servers.holds;
          others = (refl, refl, refl, refl);
          uses = simp length-append (omega (
            arith,
            sixteen,
            third.holds.long,
            fifth.holds.long,
            sixth.holds.long,
            one,
            seventeen,
            (le-parsed 8 s o.at₂ o.gno at o.gno-read).2,
            (le-parsed 8 s (at + 1) last at₁ p₁).2,
            (le-parsed 8 s at₁ sequence at₂ p₂).2,
            found-size s times sixth.inside,
            found-size s size times.inside,
            found-size s servers size.inside,
          ));
        })

  pub untagged-accepted : (e : GtidEvent) (used : ℕ) → untagged s ≡ parsed e used → UntaggedLaid s e used
  unfolding untagged
  untagged-accepted e used read =
      let (event, at, p, q) = then-parsed (opening_at s 0) _ e used read in
      go event at (opening-parsed s 0 p) q
    where
      go : (event : GtidEvent) (at : ℕ) → OpeningParts s 0 event at → pick (typecode_at s at) (clock_at s event (at + 1)) (parsed event at) ≡ parsed e used
          → UntaggedLaid s e used
      go event at o q =
          pick-either (typecode_at s at) q
          (λ two r.
          let c = clock-parsed s event (at + 1) r in
          inr (rw c.is (long-laid o two c.last c.sequence c.timestamps c.len c.versions c.at₁ c.at₂ c.at₃ c.at₄ used
          c.last-read c.sequence-read c.timestamps-read c.len_read c.versions-read)))
          (λ none r.
          let same : event ≡ e = cc in
          let end : at ≡ used = cc in
          inl (rw (← same, ← end) (short-laid o none)))
