-- A fault of an untagged event forces its number.
use Prim.Native.Nat.{ℕ, ◌+◌, ◌-◌, ◌*◌, ◌≤◌, ◌<◌}
use mathlib.Core.Path.{◌≡◌, ◌∙◌}
use mathlib.Core.Bool.{true}
use mathlib.Core.List.{List}
use native.Mathlib.Omega.{arith}
use lib.Dec.{eqb, leb, ltb}
use lib.ListN.{length, get_or}
use borrow.Author.Tests.{ltb-true, eqb-true, le-leb}
use Rattle.misc.specs.declared.refusal.Refusal.{Refusal}
use Rattle.misc.specs.Refusal.{ended, bad_lead}
use Rattle.misc.specs.Parse.{refuse, parsed, part}
use Rattle.misc.specs.Le.{le_of, le_at}
use Rattle.misc.specs.Mark.{has_bit, clear_bit}
use Rattle.misc.specs.Lenenc.{lenenc_at}
use Rattle.misc.proofs.ParseLaws.{split, pick-either, then-parsed, mapped-parsed}
use Rattle.misc.proofs.LeLaws.{le-here, le-gone}
use Rattle.misc.proofs.Forward.{le-forward, lenenc-forward}
use Rattle.packets.proofs.Tests.{and-true}
use Rattle.gtid_event.specs.declared.GtidEvent.{GtidEvent}
use Rattle.gtid_event_read.specs.Untagged.{Pair, pair, original_after, pair_at, timestamps_at, length_at, versions_at, opened, clock_at, untagged, later_at}
use Rattle.gtid_event_read.proofs.UntaggedLaws.{opening-here, untagged-gone, untagged-clock, clock-later}
use Rattle.promises.proofs.Stops.{Item, Ends, Later, Untagged, UntaggedStop}
use Rattle.promises.proofs.Forces.{Refuses, is-refused, lenenc-ends, lead-refused}

module _ (s : List ℕ) where
  -- an immediate number that is all there, and an original that it announces and that is not
  pair_ends : (w at : ℕ) → at + w ≤ length s → has_bit (8 * w - 1) (le_of (part s at w)) ≡ true → length s < at + w + w → pair_at w s at ≡ refuse ended
  unfolding pair_at
  pair_ends w at here bit over = rw (le-here w s at here, bit, le-gone w s (at + w) over)

  -- ---- places: what may be absent never leads back
  pair-forward : (w at : ℕ) {p : Pair} {next : ℕ} → pair_at w s at ≡ parsed p next → at ≤ next
  unfolding pair_at
  pair-forward w at {p} {next} e =
      let (v, m, q, r) = then-parsed (le_at w s at) (original_after w s) p next e in
      let one = le-forward s at w q in
      pick-either (has_bit (8 * w - 1) v) r
      (λ _ t. let (o, u, z) = mapped-parsed (pair (clear_bit (8 * w - 1) v)) (le_at w s m) p next t in omega (arith, (le-forward s m w u).0))
      (λ _ t. let same : m ≡ next = cc in omega arith)

  pub timestamps-forward : (at : ℕ) {p : Pair} {next : ℕ} → timestamps_at s at ≡ parsed p next → at ≤ next
  unfolding timestamps_at
  timestamps-forward at {p} {next} e =
      pick-either (leb 7 (length s - at)) e (λ _ q. pair-forward 7 at q) (λ _ q. let same : at ≡ next = cc in omega arith)

  pub length-forward : (at : ℕ) {v next : ℕ} → length_at s at ≡ parsed v next → at ≤ next
  unfolding length_at
  length-forward at {v} {next} e =
      pick-either (leb 1 (length s - at)) e (λ _ q. omega (arith, (lenenc-forward s at q).0)) (λ _ q. let same : at ≡ next = cc in omega arith)

  module _ (later : Later s) where
    abbrev start : GtidEvent
    start = opened (get_or s 0 0) (part s 1 16) (le_of (part s 17 8))

    inside : 25 < length s
    inside = ltb-true 25 (length s) (and-true (ltb 25 (length s)) _ later).0

    clock-reached : untagged s ≡ clock_at s start 26
    clock-reached =
        let h = inside in
        untagged-clock s (opening-here s (omega arith)) h (eqb-true _ _ (and-true (ltb 25 (length s)) (eqb (get_or s 25 0) 2) later).1)

    last-ends : length s < 34 → untagged s ≡ refuse ended
    last-ends over = clock-reached ∙ unfold clock_at in rw (le-gone 8 s 26 over)

    sequence-ends : length s < 42 → untagged s ≡ refuse ended
    sequence-ends over =
        split 34 (length s) (λ here. clock-reached ∙ unfold clock_at in rw (le-here 8 s 26 here, le-gone 8 s 34 over)) last-ends

    -- both numbers are there
    module _ (enough : 42 ≤ length s) where
      later-reached : untagged s ≡ later_at s start (le_of (part s 26 8)) (le_of (part s 34 8)) 42
      later-reached = clock-reached ∙ clock-later s start 26 (le-here 8 s 26 (omega arith)) (le-here 8 s 34 enough)

      timestamps-end : 49 ≤ length s → has_bit 55 (le_of (part s 42 7)) ≡ true → length s < 56 → untagged s ≡ refuse ended
      timestamps-end here bit over =
          let stop : timestamps_at s 42 ≡ refuse ended = unfold timestamps_at in rw (le-leb 7 (length s - 42) (omega arith)) (pair_ends 7 42 here bit over) in
          later-reached ∙ rw stop

      length-refused : {at : ℕ} {p : Pair} (x : Refusal) → timestamps_at s 42 ≡ parsed p at → at < length s → lenenc_at s at ≡ refuse x → untagged s ≡ refuse x
      length-refused {at} x passed here e =
          let stop : length_at s at ≡ refuse x = unfold length_at in rw (le-leb 1 (length s - at) (omega arith)) e in
          later-reached ∙ rw (passed, stop)

      versions-end : {at to : ℕ} {p : Pair} {v : ℕ} → timestamps_at s 42 ≡ parsed p at → length_at s at ≡ parsed v to → to + 4 ≤ length s
          → has_bit 31 (le_of (part s to 4)) ≡ true → length s < to + 4 + 4 → untagged s ≡ refuse ended
      versions-end {at} {to} passed then here bit over =
          let stop : versions_at s to ≡ refuse ended = unfold versions_at in rw (le-leb 4 (length s - to) (omega arith)) (pair_ends 4 to here bit over) in
          later-reached ∙ rw (passed, then, stop)

  cut-forced : (at : ℕ) (i : Item) → Untagged s at i → Ends i s at → untagged s ≡ refuse ended
  cut-forced at i Untagged.flags h = untagged-gone s (omega arith)
  cut-forced at i Untagged.uuid_bytes h = untagged-gone s (omega arith)
  cut-forced at i Untagged.gno h = untagged-gone s (omega arith)
  cut-forced at i (Untagged.last_committed later) h = last-ends later h
  cut-forced at i (Untagged.sequence_number later) h = sequence-ends later h
  cut-forced at i (Untagged.original_timestamp later here bit) h = timestamps-end later (omega arith) here bit h
  cut-forced at i (Untagged.transaction_length {at = to} before here) h =
      let (p, passed) = before.passed in
      length-refused before.later (omega (arith, timestamps-forward 42 passed)) ended passed here (lenenc-ends s to h)
  cut-forced at i (Untagged.original_version {at = to} before here bit) h =
      let (p, passed) = before.before.passed in
      let (v, then) = before.passed in
      versions-end before.before.later (omega (arith, timestamps-forward 42 passed, length-forward before.from then)) passed then here bit h

  pub untagged-forced : {n : ℕ} → UntaggedStop s n → Refuses (untagged s) n
  untagged-forced (UntaggedStop.cut at i wanted h) = is-refused ended (cut-forced at i wanted h)
  untagged-forced (UntaggedStop.lead at before here h) =
      let (p, passed) = before.passed in
      is-refused bad_lead (length-refused before.later (omega (arith, timestamps-forward 42 passed)) bad_lead passed here (lead-refused s at here h))
