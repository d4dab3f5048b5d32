-- A Previous-GTIDs body is refused only for what the table says (`specs/BodyFaults.antt`), part by part.
use Prim.Native.Nat.{ℕ, ◌+◌, ◌*◌, ◌≤◌, ◌<◌}
use mathlib.Core.Path.{◌≡◌, refl, sym, ap, subst, ◌∙◌}
use mathlib.Core.Bool.{Bool, true, false}
use mathlib.Core.List.{List, [], ◌++◌}
use native.Mathlib.Omega.{arith}
use lib.Dec.{leb}
use lib.ListN.{length, drop, length-drop}
use borrow.Author.Tests.{leb-true, leb-false}
use Rattle.misc.specs.declared.refusal.Refusal.{Refusal}
use Rattle.misc.specs.Refusal.{number, ended, bad_tag, too_long}
use Rattle.misc.specs.Parse.{Bytes, parsed, refuse, many, part, bytes_at}
use Rattle.misc.specs.Body.{body_limit}
use Rattle.misc.specs.Le.{le_at}
use Rattle.misc.specs.Forms.{Form}
use Rattle.misc.proofs.ParseLaws.{split, never, bytes-parsed, part_length}
use Rattle.misc.proofs.Places.{part-from}
use Rattle.misc.proofs.Accepted.{form-read}
use Rattle.packets.specs.Key.{Key}
use Rattle.previous_gtids_event.specs.Entry.{Entry}
use Rattle.packets.specs.Tag.{none_or_tag}
use Rattle.previous_gtids_event.specs.Previous.{tag_at, key_at, Head, head, head_at, interval_at, intervals_after, entry_at, says_tagged, says_count, entries_after}
use Rattle.previous_gtids_event.specs.Previous.{entries_in, previous}
use Rattle.previous_gtids_event.proofs.Reading.{intervals-here, intervals-gone}
use Rattle.previous_gtids_event.proofs.Accepting.{header-found, KeyFound, key-found, HeadFound, head-found, head-whole, entries-found}
use Rattle.promises.specs.BodyFaults.{EntryFault, BodyFault}
use Rattle.promises.proofs.Gives.{Gives, refuse-gives, parsed-gives, then-gives, then-at-gives, mapped-gives, pick_gives, many-gives, bytes_gives}
use Rattle.promises.proofs.Gives.{le-gives, then-le-gives, sized-gives}
use Rattle.promises.proofs.TaggedFaulty.{cut-form}

module _ (s : List ℕ) (are : Bytes s) where
  -- ---- an entry at a place

  abbrev At : Bool → ℕ → ℕ → Type 0
  At tagged at = EntryFault tagged (drop at s)

  few : (at n : ℕ) → at ≤ length s → length s < at + n → length (drop at s) < n
  few at n inside over = rw length-drop (omega arith)

  -- what is wrong behind the uuid
  behind-uuid : (tagged : Bool) (at n : ℕ) (rest : List ℕ) → drop (at + 16) s ≡ rest → EntryFault tagged (part s at 16 ++ rest) n → At tagged at n
  behind-uuid tagged at n rest is bad =
      subst (λ (l : List ℕ). EntryFault tagged l n) (sym (part-from s at 16 ∙ ap (λ (l : List ℕ). part s at 16 ++ l) is)) bad

  tag-fault : (tagged : Bool) (at : ℕ) → at + 16 ≤ length s → Gives (At tagged at) (tag_at tagged s (at + 16))
  unfolding tag_at
  tag-fault false at room = parsed-gives (At false at) [] (at + 16)
  tag-fault true at room =
      let uuid = part s at 16 in
      let sixteen : length uuid ≡ 16 = part_length 16 s at room in
      sized-gives (At true at) s none_or_tag bad_tag (at + 16)
      (λ over. behind-uuid true at 1 _ refl (EntryFault.cut_tag_length uuid sixteen (cut-form s are (at + 16) over)))
      (λ n to told over.
      let x = form-read s are (at + 16) n to told in
      behind-uuid true at 1 _ x.is (EntryFault.cut_tag uuid (drop to s) sixteen x.holds (few to n x.inside over)))
      (λ n to told there bad.
      let x = form-read s are (at + 16) n to told in
      let form : Form (length (part s to n)) x.bytes = rw (part_length n s to there) x.holds in
      behind-uuid true at 6 _ (x.is ∙ ap (λ (l : List ℕ). x.bytes ++ l) (part-from s to n))
      (EntryFault.tag_rule uuid (part s to n) (drop (to + n) s) sixteen form bad))

  key-fault : (tagged : Bool) (at : ℕ) → at ≤ length s → Gives (At tagged at) (key_at tagged s at)
  unfolding key_at
  key-fault tagged at inside = then-at-gives (At tagged at) (bytes_at 16 s at) _ (at + 16)
      (bytes_gives (At tagged at) s 16 at (λ over. EntryFault.cut_uuid (few at 16 inside over)))
      (λ uuid next e. sym (bytes-parsed 16 s at uuid next e).2)
      (λ uuid e. mapped-gives (At tagged at) _ (tag_at tagged s (at + 16)) (tag-fault tagged at (bytes-parsed 16 s at uuid (at + 16) e).0))

  count-fault : (tagged : Bool) (at : ℕ) (k : Key) (m : ℕ) → KeyFound tagged s at k m → length s < m + 8 → At tagged at 1
  count-fault tagged at k m x over =
      behind-uuid tagged at 1 _ x.laid.is
      (EntryFault.cut_count (part s at 16) (drop m s) (part_length 16 s at x.room) x.laid.holds (few m 8 x.laid.inside over))

  head-fault : (tagged : Bool) (at : ℕ) → at ≤ length s → Gives (At tagged at) (head_at tagged s at)
  unfolding head_at
  head-fault tagged at inside = then-gives (At tagged at) (key_at tagged s at) _ (key-fault tagged at inside) (λ key next e.
      mapped-gives (At tagged at) _ (le_at 8 s next) (le-gives (At tagged at) s 8 next (count-fault tagged at key next (key-found s are tagged at key next e))))

  intervals-fault : (tagged : Bool) (at : ℕ) (k : Key) (n first : ℕ) → HeadFound tagged s at k n first → Gives (At tagged at) (many (interval_at s) n first)
  intervals-fault tagged at k n first x r e =
      split (first + 16 * n) (length s)
      (λ room. never (sym e ∙ intervals-here s n first room))
      (λ over.
      let bad : EntryFault tagged (part s at 16 ++ (x.key.laid.bytes ++ (x.count.bytes ++ drop first s))) 1 =
      EntryFault.cut_intervals (part s at 16) (drop first s) (part_length 16 s at x.key.room) x.key.laid.holds x.count.holds
      (few first (16 * n) x.count.inside over) in
      refuse-gives (At tagged at) ended (subst (λ (l : List ℕ). EntryFault tagged l 1) (sym (head-whole s are tagged x)) bad) r
      (sym (intervals-gone s n first x.count.inside over) ∙ e))

  pub entry-fault : (tagged : Bool) (at : ℕ) → at ≤ length s → Gives (At tagged at) (entry_at tagged s at)
  unfolding entry_at
  entry-fault tagged at inside = then-gives (At tagged at) (head_at tagged s at) (intervals_after s) (head-fault tagged at inside) listed
    where
      listed : (h : Head) (first : ℕ) → head_at tagged s at ≡ parsed h first → Gives (At tagged at) (intervals_after s h first)
      listed (head k n) first e =
          mapped-gives (At tagged at) _ (many (interval_at s) n first) (intervals-fault tagged at k n first (head-found s are tagged at k n first e))

  -- ---- an entry that the header counts, behind others

  counted-fault : length s ≤ body_limit → (h : ℕ) → le_at 8 s 0 ≡ parsed h 8 → (i at : ℕ) (before : List Entry) → i < says_count h
      → many (entry_at (says_tagged h) s) i 8 ≡ parsed before at → (n : ℕ) → (at ≤ length s → At (says_tagged h) at n) → BodyFault s n
  counted-fault small h read i at before below passed n bad =
      let header = header-found s are h read in
      let (size, front) = entries-found s are (says_tagged h) i 8 before at header.inside passed in
      let whole : s ≡ header.bytes ++ (front.bytes ++ drop at s) = header.is ∙ ap (λ (l : List ℕ). header.bytes ++ l) front.is in
      let short : length (header.bytes ++ (front.bytes ++ drop at s)) ≤ body_limit = subst (λ (l : List ℕ). length l ≤ body_limit) whole small in
      subst (λ (l : List ℕ). BodyFault l n) (sym whole)
      (BodyFault.in_entries short header.holds front.holds (rw size below) (bad front.inside))

  entries-fault : length s ≤ body_limit → Gives (BodyFault s) (entries_in s)
  entries-fault small = then-le-gives (BodyFault s) s 8 0 (entries_after s) (BodyFault.cut_header s) (λ h read.
      many-gives (BodyFault s) (entry_at (says_tagged h) s) (says_count h) 8 (λ i at before below passed r e.
      counted-fault small h read i at before below passed (number r) (λ inside. entry-fault (says_tagged h) at inside r e)))

  pub body-faults : (r : Refusal) → previous s ≡ refuse r → BodyFault s (number r)
  unfolding previous
  body-faults = pick_gives (BodyFault s) (leb (length s) body_limit) _ _
      (λ fits. entries-fault (leb-true _ _ fits))
      (λ long. refuse-gives (BodyFault s) too_long (BodyFault.too_long s (leb-false _ _ long)))
