-- Judging the gno rule entry after entry: what the walk of `lawful_body` needs.
use Prim.Native.Nat.{ℕ, ◌-◌, ◌*◌, ◌≤◌, ◌<◌}
use mathlib.Core.Path.{◌≡◌, sym, ap, ◌∙◌}
use mathlib.Core.Bool.{Bool, true, false, ◌&&◌}
use mathlib.Core.List.{List}
use native.Mathlib.Omega.{arith}
use lib.ListN.{length}
use Rattle.std.specs.Prelude.{Ok}
use Rattle.previous_gtids_event.proofs.Reading.{headed}
use Rattle.misc.specs.Parse.{Parse, many, refusal_of, part}
use Rattle.misc.specs.Body.{of_body}
use Rattle.misc.specs.Le.{le_at}
use Rattle.misc.proofs.Walk.{many-none}
use Rattle.previous_gtids_event.specs.Entry.{Entry}
use Rattle.previous_gtids_event.specs.Previous.{entry_at, previous}
use Rattle.previous_gtids_event.specs.Answers.{header_read, entry_read}
use Rattle.previous_gtids_event.specs.declared.HeaderRead.{HeaderRead}
use Rattle.previous_gtids_event.specs.declared.EntryRead.{EntryRead}
use Rattle.gtid_sets.specs.TakeIn.{proper, lawful}
use Rattle.set_intervals.specs.Intervals.{intervals_in}
use Rattle.set_intervals.proofs.Standing.{intervals-lent}
use Rattle.set_check.specs.SetOf.{entries_of}
use Rattle.set_join.proofs.EntryLaws.{NextEntry, entry_next}

-- the body obeys the gno rule just if its entries from a place on do, and these can be read
pub record StillLawful (body : List ℕ) (tagged : Bool) (at left : ℕ) : Type 0 where
  pub small : length body ≤ 65536
  pub whole : refusal_of (many (entry_at tagged body) left at) ≡ 0
  pub same : lawful (entries_of (previous body)) ≡ lawful (entries_of (many (entry_at tagged body) left at))

pub lawful-none : (body : List ℕ) {r : HeaderRead} → Ok r ≡ header_read (of_body body (le_at 8 body 0)) → refusal_of (previous body) ≡ 0
    → (left : ℕ) → left ≡ r.entries → StillLawful body r.tagged 8 left
lawful-none body told z left same =
    let (all, room, small) = headed body told in
    rw same (record { small = small; whole = rw all at z; same = ap (λ (p : Parse (List Entry)). lawful (entries_of p)) all })

module _ (body : List ℕ) (tagged : Bool) (at left : ℕ) (g : StillLawful body tagged at left) where
  pub lawful-all : left ≡ 0 → true ≡ lawful (entries_of (previous body))
  lawful-all h = sym (g.same ∙ rw (h, many-none (entry_at tagged body) at))

  module _ (some : 0 < left) {e : EntryRead} (told : Ok e ≡ entry_read (of_body body (entry_at tagged body at))) where
    next : NextEntry tagged body at left e
    next = entry_next tagged body at left g.small some g.whole told

    pub entry-inside : (e.first ≤ e.next) × (e.next ≤ length body)
    entry-inside = (omega (arith, next.read.end), next.read.inside)

    -- its intervals, as they are lent
    entry-lent : intervals_in (part body e.first (e.next - e.first)) ≡ next.list
    entry-lent =
        let size : e.next - e.first ≡ 16 * e.intervals = omega (arith, next.read.end) in
        ap (λ (n : ℕ). intervals_in (part body e.first n)) size
        ∙ intervals-lent e.intervals body e.first (omega (arith, next.read.end, next.read.inside))
        ∙ next.read.list

    module _ (fine : Bool) (judged : fine ≡ proper (intervals_in (part body e.first (e.next - e.first)))) where
      next-lawful : lawful (entries_of (previous body)) ≡ fine && lawful (entries_of (many (entry_at tagged body) (left - 1) e.next))
      next-lawful = g.same ∙ ap lawful next.first ∙ rw (judged, entry-lent)

      pub lawful-turn : fine ≡ true → StillLawful body tagged e.next (left - 1)
      lawful-turn h = record { small = g.small; whole = next.rest; same = next-lawful ∙ rw h }

      pub lawful-stops : fine ≡ false → false ≡ lawful (entries_of (previous body))
      lawful-stops h = sym (next-lawful ∙ rw h)
