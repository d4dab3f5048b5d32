-- The entries of a body, as `header_of` and `entry_at` read them one after another.
use Prim.Native.Nat.{ℕ, zero, suc, ◌+◌, ◌-◌, ◌*◌, ◌≤◌, ◌<◌}
use mathlib.Core.Path.{◌≡◌, refl, sym, ap, ◌∙◌}
use mathlib.Core.Bool.{Bool, true}
use mathlib.Core.List.{List, ◌∷◌}
use native.Mathlib.Omega.{arith}
use lib.ListN.{length, take, length-append, length-replicate}
use lib.Seq.{take_at}
use Rattle.std.specs.Prelude.{Result, Ok, Err, IsOk}
use Rattle.misc.specs.declared.refusal.Refusal.{Refusal}
use Rattle.misc.specs.Parse.{Parse, refuse, parsed, many, refusal_of}
use Rattle.misc.specs.Body.{of_body}
use Rattle.misc.specs.Le.{le_at}
use Rattle.misc.proofs.ParseLaws.{no_zero, part_length}
use Rattle.misc.proofs.BodyLaws.{body-fits}
use Rattle.misc.proofs.Walk.{ahead, many-next, whole-turn}
use Rattle.packets.specs.Gno.{Interval}
use Rattle.packets.specs.Kept.{padded}
use Rattle.packets.specs.Key.{Key}
use Rattle.previous_gtids_event.specs.Entry.{Entry, entry, uuid_of, tag_of}
use Rattle.previous_gtids_event.specs.Previous.{GoodKey, entry_at, previous}
use Rattle.previous_gtids_event.specs.Answers.{header_read, entry_told, entry_read}
use Rattle.previous_gtids_event.specs.declared.HeaderRead.{HeaderRead}
use Rattle.previous_gtids_event.specs.declared.EntryRead.{EntryRead}
use Rattle.previous_gtids_event.proofs.Reading.{interval_of, intervals_of, key-whole, entry-there, headless}
use Rattle.gtid_sets.specs.TakeIn.{proper}
use Rattle.set_intervals.specs.Intervals.{intervals_at}
use Rattle.misc.proofs.NumberLaws.{number-here}
use Rattle.set_check.specs.SetOf.{entries_of}
use Rattle.set_join.specs.TakeIn.{key_in, EntryIs}

-- intervals that are all there, read one after another or by their places
intervals-at : (s : List ℕ) (n at : ℕ) → at + 16 * n ≤ length s → intervals_at n s at ≡ intervals_of s n at
unfolding intervals_of interval_of
intervals-at s zero at h = refl
intervals-at s (suc n) at h =
    rw (number-here s at (omega arith), number-here s (at + 8) (omega arith), intervals-at s n (at + 16) (omega arith))

-- what the answer for an entry at a place says: its key, its intervals and where it ends
pub record ReadEntry (body : List ℕ) (at : ℕ) (e : EntryRead) (k : Key) (is : List Interval) (next : ℕ) : Type 0 where
  pub key : key_in e ≡ k
  pub good : GoodKey k
  pub list : intervals_at e.intervals body e.first ≡ is
  pub count : e.intervals ≡ length is
  pub end : e.first + 16 * e.intervals ≡ e.next
  pub next-is : e.next ≡ next
  pub inside : e.next ≤ length body
  pub size : at + (24 + length (tag_of k) + 16 * length is) ≤ next
  pub whole : proper is ≡ true → EntryIs body e

pub entry_was_read : (tagged : Bool) (body : List ℕ) (at : ℕ) (k : Key) (is : List Interval) (next : ℕ) → length body ≤ 65536
    → entry_at tagged body at ≡ parsed (entry k is) next
    → {e : EntryRead} → Ok e ≡ entry_read (of_body body (entry_at tagged body at)) → ReadEntry body at e k is next
unfolding padded
entry_was_read tagged body at k is next small p {e} told =
    let answer : ◌≡◌ {A = Result EntryRead Refusal} (Ok e) (Ok (entry_told (entry k is) next)) =
    told ∙ ap entry_read (body-fits body (entry_at tagged body at) small ∙ p) in
    let same : e ≡ entry_told (entry k is) next = cc in
    let there = entry-there tagged body at k is next p in
    let head = there.head in
    let tag = head.tag in
    let first : next - 16 * length is ≡ there.first = omega (arith, there.end) in
    let list : intervals_at (length is) body (next - 16 * length is) ≡ is =
    rw first (intervals-at body (length is) there.first (omega (arith, there.end, there.inside)) ∙ there.intervals) in
    let uuid : length (uuid_of k) ≡ 16 = ap length head.uuid ∙ part_length 16 body at (omega (arith, tag.after, tag.inside)) in
    let short : take (length (tag_of k)) (padded 32 (tag_of k)) ≡ tag_of k = take_at (tag_of k) _ (length (tag_of k)) refl in
    rw same (record {
      key = rw short (sym (key-whole k));
      good = record { uuid = uuid; rule = tag.rule };
      list = list;
      count = refl;
      end = omega (arith, there.end);
      next-is = refl;
      inside = there.inside;
      size = omega (arith, tag.after, head.eight, there.end);
      whole = λ h. record {
        uuid = uuid;
        tag = rw (length-append, length-replicate) (omega (arith, tag.short));
        short = tag.short;
        rule = rw short tag.rule;
        inside = omega (arith, there.end, there.inside);
        lawful = rw list h;
      };
    })

-- ---- one after another

-- a body that can be read has a header
pub header-there : (body : List ℕ) → refusal_of (previous body) ≡ 0 → (r : Result HeaderRead Refusal) → r ≡ header_read (of_body body (le_at 8 body 0))
    → IsOk r
header-there body z (Ok r) told = refl
header-there body z (Err x) told = absurd (no_zero x (rw (headless body told) at z))

-- the entries from a place on: the first, as it is read there, and the others
pub record NextEntry (tagged : Bool) (body : List ℕ) (at left : ℕ) (e : EntryRead) : Type 0 where
  pub key : Key
  pub list : List Interval
  pub read : ReadEntry body at e key list e.next
  pub first : entries_of (many (entry_at tagged body) left at) ≡ entry key list ∷ entries_of (many (entry_at tagged body) (left - 1) e.next)
  pub rest : refusal_of (many (entry_at tagged body) (left - 1) e.next) ≡ 0

-- and each of its entries is there
pub next-there : (tagged : Bool) (body : List ℕ) (at left : ℕ) → length body ≤ 65536 → 0 < left → refusal_of (many (entry_at tagged body) left at) ≡ 0
    → (r : Result EntryRead Refusal) → r ≡ entry_read (of_body body (entry_at tagged body at)) → IsOk r
next-there tagged body at left small some z r told =
    let more : left ≡ suc (left - 1) = omega arith in
    let w = whole-turn (entry_at tagged body) (left - 1) at (ap (λ (n : ℕ). refusal_of (many (entry_at tagged body) n at)) (sym more) ∙ z) in
    rw (told ∙ ap entry_read (body-fits body (entry_at tagged body at) small ∙ w.is)) refl

pub entry_next : (tagged : Bool) (body : List ℕ) (at left : ℕ) → length body ≤ 65536 → 0 < left → refusal_of (many (entry_at tagged body) left at) ≡ 0
    → {e : EntryRead} → Ok e ≡ entry_read (of_body body (entry_at tagged body at)) → NextEntry tagged body at left e
entry_next tagged body at left small some z {e} told =
    let more : left ≡ suc (left - 1) = omega arith in
    let w = whole-turn (entry_at tagged body) (left - 1) at (ap (λ (n : ℕ). refusal_of (many (entry_at tagged body) n at)) (sym more) ∙ z) in
    go more w.head w.next w.is w.rest
  where
    before : (x : Entry) (q : Parse (List Entry)) → refusal_of q ≡ 0 → entries_of (ahead x q) ≡ x ∷ entries_of q
    before x (refuse r) h = absurd (no_zero r h)
    before x (parsed es last) h = refl

    go : left ≡ suc (left - 1) → (x : Entry) (next : ℕ) → entry_at tagged body at ≡ parsed x next → refusal_of (many (entry_at tagged body) (left - 1) next) ≡ 0
        → NextEntry tagged body at left e
    go more (entry k is) next p rest =
        let r = entry_was_read tagged body at k is next small p told in
        let n : next ≡ e.next = sym r.next-is in
        record {
          key = k;
          list = is;
          read = rw n at r;
          first = ap (λ (m : ℕ). entries_of (many (entry_at tagged body) m at)) more
              ∙ ap entries_of (many-next (entry_at tagged body) (left - 1) at (entry k is) next p)
              ∙ before (entry k is) (many (entry_at tagged body) (left - 1) next) rest
              ∙ ap (λ (m : ℕ). entry k is ∷ entries_of (many (entry_at tagged body) (left - 1) m)) n;
          rest = rw n at rest;
        }
