-- Laws of the walk over a set's entries: where it begins, and a step of it.
use Prim.Native.Nat.{ℕ, zero, suc, ◌+◌, ◌-◌, ◌*◌, ◌<◌, ◌≤◌}
use mathlib.Core.Path.{◌≡◌, refl, sym, ap, ◌∙◌}
use mathlib.Core.Bool.{Bool}
use mathlib.Core.List.{List, [], ◌∷◌}
use native.Mathlib.Omega.{arith}
use lib.ListN.{length}
use Rattle.misc.specs.Parse.{part}
use Rattle.misc.proofs.ParseLaws.{part_length}
use Rattle.packets.specs.Gno.{Interval}
use Rattle.packets.proofs.TagLaws.{none-or-tag-short}
use Rattle.previous_gtids_event.specs.Entry.{Entry, entry, tag_of}
use Rattle.previous_gtids_event.specs.Previous.{GoodKey}
use Rattle.previous_gtids_event.specs.Rewrite.{entries_bytes, any_tag}
use Rattle.previous_gtids_event.proofs.Reading.{tag-of}
use Rattle.gtid_sets.specs.Interval.{Some, Gapped}
use Rattle.gtid_sets.specs.Lent.{form, lent_set}
use Rattle.set_intervals.specs.Intervals.{intervals_at}
use Rattle.set_check.specs.Places.{place_at, place_in, key_there, entries_at}
use Rattle.set_check.specs.Cursor.{begun, beyond_of, entries_left, key_here, CursorIs}
use Rattle.set_check.specs.SetOf.{set_of, IsSet, Fits}
use Rattle.set_check.specs.declared.Checked.{Checked}
use Rattle.set_check.specs.declared.Cursor.{Cursor}
use Rattle.set_check.specs.declared.EntryPlace.{EntryPlace}
use Rattle.set_check.proofs.EntryPlaces.{lies, place_here, untagged-parts, first_next}
use Rattle.set_check.proofs.SetOfLaws.{set-bytes, set-stands}

-- ---- where it begins

pub cursor-starts : (bs : List ℕ) (w : Bool) (n : ℕ) → IsSet bs w n
    → CursorIs bs (record { tagged = w; at = 8; left = n }) × (entries_at n w bs 8 ≡ set_of bs)
cursor-starts bs w n is =
    let (are, there) = set-stands bs w n is in
    let (long, bytes) = set-bytes bs w n is in (
      record {
        there = there;
        bytes = bytes ∙ ap (entries_bytes w) (sym are);
        formed = rw are is.formed;
        keyed = rw are is.keyed;
        tags = λ f. ap any_tag are ∙ is.tags ∙ f;
        small = is.small;
        inside = long;
      },
      are,
    )

-- a set that was checked
pub cursor-begins : (bs : List ℕ) (c : Checked) → Fits bs c → CursorIs bs (begun c) × (lent_set bs ≡ form (entries_left bs (begun c)))
cursor-begins bs c f =
    let (is, are) = cursor-starts bs c.tagged c.entries f.set in
    (is, f.lent ∙ ap form (sym are))

-- ---- a step

-- the next entry, as it stands there, and the others
pub record Ahead (bs : List ℕ) (c : Cursor) (p : EntryPlace) : Type 0 where
  pub is : entries_left bs c ≡ entry (key_here bs c p) (intervals_at p.count bs p.first) ∷ entries_left bs (beyond_of c p)
  pub next : CursorIs bs (beyond_of c p)
  pub some : Some (intervals_at p.count bs p.first)
  pub gapped : Gapped 0 (intervals_at p.count bs p.first)
  pub good : GoodKey (key_here bs c p)
  pub uuid : length (part bs c.at 16) ≡ 16
  pub uuid_inside : c.at + 16 ≤ length bs
  pub tag_inside : p.tag_at + p.tag_len ≤ length bs
  pub short : p.tag_len ≤ 32
  pub first-is : p.first ≡ p.tag_at + p.tag_len + 8
  pub next-is : p.next ≡ p.first + 16 * p.count
  pub inside : p.next ≤ length bs
  pub grows : c.at + (24 + p.tag_len + 16 * p.count) ≤ p.next

ahead-at : (bs : List ℕ) (w : Bool) (at n : ℕ) → CursorIs bs (record { tagged = w; at = at; left = suc n })
    → Ahead bs (record { tagged = w; at = at; left = suc n }) (place_at w bs at)
ahead-at bs w at n i =
    let p : EntryPlace = place_at w bs at in
    let l = lies w bs at in
    let less : suc n - 1 ≡ n = omega arith in
    let is : List Interval = intervals_at p.count bs p.first in
    let others : List Entry = entries_at n w bs p.next in
    let end : p.next ≤ length bs = i.there.0 in
    let uuid : length (part bs at 16) ≡ 16 = part_length 16 bs at (omega (arith, l.tag-after, l.first-is, l.next-is, end)) in
    let inside : p.tag_at + p.tag_len ≤ length bs = omega (arith, l.first-is, l.next-is, end) in
    let tag : length (tag_of (key_there w bs at)) ≡ p.tag_len =
    ap length (tag-of (part bs at 16) (part bs p.tag_at p.tag_len) uuid) ∙ part_length p.tag_len bs p.tag_at inside in
    record {
      is = rw less;
      next = record {
        there = rw less i.there.1;
        bytes = rw less (first_next bs w at (key_there w bs at) is others i.bytes i.formed i.keyed i.tags i.small);
        formed = rw less i.formed.3;
        keyed = rw less i.keyed.1;
        tags = rw less (λ f. (untagged-parts (key_there w bs at) is others (i.tags f)).1);
        small = i.small;
        inside = end;
      };
      some = i.formed.0;
      gapped = i.formed.1;
      good = i.keyed.0;
      uuid = uuid;
      uuid_inside = omega (arith, l.tag-after, l.first-is, l.next-is, end);
      tag_inside = inside;
      short = omega (arith, tag, none-or-tag-short (tag_of (key_there w bs at)) i.keyed.0.rule);
      first-is = l.first-is;
      next-is = l.next-is;
      inside = end;
      grows = omega (arith, l.tag-after, l.first-is, l.next-is);
    }

pub ahead : (bs : List ℕ) (c : Cursor) (p : EntryPlace) → CursorIs bs c → 0 < c.left → p ≡ place_in c.tagged bs c.at → Ahead bs c p
ahead bs c p i some told = go c.left refl some
  where
    go : (n : ℕ) → n ≡ c.left → 0 < n → Ahead bs c p
    go zero e h = absurd (omega arith)
    go (suc n) e h =
        let j : CursorIs bs (record { tagged = c.tagged; at = c.at; left = suc n }) = rw e i in
        rw (told ∙ place_here bs c.tagged c.at j.there.0) (rw e at (ahead-at bs c.tagged c.at n j))

-- no entry is left
pub none_ahead : (bs : List ℕ) (c : Cursor) → c.left ≡ 0 → entries_left bs c ≡ []
none_ahead bs c e = rw e

-- as many are left as the cursor counts
pub cursor-count : (bs : List ℕ) (c : Cursor) → length (entries_left bs c) ≡ c.left
cursor-count bs c = go c.left c.at
  where
    go : (n at : ℕ) → length (entries_at n c.tagged bs at) ≡ n
    go zero at = refl
    go (suc n) at = ap suc (go n (place_at c.tagged bs at).next)
