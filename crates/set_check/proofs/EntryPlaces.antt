-- Laws of the entries that stand in some bytes: the one at a place, and those from a place on.
use Prim.Native.Nat.{ℕ, ◌+◌, ◌-◌, ◌*◌, ◌/◌, ◌^◌, ◌<◌, ◌≤◌}
use mathlib.Core.Path.{◌≡◌, refl, sym, ap, ◌∙◌}
use mathlib.Core.Bool.{Bool, true, false, or-false}
use mathlib.Core.List.{List, [], ◌∷◌, ◌++◌, append_assoc}
use native.Mathlib.Omega.{arith}
use lib.Dec.{ltb, leb}
use borrow.Author.Tests.{ltb-false, leb-true, le-leb}
use lib.ListN.{length, drop, get_or, length-append, length-drop}
use Rattle.misc.specs.Parse.{part}
use Rattle.misc.specs.Le.{le_bytes, number_at}
use Rattle.misc.proofs.LeLaws.{length-le_bytes}
use Rattle.packets.specs.Gno.{Interval}
use Rattle.packets.specs.Key.{Key}
use Rattle.packets.proofs.Tests.{split}
use Rattle.previous_gtids_event.specs.Entry.{Entry, entry, uuid_of, tag_of}
use Rattle.previous_gtids_event.specs.Rewrite.{intervals_bytes, entry_bytes, entries_bytes, any_tag}
use Rattle.packets.proofs.TagLaws.{none-or-tag-short}
use Rattle.previous_gtids_event.proofs.Reading.{key-whole}
use Rattle.previous_gtids_event.proofs.Writing.{length-intervals-bytes}
use Rattle.gtid_sets.specs.Set.{SetForm}
use Rattle.gtid_sets.specs.Lent.{GoodKeys}
use Rattle.gtid_sets.proofs.Bools.{or-false-parts}
use Rattle.gtid_sets.proofs.ByteLaws.{entries-least}
use Rattle.gtid_sets.proofs.LentLaws.{gapped-wide}
use Rattle.set_intervals.specs.Intervals.{intervals_at, intervals_in}
use Rattle.set_check.specs.Places.{place_from, place_at, nowhere, place_in, key_there, entries_at, EntriesIn}
use Rattle.set_check.specs.Head.{head_bytes, KeyOk}
use Rattle.set_check.specs.declared.EntryPlace.{EntryPlace}
use Rattle.misc.proofs.Places.{part-there, after_there, left_there, byte-there}
use Rattle.misc.proofs.NumberLaws.{number-there}
use Rattle.misc.proofs.VarlenLaws.{one_byte}
use Rattle.set_intervals.proofs.Standing.{intervals-there, intervals-lent}

-- the bytes of some entries begin with the head of the first
pub entries-head : (w : Bool) (k : Key) (is : List Interval) (s : List Entry)
    → entries_bytes w (entry k is ∷ s) ≡ head_bytes w k (length is) (intervals_bytes is ++ entries_bytes w s)
unfolding entries_bytes entry_bytes
entries-head w k is s = simp append_assoc

-- ---- the entry at a place

-- in a tagged set the byte of the tag's length, which is twice the length, stands after the uuid, and then the tag
pub tag-stands : (bs : List ℕ) (at : ℕ) (k : Key) (n : ℕ) (rest : List ℕ) → KeyOk true k → drop at bs ≡ head_bytes true k n rest
    → (get_or bs (at + 16) 0 ≡ 2 * length (tag_of k)) × (drop (at + 17) bs ≡ tag_of k ++ (le_bytes 8 n ++ rest))
tag-stands bs at k n rest ok e =
    let t : List ℕ = tag_of k in
    let x : List ℕ = t ++ (le_bytes 8 n ++ rest) in
    let short = none-or-tag-short t ok.good.rule in
    let d : drop (at + 16) bs ≡ (2 * length t ∷ []) ++ x =
    after_there bs at 16 (uuid_of k) _ e ok.good.uuid ∙ rw (one_byte (length t) (omega arith)) in
    let m : at + 16 + 1 ≡ at + 17 = omega arith in
    (byte-there bs (at + 16) (2 * length t) x d, rw m at (after_there bs (at + 16) 1 (2 * length t ∷ []) x d refl))

-- an entry with this key and these intervals stands there, before other bytes
pub record EntryHere (bs : List ℕ) (at : ℕ) (k : Key) (is : List Interval) (rest : List ℕ) (p : EntryPlace) : Type 0 where
  pub uuid-there : part bs at 16 ≡ uuid_of k
  pub tag_there : part bs p.tag_at p.tag_len ≡ tag_of k
  pub count : p.count ≡ length is
  pub after : drop p.first bs ≡ intervals_bytes is ++ rest
  pub place : at + 16 ≤ p.tag_at
  pub first-is : p.first ≡ p.tag_at + p.tag_len + 8
  pub next-is : p.next ≡ p.first + 16 * p.count
  pub inside : p.next ≤ length bs

module _ (bs : List ℕ) (at : ℕ) (k : Key) (is : List Interval) (rest : List ℕ) (small : length is < 2 ^ 64) where
  abbrev counted : List ℕ
  counted = le_bytes 8 (length is) ++ (intervals_bytes is ++ rest)

  from-tag : (from len : ℕ) → part bs at 16 ≡ uuid_of k → at + 16 ≤ from → length (tag_of k) ≡ len → drop from bs ≡ tag_of k ++ counted
      → EntryHere bs at k is rest (place_from bs from len)
  from-tag from len u h l e =
      let c : drop (from + len) bs ≡ counted = after_there bs from len (tag_of k) counted e l in
      let n : number_at bs (from + len) ≡ length is = number-there bs (from + len) (length is) (intervals_bytes is ++ rest) c small in
      let size = left_there bs (from + len) (le_bytes 8 (length is)) (intervals_bytes is ++ rest) c in
      record {
        uuid-there = u;
        tag_there = part-there bs from len (tag_of k) counted e l;
        count = n;
        after = after_there bs (from + len) 8 (le_bytes 8 (length is)) (intervals_bytes is ++ rest) c (length-le_bytes 8 (length is));
        place = h;
        first-is = refl;
        next-is = refl;
        inside = omega (arith, n, size, length-le_bytes 8 (length is), length-append (intervals_bytes is) rest, length-intervals-bytes is);
      }

  pub entry_here : (w : Bool) → KeyOk w k → drop at bs ≡ head_bytes w k (length is) (intervals_bytes is ++ rest)
      → EntryHere bs at k is rest (place_at w bs at)
  entry_here w ok e = go w ok e (part-there bs at 16 (uuid_of k) _ e long)
    where
      long : length (uuid_of k) ≡ 16
      long = ok.good.uuid

      none : (t : List ℕ) → length t ≡ 0 → counted ≡ t ++ counted
      none [] h = refl
      none (x ∷ t) h = absurd (omega arith)

      go : (w : Bool) → KeyOk w k → drop at bs ≡ head_bytes w k (length is) (intervals_bytes is ++ rest) → part bs at 16 ≡ uuid_of k
          → EntryHere bs at k is rest (place_at w bs at)
      go false ok d u =
          let after = after_there bs at 16 (uuid_of k) _ d long in
          from-tag (at + 16) 0 u (omega arith) (ok.plain refl) (after ∙ none (tag_of k) (ok.plain refl))
      go true ok d u =
          let (twice, after) = tag-stands bs at k (length is) (intervals_bytes is ++ rest) ok d in
          from-tag (at + 17) (get_or bs (at + 16) 0 / 2) u (omega arith) (omega arith) after

-- how an entry's parts lie
pub record Lies (at : ℕ) (p : EntryPlace) : Type 0 where
  pub tag-after : at + 16 ≤ p.tag_at
  pub first-is : p.first ≡ p.tag_at + p.tag_len + 8
  pub next-is : p.next ≡ p.first + 16 * p.count

pub lies : (w : Bool) (bs : List ℕ) (at : ℕ) → Lies at (place_at w bs at)
lies true bs at = record { tag-after = omega arith; first-is = refl; next-is = refl }
lies false bs at = record { tag-after = omega arith; first-is = refl; next-is = refl }

module _ (bs : List ℕ) (w : Bool) (at : ℕ) where
  -- all of an entry that is there
  pub place_here : (place_at w bs at).next ≤ length bs → place_in w bs at ≡ place_at w bs at
  place_here h = rw (le-leb (place_at w bs at).next (length bs) h)

  -- an entry with intervals that was found is there
  pub place_found : (p : EntryPlace) → p ≡ place_in w bs at → 0 < p.count → (p ≡ place_at w bs at) × (p.next ≤ length bs)
  place_found p told some =
      split (leb (place_at w bs at).next (length bs))
      (λ h. let same : p ≡ place_at w bs at = told ∙ rw h in (same, rw same (leb-true _ _ h)))
      (λ h. let none : p ≡ nowhere = told ∙ rw h in absurd (omega (arith, ap (λ (x : EntryPlace). x.count) none)))

-- ---- entries one after another

-- an entry without a tag before others without
pub untagged-parts : (k : Key) (is : List Interval) (s : List Entry) → any_tag (entry k is ∷ s) ≡ false
    → (any_tag (entry k is ∷ []) ≡ false) × (any_tag s ≡ false)
unfolding any_tag
untagged-parts k is s h =
    let (a, b) = or-false-parts (ltb 0 (length (tag_of k))) (any_tag s) h in
    (or-false (ltb 0 (length (tag_of k))) ∙ a, b)

module _ (bs : List ℕ) (w : Bool) (at : ℕ) (k : Key) (is : List Interval) (s : List Entry) (e : drop at bs ≡ entries_bytes w (entry k is ∷ s))
    (f : SetForm (entry k is ∷ s)) (g : GoodKeys (entry k is ∷ s)) (t : w ≡ false → any_tag (entry k is ∷ s) ≡ false) (small : length bs ≤ 2 ^ 40) where
  pub first-ok : KeyOk w k
  unfolding any_tag
  first-ok = record {
    good = g.0;
    plain = λ p. omega (arith, ltb-false 0 (length (tag_of k)) (or-false-parts (ltb 0 (length (tag_of k))) (any_tag s) (t p)).0);
  }

  -- the intervals stand in the bytes, 16 to each
  few : length is < 2 ^ 64
  few = omega (arith, entries-least w (entry k is ∷ s) g, ap length e, length-drop at bs)

  pub first-here : EntryHere bs at k is (entries_bytes w s) (place_at w bs at)
  first-here = entry_here bs at k is (entries_bytes w s) few w first-ok (e ∙ entries-head w k is s)

  pub first-intervals : intervals_at (place_at w bs at).count bs (place_at w bs at).first ≡ is
  first-intervals =
      rw first-here.count (intervals-there bs (place_at w bs at).first is (entries_bytes w s) first-here.after (gapped-wide 0 is f.1))

  -- the others stand after it
  pub first_next : drop (place_at w bs at).next bs ≡ entries_bytes w s
  first_next =
      rw first-here.next-is
      (after_there bs (place_at w bs at).first (16 * (place_at w bs at).count) (intervals_bytes is) (entries_bytes w s) first-here.after
      (length-intervals-bytes is ∙ ap (λ (m : ℕ). 16 * m) (sym first-here.count)))

  first_key : key_there w bs at ≡ k
  first_key = rw (first-here.uuid-there, first-here.tag_there) (sym (key-whole k))

  first_entry : entry (key_there w bs at) (intervals_at (place_at w bs at).count bs (place_at w bs at).first) ≡ entry k is
  first_entry = rw (first_key, first-intervals)

-- the entries whose bytes stand at a place are those that are read from there on
pub entries-stand : (bs : List ℕ) (w : Bool) (s : List Entry) (at : ℕ) → drop at bs ≡ entries_bytes w s → SetForm s → GoodKeys s
    → (w ≡ false → any_tag s ≡ false) → length bs ≤ 2 ^ 40 → (entries_at (length s) w bs at ≡ s) × EntriesIn (length s) w bs at
entries-stand bs w [] at e f g t small = (refl, tt)
entries-stand bs w (entry k is ∷ s) at e f g t small =
    let (others, inside) =
    entries-stand bs w s (place_at w bs at).next (first_next bs w at k is s e f g t small) f.3 g.1 (λ p. (untagged-parts k is s (t p)).1) small in (
      rw (first_entry bs w at k is s e f g t small, others),
      ((first-here bs w at k is s e f g t small).inside, inside),
    )

-- the intervals of an entry are those that its part of the bytes is
pub lent-intervals : (bs : List ℕ) (at : ℕ) (p : EntryPlace) → Lies at p → p.next ≤ length bs
    → intervals_in (part bs p.first (p.next - p.first)) ≡ intervals_at p.count bs p.first
lent-intervals bs at p l h =
    let n : p.next - p.first ≡ 16 * p.count = omega (arith, l.next-is) in
    rw n (intervals-lent p.count bs p.first (omega (arith, l.next-is)))
