-- The entries of a set, one after another: what the check of an entry says of those from it on.
use Prim.Native.Nat.{ℕ, Ordering, ◌+◌, ◌*◌, ◌^◌, ◌<◌, ◌≤◌}
use mathlib.Core.Path.{◌≡◌, refl, sym, ap, ◌∙◌}
use mathlib.Core.Bool.{Bool, true, false, ◌||◌, or_assoc}
use mathlib.Core.List.{List, [], ◌∷◌, ◌++◌}
use native.Mathlib.Omega.{arith}
use lib.Dec.{ltb, leb}
use borrow.Author.Tests.{ltb-false, leb-true}
use lib.ListN.{length, drop}
use Rattle.std.specs.Prelude.{Option, Some, MatchBool}
use Rattle.std.specs.Ordering.{is_lt}
use Rattle.misc.specs.Parse.{part, Bytes}
use Rattle.misc.proofs.ParseLaws.{part_length}
use Rattle.packets.specs.Gno.{Interval}
use Rattle.packets.specs.Key.{Key, order, or_else, order_read, ◌≺◌}
use Rattle.std.specs.declared.cmp.Ordering as cmp
use Rattle.packets.proofs.Tests.{split, clash}
use Rattle.packets.proofs.Keys.{order-append}
use Rattle.previous_gtids_event.specs.Entry.{Entry, entry, tag_of}
use Rattle.previous_gtids_event.specs.Previous.{GoodKey}
use Rattle.previous_gtids_event.specs.Rewrite.{intervals_bytes, entries_bytes, any_tag}
use Rattle.gtid_sets.specs.Interval as interval
use Rattle.gtid_sets.specs.Interval.{Gapped, gapped}
use Rattle.gtid_sets.specs.Set.{Above, SetForm}
use Rattle.gtid_sets.specs.Limits.{max_intervals, max_of_entry, intervals, crowds}
use Rattle.gtid_sets.specs.Lent.{GoodKeys}
use Rattle.gtid_sets.proofs.Bools.{or-false-parts}
use Rattle.gtid_sets.proofs.FormLaws.{gapped-holds, gapped-tests}
use Rattle.gtid_sets.proofs.LimitLaws.{max_intervals-is, max_of_entry-is, over_none}
use Rattle.previous_gtids_event.proofs.Reading.{tag-of, key-whole}
use Rattle.previous_gtids_event.proofs.Writing.{length-intervals-bytes}
use Rattle.gtid_sets.proofs.LentLaws.{gapped-wide}
use Rattle.misc.proofs.Places.{after_there}
use Rattle.set_intervals.specs.Intervals.{intervals_at}
use Rattle.set_check.specs.Cursor.{beyond_of, key_here}
use Rattle.set_check.specs.Head.{head_bytes, KeyOk, HeadIs}
use Rattle.set_check.specs.Check.{key_in, KeyThere, low_key, LowThere, EntryIs, NoEntry, Rest}
use Rattle.set_check.specs.declared.Cursor.{Cursor}
use Rattle.set_check.specs.declared.EntryPlace.{EntryPlace}
use Rattle.set_check.specs.declared.KeyPlace.{KeyPlace}
use Rattle.set_intervals.proofs.Standing.{intervals-there, intervals-count, intervals-stand}
use Rattle.set_check.proofs.EntryPlaces.{entries-head, EntryHere, entry_here, Lies, lies}

-- a key of a set without tags has none
key-ok : (w any : Bool) (k : Key) (is : List Interval) (s : List Entry) → GoodKey k → (any || any_tag (entry k is ∷ s)) ≡ w → KeyOk w k
unfolding any_tag
key-ok w any k is s g t = record {
  good = g;
  plain = λ e.
      let (a, b) = or-false-parts any (ltb 0 (length (tag_of k)) || any_tag s) (t ∙ e) in
      let c = ltb-false 0 (length (tag_of k)) (or-false-parts (ltb 0 (length (tag_of k))) (any_tag s) b).0 in
      omega arith;
}

-- ---- keys in parts

-- two keys are in the order of their uuids, or else of their tags
keys-ordered : (bs : List ℕ) (k j : KeyPlace) → KeyThere bs k → KeyThere bs j
    → order (key_in bs k) (key_in bs j)
    ≡ or_else (order (part bs k.at 16) (part bs j.at 16)) (order (part bs k.tag_at k.tag_len) (part bs j.tag_at j.tag_len))
keys-ordered bs k j h g =
    order-append (part bs k.at 16) (part bs j.at 16) (part bs k.tag_at k.tag_len) (part bs j.tag_at j.tag_len)
    (part_length 16 bs k.at h.uuid ∙ sym (part_length 16 bs j.at g.uuid))

-- and so the code tells the order of a key and the one before it
pub low-told : (bs : List ℕ) (low : Option KeyPlace) (k j : KeyPlace) → low ≡ Some k → LowThere bs low → KeyThere bs j → {told : cmp.Ordering}
    → told ≡ order_read (or_else (order (part bs k.at 16) (part bs j.at 16)) (order (part bs k.tag_at k.tag_len) (part bs j.tag_at j.tag_len)))
    → order_read (order (low_key bs low) (key_in bs j)) ≡ told
low-told bs low k j e h g is = rw e (ap order_read (keys-ordered bs k j (rw e at h) g) ∙ sym is)

-- by which it is higher or not
pub told-above : (o : Ordering) (told : cmp.Ordering) (b : Bool) → order_read o ≡ told → b ≡ is_lt told
    → MatchBool b (o ≡ Ordering.lt) (o ≡ Ordering.lt → ⊥)
told-above Ordering.lt told b e h = rw (h, ← e) refl
told-above Ordering.eq told b e h = rw (h, ← e) (λ p. cc)
told-above Ordering.gt told b e h = rw (h, ← e) (λ p. cc)

-- ---- the tests of `entry_above`

-- the key of an entry that stands there
here-key : (bs : List ℕ) (c : Cursor) (p : EntryPlace) (k : Key) (is : List Interval) (rest : List ℕ) → EntryHere bs c.at k is rest p → key_here bs c p ≡ k
here-key bs c p k is rest h = rw (h.uuid-there, h.tag_there) (sym (key-whole k))

here-intervals : (bs : List ℕ) (at : ℕ) (p : EntryPlace) (k : Key) (is : List Interval) (rest : List ℕ) → EntryHere bs at k is rest p
    → Gapped 0 is → intervals_at p.count bs p.first ≡ is
here-intervals bs at p k is rest h g =
    ap (λ (n : ℕ). intervals_at n bs p.first) h.count ∙ intervals-there bs p.first is rest h.after (gapped-wide 0 is g)

module _ (bs : List ℕ) (c : Cursor) (low : Key) (p : EntryPlace) (h : HeadIs bs c p) where
  -- an entry that is written there is the one that was found
  found : (k : Key) (is : List Interval) (rest : List ℕ) → KeyOk c.tagged k → length is ≤ max_of_entry
      → drop c.at bs ≡ head_bytes c.tagged k (length is) (intervals_bytes is ++ rest) → EntryHere bs c.at k is rest p
  found k is rest ok few e = rw h.stands (entry_here bs c.at k is rest (omega (arith, max_of_entry-is)) c.tagged ok e)

  pub entry-ungapped : gapped 0 (intervals_at p.count bs p.first) ≡ false → NoEntry bs c low
  entry-ungapped u k is x o s g f r e =
      let same = here-intervals bs c.at p k is x (found k is x o f e) g in
      clash (gapped-tests 0 is g) (sym (ap (gapped 0) same) ∙ u)

  pub entry-low : (low ≺ key_here bs c p → ⊥) → NoEntry bs c low
  entry-low u k is x o s g f r e =
      let same = here-key bs c p k is x (found k is x o f e) in
      u (ap (order low) same ∙ r)

  pub entry-is : gapped 0 (intervals_at p.count bs p.first) ≡ true → low ≺ key_here bs c p → EntryIs bs c low p
  entry-is g r = record { head = h; gapped = gapped-holds 0 (intervals_at p.count bs p.first) g; rises = r }

-- how the parts of an entry that is there lie
pub head-lies : (bs : List ℕ) (c : Cursor) (p : EntryPlace) → HeadIs bs c p → Lies c.at p
head-lies bs c p h = rw h.stands (lies c.tagged bs c.at)

-- ---- the rest from an entry on, and from the next

-- no entry has too many: not the first, and none after it
first-fair : (k : Key) (is : List Interval) (s : List Entry) → crowds (entry k is ∷ s) ≡ 0 → (length is ≤ max_of_entry) × (crowds s ≡ 0)
first-fair k is s none = split (leb (length is) max_of_entry)
    (λ h. let rest : 0 + crowds s ≡ 0 = rw h at none in (leb-true _ _ h, omega arith))
    (λ h. let more : 1 + crowds s ≡ 0 = rw h at none in absurd (omega arith))

more-some : (is : List Interval) → 0 < length is → interval.Some is
more-some [] h = absurd (omega arith)
more-some (i ∷ is) h = tt

module _ (bs : List ℕ) (c : Cursor) (low : Key) (used : ℕ) (any : Bool) (left : 0 < c.left) (p : EntryPlace) (h : EntryIs bs c low p) where
  abbrev Next : Type 0
  Next = Rest bs (beyond_of c p) (key_here bs c p) (used + p.count) (any || ltb 0 p.tag_len)

  len_is : p.tag_len ≡ length (tag_of (key_here bs c p))
  len_is =
      let l = head-lies bs c p h.head in
      let end = h.head.inside in
      let uuid = part_length 16 bs c.at (omega (arith, l.tag-after, l.first-is, l.next-is)) in
      let tag = part_length p.tag_len bs p.tag_at (omega (arith, l.first-is, l.next-is)) in
      sym (ap length (tag-of (part bs c.at 16) (part bs p.tag_at p.tag_len) uuid) ∙ tag)

  pub rest-before : Bytes bs → Next → Rest bs c low used any
  unfolding any_tag
  rest-before ok q =
      let w : Bool = c.tagged in
      let is : List Interval = intervals_at p.count bs p.first in
      let k : Key = key_here bs c p in
      let l = head-lies bs c p h.head in
      let n : length is ≡ p.count = intervals-count p.count bs p.first in
      let inside : p.first + 16 * p.count ≤ length bs = omega (arith, l.next-is, h.head.inside) in
      let stand : drop p.first bs ≡ intervals_bytes is ++ entries_bytes w q.set =
      intervals-stand bs ok p.count p.first inside
      ∙ ap (λ (x : List ℕ). intervals_bytes is ++ x) (ap (λ (i : ℕ). drop i bs) (sym l.next-is) ∙ q.is) in
      record {
        set = entry k is ∷ q.set;
        is =
            h.head.is ∙ ap (head_bytes w k p.count) stand ∙ ap (λ (m : ℕ). head_bytes w k m (intervals_bytes is ++ entries_bytes w q.set)) (sym n)
            ∙ sym (entries-head w k is q.set);
        count = omega (arith, q.count);
        formed = (more-some is (rw n h.head.some), h.gapped, q.above, q.formed);
        above = h.rises;
        keyed = (h.head.ok.good, q.keyed);
        fair = rw (n, over_none p.count h.head.few) (omega (arith, q.fair));
        limit = rw n (omega (arith, q.limit));
        tags = rw (← len_is) (sym (or_assoc any (ltb 0 p.tag_len) (any_tag q.set)) ∙ q.tags);
      }

  pub same_total : (ok : Bytes bs) (q : Next) → intervals (rest-before ok q).set ≡ p.count + intervals q.set
  unfolding rest-before
  same_total ok q = rw (intervals-count p.count bs p.first)

  pub rest-after : Rest bs c low used any → Next
  unfolding any_tag
  rest-after r = go r.set r.is r.count r.formed r.keyed r.fair r.limit r.tags
    where
      w : Bool
      w = c.tagged

      go : (s : List Entry) → drop c.at bs ≡ entries_bytes w s → length s ≡ c.left → SetForm s → GoodKeys s
          → crowds s ≡ 0 → used + intervals s ≤ max_intervals → (any || any_tag s) ≡ w → Next
      go [] e n f g v l t = absurd (omega arith)
      go (entry k is ∷ s) e n f g v l t =
          let o : KeyOk w k = key-ok w any k is s g.0 t in
          let small : length is < 2 ^ 64 = omega (arith, max_intervals-is) in
          let found = rw (← h.head.stands) at (entry_here bs c.at k is (entries_bytes w s) small w o (e ∙ entries-head w k is s)) in
          let same : key_here bs c p ≡ k = here-key bs c p k is (entries_bytes w s) found in
          let len : p.tag_len ≡ length (tag_of k) = len_is ∙ ap (λ (j : Key). length (tag_of j)) same in
          record {
            set = s;
            is =
                ap (λ (i : ℕ). drop i bs) found.next-is
                ∙ after_there bs p.first (16 * p.count) (intervals_bytes is) (entries_bytes w s) found.after
                (length-intervals-bytes is ∙ ap (λ (m : ℕ). 16 * m) (sym found.count));
            count = omega arith;
            formed = f.3;
            above = rw same f.2;
            keyed = g.1;
            fair = (first-fair k is s v).1;
            limit = omega (arith, found.count);
            tags = rw len (or_assoc any (ltb 0 (length (tag_of k))) (any_tag s) ∙ t);
          }

pub rest-not : (bs : List ℕ) (c : Cursor) (low : Key) (used : ℕ) (any : Bool) → 0 < c.left → NoEntry bs c low → Rest bs c low used any → ⊥
rest-not bs c low used any left none p = go p.set p.is p.count p.formed p.above p.keyed p.fair p.tags
  where
    w : Bool
    w = c.tagged

    go : (s : List Entry) → drop c.at bs ≡ entries_bytes w s → length s ≡ c.left → SetForm s → Above low s → GoodKeys s
        → crowds s ≡ 0 → (any || any_tag s) ≡ w → ⊥
    go [] e n f a k v t = omega arith
    go (entry k is ∷ s) e n f a g v t =
        none k is (entries_bytes w s) (key-ok w any k is s g.0 t) f.0 f.1 (first-fair k is s v).0 a (e ∙ entries-head w k is s)
