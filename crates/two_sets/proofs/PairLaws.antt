-- Laws of the walk over the entries of two sets: the next entry of a set, and the next key of two.
use Prim.Native.Nat.{ℕ, zero, suc, ◌+◌, ◌*◌, ◌<◌, ◌≤◌, Ordering}
use mathlib.Core.Path.{◌≡◌, refl, sym, ap, ◌∙◌}
use mathlib.Core.Logic.{inl, inr}
use mathlib.Core.Bool.{Bool, true, false}
use mathlib.Core.List.{List, [], ◌∷◌}
use native.Mathlib.Omega.{arith}
use lib.ListN.{length}
use Rattle.misc.specs.Parse.{part}
use Rattle.packets.specs.Gno.{Interval}
use Rattle.packets.specs.Key.{Key, order, or_else, order_read}
use Rattle.std.specs.declared.cmp.Ordering as cmp
use Rattle.std.specs.declared.cmp.Ordering.TheVariants.{Less, Equal, Greater}
use Rattle.packets.proofs.Keys.{flip, order-eq, order_flip, order-append}
use Rattle.previous_gtids_event.specs.Entry.{entry}
use Rattle.gtid_sets.specs.Combine.{marks, swept, keep, combined}
use Rattle.gtid_sets.proofs.SweepLaws.{marks-rise, sweep-shut}
use Rattle.gtid_sets.proofs.CombineLaws.{combined-lt, combined-eq, combined-gt}
use Rattle.misc.specs.Le.{number_at}
use Rattle.set_intervals.specs.Intervals.{intervals_at}
use Rattle.set_check.specs.Places.{place_in}
use Rattle.set_check.specs.declared.EntryPlace.{EntryPlace}
use Rattle.set_check.proofs.CursorLaws.{Ahead, ahead, none_ahead}
use Rattle.two_sets.specs.Marks.{marks_at, marks_of, SideIs}
use Rattle.set_check.specs.Cursor.{entries_left, CursorIs, beyond_of}
use Rattle.two_sets.specs.Pairs.{
  CursorsAre,
  combining,
  uuids_order,
  tags_order,
  UuidNext,
  side_of,
  no_side,
  key_place,
  of_first,
  of_second,
  of_both,
  Moves,
  key_in,
  PairIs,
}
use Rattle.set_check.specs.declared.Cursor.{Cursor}
use Rattle.two_sets.specs.declared.Cursors.{Cursors}
use Rattle.two_sets.specs.declared.Pair.{Pair}

-- intervals that stand at a place are marks that stand there
marks-at : (n : ℕ) (bs : List ℕ) (at : ℕ) → marks_at (2 * n) bs at ≡ marks (intervals_at n bs at)
marks-at zero bs at = refl
marks-at (suc n) bs at =
    let two : 2 * suc n ≡ suc (suc (2 * n)) = omega arith in
    let far : at + 8 + 8 ≡ at + 16 = omega arith in
    rw (two, far) (ap (λ (l : List ℕ). number_at bs at ∷ number_at bs (at + 8) ∷ l) (marks-at n bs (at + 16)))

-- ---- the next entry of a set

module _ (bs : List ℕ) (c : Cursor) (p : EntryPlace) (x : Ahead bs c p) where
  -- its marks rise
  side-of : SideIs bs (side_of p)
  side-of = record {
    there = omega (arith, x.next-is, x.inside);
    rises = rw (marks-at p.count bs p.first) (marks-rise 0 (intervals_at p.count bs p.first) x.gapped);
  }

  few : Moves p
  few = omega (arith, x.next-is, x.inside, x.next.small)

pub uuid-fits : (bs : List ℕ) (c : Cursor) → CursorIs bs c → 0 < c.left → c.at + 16 ≤ length bs
uuid-fits bs c i some = (ahead bs c (place_in c.tagged bs c.at) i some refl).uuid_inside

pub none-combined : (op : Bool → Bool → Bool) (bs cs : List ℕ) (c : Cursors) → c.first.left ≡ 0 → c.second.left ≡ 0 → combining op bs cs c ≡ []
none-combined op bs cs c p q = rw (p, q)

no-side : (bs : List ℕ) → SideIs bs no_side
no-side bs = record { there = omega arith; rises = tt }

-- ---- the next key of two

module _ (bs cs : List ℕ) (c : Cursors) (i : CursorsAre bs cs c) (p q : EntryPlace) (tp : p ≡ place_in c.first.tagged bs c.first.at)
    (tq : q ≡ place_in c.second.tagged cs c.second.at) where
  abbrev first_key : Key
  first_key = key_in bs cs (key_place true c.first p)

  abbrev second_key : Key
  second_key = key_in bs cs (key_place false c.second q)

  abbrev first_list : List Interval
  first_list = intervals_at p.count bs p.first

  abbrev second_list : List Interval
  second_list = intervals_at q.count cs q.first

  first-marked : marks_of bs (side_of p) ≡ marks first_list
  first-marked = marks-at p.count bs p.first

  second-marked : marks_of cs (side_of q) ≡ marks second_list
  second-marked = marks-at q.count cs q.first

  -- what is made of the next entries, by the order of their keys
  abbrev next_of : cmp.Ordering → Pair
  next_of Less = of_first c p
  next_of Equal = of_both c p q
  next_of Greater = of_second c q

  abbrev in_first : 0 < c.first.left → Ahead bs c.first p
  in_first some = ahead bs c.first p i.first some tp

  abbrev in_second : 0 < c.second.left → Ahead cs c.second q
  in_second some = ahead cs c.second q i.second some tq

  alone-first : (some : 0 < c.first.left)
      → ((op : Bool → Bool → Bool) → combined op (entry first_key first_list ∷ entries_left bs (beyond_of c.first p)) (entries_left cs c.second)
      ≡ keep first_key (swept op first_list []) (combined op (entries_left bs (beyond_of c.first p)) (entries_left cs c.second)))
      → PairIs bs cs c (of_first c p)
  alone-first some goes =
      let x = in_first some in
      record {
        goes = λ op. ap (λ s. combined op s (entries_left cs c.second)) x.is ∙ goes op ∙ rw (first-marked);
        shut = λ op h. rw (first-marked) (sweep-shut op h first_list [] x.gapped tt);
        sides = record { first = side-of bs c.first p x; second = no-side cs };
        after = record { first = x.next; second = i.second };
        key = record { uuid_inside = x.uuid_inside; tag_inside = x.tag_inside; short = x.short; good = x.good };
        less = omega arith;
        grows = omega (arith, x.grows);
      }

  alone-second : (some : 0 < c.second.left)
      → ((op : Bool → Bool → Bool) → combined op (entries_left bs c.first) (entry second_key second_list ∷ entries_left cs (beyond_of c.second q))
      ≡ keep second_key (swept op [] second_list) (combined op (entries_left bs c.first) (entries_left cs (beyond_of c.second q))))
      → PairIs bs cs c (of_second c q)
  alone-second some goes =
      let y = in_second some in
      record {
        goes = λ op. ap (λ t. combined op (entries_left bs c.first) t) y.is ∙ goes op ∙ rw (second-marked);
        shut = λ op h. rw (second-marked) (sweep-shut op h [] second_list tt y.gapped);
        sides = record { first = no-side bs; second = side-of cs c.second q y };
        after = record { first = i.first; second = y.next };
        key = record { uuid_inside = y.uuid_inside; tag_inside = y.tag_inside; short = y.short; good = y.good };
        less = omega arith;
        grows = omega (arith, y.grows);
      }

  both-have : (some : 0 < c.first.left) (more : 0 < c.second.left) → first_key ≡ second_key
      → PairIs bs cs c (of_both c p q)
  both-have some more k =
      let x = in_first some in
      let y = in_second more in
      record {
        goes = λ op. rw (x.is, y.is) (combined-eq op first_key second_key first_list second_list
            (entries_left bs (beyond_of c.first p)) (entries_left cs (beyond_of c.second q)) k ∙ rw (first-marked, second-marked));
        shut = λ op h. rw (first-marked, second-marked) (sweep-shut op h first_list second_list x.gapped y.gapped);
        sides = record { first = side-of bs c.first p x; second = side-of cs c.second q y };
        after = record { first = x.next; second = y.next };
        key = record { uuid_inside = x.uuid_inside; tag_inside = x.tag_inside; short = x.short; good = x.good };
        less = omega arith;
        grows = omega (arith, x.grows, y.grows);
      }

  keys-order : (some : 0 < c.first.left) (more : 0 < c.second.left)
      → order first_key second_key ≡ or_else (uuids_order bs cs c) (tags_order bs cs p q)
  keys-order some more = order-append (part bs c.first.at 16) (part cs c.second.at 16)
      (part bs p.tag_at p.tag_len) (part cs q.tag_at q.tag_len) ((in_first some).uuid ∙ sym (in_second more).uuid)

  before : (some : 0 < c.first.left) (more : 0 < c.second.left) → order first_key second_key ≡ Ordering.lt → PairIs bs cs c (of_first c p)
  before some more e =
      let x = in_first some in
      let y = in_second more in
      alone-first some (λ op. rw y.is (combined-lt op first_key second_key
      first_list second_list (entries_left bs (beyond_of c.first p)) (entries_left cs (beyond_of c.second q)) e))

  after : (some : 0 < c.first.left) (more : 0 < c.second.left) → order first_key second_key ≡ Ordering.gt → PairIs bs cs c (of_second c q)
  after some more e =
      let x = in_first some in
      let y = in_second more in
      alone-second more (λ op. rw x.is (combined-gt op first_key second_key
      first_list second_list (entries_left bs (beyond_of c.first p)) (entries_left cs (beyond_of c.second q)) (order_flip first_key second_key ∙ ap flip e)))

  -- the first set has the next uuid alone, or the second
  pub first_next : UuidNext bs cs c Less → Moves p × PairIs bs cs c (of_first c p)
  first_next (some, inl gone) = (few bs c.first p (in_first some), alone-first some (λ op. rw (none_ahead cs c.second gone)))
  first_next (some, inr (more, e)) = (few bs c.first p (in_first some), before some more (keys-order some more ∙ rw e))

  pub second-next : UuidNext bs cs c Greater → Moves q × PairIs bs cs c (of_second c q)
  second-next (more, inl gone) = (few cs c.second q (in_second more), alone-second more (λ op. rw (none_ahead bs c.first gone)))
  second-next (more, inr (some, e)) = (few cs c.second q (in_second more), after some more (keys-order some more ∙ rw e))

  -- both have it
  module _ (n : UuidNext bs cs c Equal) where
    pub tags-inside : (p.tag_at + p.tag_len ≤ length bs) × (q.tag_at + q.tag_len ≤ length cs)
    tags-inside = ((in_first n.0).tag_inside, (in_second n.1).tag_inside)

    pub both-move : Moves p × Moves q
    both-move = (few bs c.first p (in_first n.0), few cs c.second q (in_second n.1))

    by_tags : (o : Ordering) → tags_order bs cs p q ≡ o → PairIs bs cs c (next_of (order_read o))
    by_tags Ordering.lt e = before n.0 n.1 (keys-order n.0 n.1 ∙ rw (n.2, e))
    by_tags Ordering.eq e = both-have n.0 n.1 (order-eq first_key second_key (keys-order n.0 n.1 ∙ rw (n.2, e)))
    by_tags Ordering.gt e = after n.0 n.1 (keys-order n.0 n.1 ∙ rw (n.2, e))

    pub tags-say : (r : cmp.Ordering) → r ≡ order_read (tags_order bs cs p q) → PairIs bs cs c (next_of r)
    tags-say r told = rw told (by_tags (tags_order bs cs p q) refl)

-- the order of two uuids
pub uuids-say : (bs cs : List ℕ) (c : Cursors) → 0 < c.first.left → 0 < c.second.left → (r : cmp.Ordering)
    → r ≡ order_read (uuids_order bs cs c) → UuidNext bs cs c r
uuids-say bs cs c some more r told = rw told (go (uuids_order bs cs c) refl)
  where
    go : (o : Ordering) → uuids_order bs cs c ≡ o → UuidNext bs cs c (order_read o)
    go Ordering.lt e = (some, inr (more, e))
    go Ordering.eq e = (some, more, e)
    go Ordering.gt e = (more, inr (some, e))
