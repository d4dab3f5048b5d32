-- Laws of `find`: entries before a key are passed, one after another.
use Prim.Native.Nat.{ℕ, zero, suc, ◌+◌, ◌*◌, ◌-◌, ◌<◌, ◌≤◌}
use mathlib.Core.Path.{◌≡◌, refl, sym, ap, ◌∙◌}
use mathlib.Core.Bool.{Bool, false}
use mathlib.Core.List.{List, [], ◌∷◌, ◌++◌}
use native.Mathlib.Omega.{arith}
use lib.Dec.{ltb}
use lib.ListN.{length, drop, length-append, length-drop}
use lib.Seq.{append_snoc}
use borrow.Author.Tests.{ltb-false, ne_eqb}
use Rattle.misc.specs.Parse.{part}
use Rattle.misc.proofs.ParseLaws.{part_length}
use Rattle.packets.specs.Gno.{Interval}
use Rattle.packets.specs.Key.{Key, order, or_else, order_read, ◌≺◌}
use Rattle.std.specs.declared.cmp.Ordering as cmp
use Rattle.std.specs.declared.cmp.Ordering.TheVariants.{Less, Equal, Greater}
use Rattle.packets.proofs.Keys.{flip, order-eq, order_flip, order-append, after-not-same, same_self}
use Rattle.packets.proofs.OrderLaws.{says-less, says-equal, says-greater}
use Rattle.previous_gtids_event.specs.Entry.{Entry, entry, tag_of}
use Rattle.previous_gtids_event.specs.Rewrite.{entries_bytes, any_tag}
use Rattle.gtid_sets.specs.Interval.{Some, covers, insert}
use Rattle.gtid_sets.specs.Set.{has, of_key, join, SetForm}
use Rattle.gtid_sets.specs.Limits.{summed}
use Rattle.gtid_sets.specs.Lent.{GoodKeys}
use Rattle.gtid_sets.proofs.LimitLaws.{summed-append}
use Rattle.gtid_sets.proofs.SetLaws.{join-before, join-into, join-after, of-key-none, of-key-has}
use Rattle.gtid_sets.proofs.ByteLaws.{entries_bytes-append}
use Rattle.gtid_sets.proofs.Bools.{or-false-parts}
use Rattle.set_intervals.specs.Intervals.{intervals_at, intervals_in, held_in}
use Rattle.set_intervals.proofs.Standing.{intervals-count, intervals-lent}
use Rattle.set_intervals.proofs.Walks.{held-covers}
use Rattle.set_check.specs.declared.EntryPlace.{EntryPlace}
use Rattle.set_check.specs.SetOf.{set_of, IsSet}
use Rattle.set_check.specs.Cursor.{beyond_of, entries_left, key_here, CursorIs}
use Rattle.set_check.specs.declared.Cursor.{Cursor}
use Rattle.set_check.proofs.SetOfLaws.{set-bytes}
use Rattle.set_check.proofs.CursorLaws.{cursor-starts, Ahead, none_ahead, cursor-count}
use Rattle.set_join.specs.declared.Found.{Found}
use Rattle.set_join.specs.Find.{found_at, absent_at, own, old, FoundIs}

-- ---- entries before others

any-parts : (s t : List Entry) → any_tag (s ++ t) ≡ false → (any_tag s ≡ false) × (any_tag t ≡ false)
unfolding any_tag
any-parts [] t h = (refl, h)
any-parts (entry k is ∷ s) t h =
    let (p, q) = or-false-parts (ltb 0 (length (tag_of k))) (any_tag (s ++ t)) h in
    let (x, y) = any-parts s t q in
    (rw (p, x), y)

good-parts : (s t : List Entry) → GoodKeys (s ++ t) → GoodKeys s × GoodKeys t
good-parts [] t h = (tt, h)
good-parts (entry k is ∷ s) t h = let (x, y) = good-parts s t h.1 in ((h.0, x), y)

-- so many entries of the set are before the key; the others are left
pub record Passed (bs : List ℕ) (w : Bool) (n : ℕ) (k : Key) (done : ℕ) (c : Cursor) : Type 0 where
  pub set : IsSet bs w n
  pub front : List Entry
  pub count : done ≡ length front
  pub all : set_of bs ≡ front ++ entries_left bs c
  pub joins : (a b : ℕ) → join k a b (set_of bs) ≡ front ++ join k a b (entries_left bs c)
  pub mine : of_key k (set_of bs) ≡ of_key k (entries_left bs c)
  pub left : CursorIs bs c
  pub alike : c.tagged ≡ w

pub passed_none : (bs : List ℕ) (k : Key) (c : Cursor) → IsSet bs c.tagged c.left → c.at ≡ 8 → Passed bs c.tagged c.left k 0 c
passed_none bs k c set start =
    let (left, are) = cursor-starts bs c.tagged c.left set in
    let same : entries_left bs c ≡ set_of bs = rw start are in
    record {
      set = set;
      front = [];
      count = refl;
      all = sym same;
      joins = λ a b. ap (join k a b) (sym same);
      mine = ap (of_key k) (sym same);
      left = rw (← start) at left;
      alike = refl;
    }

-- there are as many as are counted
counted : (n : ℕ) (bs : List ℕ) (at : ℕ) → Some (intervals_at n bs at) → 0 < n
counted zero bs at none = absurd none
counted (suc n) bs at some = omega arith

no_tag : (k : Key) (is : List Interval) (s : List Entry) → any_tag (entry k is ∷ s) ≡ false → length (tag_of k) ≡ 0
unfolding any_tag
no_tag k is s h = omega (arith, ltb-false 0 (length (tag_of k)) (or-false-parts (ltb 0 (length (tag_of k))) (any_tag s) h).0)

module _ (bs : List ℕ) (w : Bool) (n : ℕ) (k : Key) (done : ℕ) (c : Cursor) (x : Passed bs w n k done c) where
  abbrev left : List Entry
  left = entries_left bs c

  front_bytes : drop 8 bs ≡ entries_bytes w x.front ++ drop c.at bs
  front_bytes =
      (set-bytes bs w n x.set).1
      ∙ ap (entries_bytes w) x.all
      ∙ entries_bytes-append w x.front left
      ∙ ap (λ (v : Bool). entries_bytes w x.front ++ entries_bytes v left) (sym x.alike)
      ∙ ap (λ (y : List ℕ). entries_bytes w x.front ++ y) (sym x.left.bytes)

  front_length : 8 + length (entries_bytes w x.front) ≡ c.at
  front_length = omega (
    arith,
    sym (length-drop 8 bs) ∙ ap length front_bytes ∙ length-append (entries_bytes w x.front) (drop c.at bs),
    length-drop c.at bs,
    x.left.inside,
    (set-bytes bs w n x.set).0,
  )

  front-tags : w ≡ false → any_tag x.front ≡ false
  front-tags f = (any-parts x.front left (ap any_tag (sym x.all) ∙ x.set.tags ∙ f)).0

  front-keyed : GoodKeys x.front
  front-keyed = (good-parts x.front left (rw x.all at x.set.keyed)).0

  entries : length (set_of bs) ≡ length x.front + length left
  entries = ap length x.all ∙ length-append x.front left

  total : (f : ℕ → ℕ) → summed f (set_of bs) ≡ summed f x.front + summed f left
  total f = ap (summed f) x.all ∙ summed-append f x.front left

  -- those that are before it, and those that are left, are all
  pub all-counted : done + c.left ≡ n
  all-counted = omega (arith, x.count, entries, cursor-count bs c, x.set.count)

  -- the key is not there, and goes before what is left
  absent : ((a b : ℕ) → join k a b left ≡ entry k (insert a b []) ∷ left) → of_key k left ≡ []
      → FoundIs bs w k (set_of bs) (absent_at done c.at)
  absent joins misses = record {
    front = x.front;
    back = left;
    joins = λ a b. x.joins a b ∙ ap (λ (y : List Entry). x.front ++ y) (joins a b);
    mine = x.mine ∙ misses;
    member = λ m. of-key-has k (set_of bs) m x.set.formed;
    gapped = tt;
    start = refl;
    index = x.count;
    entries = omega (arith, entries);
    total = λ f z. omega (arith, total f, z);
    front_bytes = front_bytes;
    back_bytes = x.left.bytes ∙ ap (λ (v : Bool). entries_bytes v left) x.alike;
    place = omega (arith, front_length);
    order = omega arith;
    end = omega arith;
    inside = x.left.inside;
    tags = (front-tags, λ f. x.left.tags (x.alike ∙ f));
    keyed = (front-keyed, x.left.keyed);
    plain = λ e. omega arith;
    length_front = front_length;
  }

  pub passed-all : n ≤ done → FoundIs bs w k (set_of bs) (absent_at n c.at)
  passed-all e =
      let none = none_ahead bs c (omega (arith, all-counted)) in
      let same : n ≡ done = omega (arith, all-counted) in
      rw same (absent (λ a b. ap (join k a b) none ∙ ap (λ (y : List Entry). entry k (insert a b []) ∷ y) (sym none)) (ap (of_key k) none))

  module _ (p : EntryPlace) (h : Ahead bs c p) where
    abbrev key : Key
    key = key_here bs c p

    abbrev is : List Interval
    is = intervals_at p.count bs p.first

    abbrev back : List Entry
    back = entries_left bs (beyond_of c p)

    formed : SetForm (entry key is ∷ back)
    formed = rw h.is at x.left.formed

    module _ (u t : List ℕ) (made : k ≡ u ++ t) (long : length u ≡ 16) (told : cmp.Ordering)
        (says : told ≡ order_read (or_else (order (part bs c.at 16) u) (order (part bs p.tag_at p.tag_len) t))) where
      found : order_read (order key k) ≡ told
      found = sym (
          says
          ∙ ap order_read (sym (order-append (part bs c.at 16) u (part bs p.tag_at p.tag_len) t (h.uuid ∙ sym long)))
          ∙ ap (λ (y : Key). order_read (order key y)) (sym made)
          )

      -- the entry is before the key
      pub passed-next : told ≡ Less → Passed bs w n k (done + 1) (beyond_of c p)
      passed-next before =
          let lower : key ≺ k = says-less (order key k) (found ∙ before) in
          record {
            set = x.set;
            front = x.front ++ (entry key is ∷ []);
            count = omega (arith, x.count, length-append x.front (entry key is ∷ []));
            all = x.all ∙ ap (λ (y : List Entry). x.front ++ y) h.is ∙ sym (append_snoc x.front (entry key is) back);
            joins = λ a b.
                x.joins a b
                ∙ ap (λ (y : List Entry). x.front ++ y) (ap (join k a b) h.is ∙ join-after k key a b is back lower)
                ∙ sym (append_snoc x.front (entry key is) (join k a b back));
            mine = x.mine ∙ ap (of_key k) h.is ∙ rw (after-not-same key k lower);
            left = h.next;
            alike = x.alike;
          }

      -- the entry is the key's
      pub found_here : told ≡ Equal
          → FoundIs bs w k (set_of bs) (found_at done c.at (record { from = p.first; to = p.next; count = p.count }))
      found_here same =
          let mine : key ≡ k = order-eq key k (says-equal (order key k) (found ∙ same)) in
          let all : left ≡ entry k is ∷ back = h.is ∙ ap (λ (y : Key). entry y is ∷ back) mine in
          record {
            front = x.front;
            back = back;
            joins = λ a b. x.joins a b ∙ ap (λ (y : List Entry). x.front ++ y) (ap (join k a b) all ∙ join-into k a b is back);
            mine = x.mine ∙ ap (of_key k) all ∙ rw (same_self k);
            member = λ m. of-key-has k (set_of bs) m x.set.formed;
            gapped = h.gapped;
            start = refl;
            index = x.count;
            entries = rw (ne_eqb p.count 0 (λ none. omega (arith, counted p.count bs p.first h.some))) (omega (arith, entries, ap length all));
            total = λ f _. omega (arith, total f, ap (summed f) all, ap f (intervals-count p.count bs p.first));
            front_bytes = front_bytes;
            back_bytes = h.next.bytes ∙ ap (λ (v : Bool). entries_bytes v back) x.alike;
            place = omega (arith, front_length);
            order = omega (arith, h.next-is, h.grows);
            end = h.next-is;
            inside = h.inside;
            tags = (front-tags, λ f. h.next.tags (x.alike ∙ f));
            keyed = (front-keyed, h.next.keyed);
            plain = λ _ f. no_tag k is back (ap any_tag (sym all) ∙ x.left.tags (x.alike ∙ f));
            length_front = front_length;
          }

      -- the entry is after the key
      pub found-absent : told ≡ Greater → FoundIs bs w k (set_of bs) (absent_at done c.at)
      found-absent after =
          let higher : k ≺ key = order_flip key k ∙ ap flip (says-greater (order key k) (found ∙ after)) in
          absent
          (λ a b. ap (join k a b) h.is ∙ join-before k key a b is back higher ∙ ap (λ (y : List Entry). entry k (insert a b []) ∷ y) (sym h.is))
          (ap (of_key k) h.is ∙ of-key-none k (entry key is ∷ back) higher formed)

-- ---- the key's own intervals

module _ (bs : List ℕ) (w : Bool) (k : Key) (s : List Entry) (r : Found) (f : FoundIs bs w k s r) where
  pub own-length : length (own bs r) ≡ 16 * r.own.count
  own-length = part_length (r.own.to - r.own.from) bs r.own.from (omega (arith, f.end, f.inside)) ∙ omega (arith, f.end)

  pub own_is : intervals_in (own bs r) ≡ old bs r
  own_is =
      let size : r.own.to - r.own.from ≡ 16 * r.own.count = omega (arith, f.end) in
      ap (λ (n : ℕ). intervals_in (part bs r.own.from n)) size ∙ intervals-lent r.own.count bs r.own.from (omega (arith, f.end, f.inside))

  pub own_held : (n : ℕ) → held_in n (intervals_in (own bs r)) ≡ has s k n
  own_held n = ap (held_in n) own_is ∙ held-covers 0 n (old bs r) f.gapped ∙ ap (λ (is : List Interval). covers is n) (sym f.mine) ∙ sym (f.member n)
