-- An insertion is a splice: what stands before is copied, one interval is written, and what stands after is copied.
use Prim.Native.Nat.{ℕ, ◌<◌, ◌≤◌, min, max, Ordering}
use mathlib.Core.Path.{◌≡◌, refl, ap}
use mathlib.Core.List.{List, [], ◌∷◌, ◌++◌}
use native.Mathlib.Omega.{arith}
use lib.ListN.{take, drop}
use lib.Dec.{ltb}
use borrow.Author.Tests.{lt-ltb, le-ltb}
use Rattle.packets.specs.Gno.{Interval, interval}
use Rattle.packets.specs.Key.{Key, order}
use Rattle.packets.proofs.Tests.{split, tests}
use Rattle.previous_gtids_event.specs.Entry.{Entry, entry}
use Rattle.gtid_sets.specs.Interval.{Gapped, insert}
use Rattle.gtid_sets.specs.Set.{join}
use Rattle.gtid_sets.specs.Splice.{earlier, taken_up, reach, from, entries_before}
use Rattle.gtid_sets.proofs.IntervalLaws.{insert-cases, insert-before, insert-after, insert-joined}
use Rattle.gtid_sets.proofs.SetLaws.{join-after}

-- the first interval, if there is one, doesn't end before a
abbrev Reaches : ℕ → List Interval → Type 0
Reaches a [] = Unit {0}
Reaches a (interval s e ∷ is) = a ≤ e

from_settled : (low a b : ℕ) (is : List Interval) → Gapped low is → a ≤ low → from a b is ≡ a
from_settled low a b [] g h = refl
from_settled low a b (interval s e ∷ is) g h = split (ltb b s) (λ k. rw k) (λ k. rw k (omega arith))

reaches-above : (low a : ℕ) (is : List Interval) → Gapped low is → a ≤ low → Reaches a is
reaches-above low a [] g h = tt
reaches-above low a (interval s e ∷ is) g h = omega arith

insert-here : (low a b : ℕ) (is : List Interval) → Gapped low is → Reaches a is
    → insert a b is ≡ interval (from a b is) (reach b is) ∷ drop (taken_up b is) is
insert-here low a b [] g r = refl
insert-here low a b (interval s e ∷ is) g r = insert-cases a b s e
    (λ h. rw (insert-before a b s e is h, lt-ltb b s h))
    (λ h k. absurd (omega arith))
    (λ h k. rw (
      insert-joined a b s e is h k,
      le-ltb b s h,
      insert-here e (min a s) (max b e) is g.3 (reaches-above e (min a s) is g.3 (omega arith)),
      from_settled e (min a s) (max b e) is g.3 (omega arith),
    ))

-- the splice: the intervals before it, it, and those of the rest that it doesn't take up
pub insert-splice : (low a b : ℕ) (is : List Interval) → a < b → Gapped low is
    → let rest : List Interval = drop (earlier a is) is in
    insert a b is ≡ take (earlier a is) is ++ (interval (from a b rest) (reach b rest) ∷ drop (taken_up b rest) rest)
insert-splice low a b [] o g = refl
insert-splice low a b (interval s e ∷ is) o g = split (ltb e a)
    (λ k. rw (insert-after a b s e is (omega tests) (omega tests), k) (ap (λ l. interval s e ∷ l) (insert-splice e a b is o g.3)))
    (λ k. rw k (insert-here low a b (interval s e ∷ is) g (omega tests)))

-- entries before the key are copied
pub join-splice : (k : Key) (a b : ℕ) (s : List Entry) → join k a b s ≡ take (entries_before k s) s ++ join k a b (drop (entries_before k s) s)
join-splice k a b [] = refl
join-splice k a b (entry j is ∷ s) = go (order j k) refl (join-splice k a b s)
  where
    go : (o : Ordering) → order j k ≡ o
        → join k a b s ≡ take (entries_before k s) s ++ join k a b (drop (entries_before k s) s)
        → join k a b (entry j is ∷ s)
        ≡ take (entries_before k (entry j is ∷ s)) (entry j is ∷ s) ++ join k a b (drop (entries_before k (entry j is ∷ s)) (entry j is ∷ s))
    go Ordering.lt e t = rw (join-after k j a b is s e, e) (ap (λ l. entry j is ∷ l) t)
    go Ordering.eq e t = rw e
    go Ordering.gt e t = rw e
