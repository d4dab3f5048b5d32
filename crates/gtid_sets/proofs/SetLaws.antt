-- Laws of sets: what they hold after a joining, and that their set form is unique.
use Prim.Native.Nat.{Ordering}
use Prim.Native.Nat.{ℕ, ◌+◌, ◌<◌, ◌≤◌}
use mathlib.Core.Path.{◌≡◌, refl, sym, ap, ◌∙◌}
use mathlib.Core.Bool.{true, false, ◌&&◌, ◌||◌, or-false, or_assoc, and-or_distrib_left}
use mathlib.Core.List.{List, [], ◌∷◌, ◌++◌}
use native.Mathlib.Omega.{arith}
use lib.Dec.{eqb, leb, ltb}
use borrow.Author.Tests.{eqb-true, leb-true, ltb-true, le-leb, lt-ltb}
use Rattle.packets.specs.Gno.{gno_top, is_gno, Interval, interval}
use Rattle.packets.specs.Key.{Key, order, same, ◌≺◌}
use Rattle.packets.proofs.Tests.{split, clash, and-true}
use Rattle.packets.proofs.Keys.{flip, order-self, order_flip, key-cases, same_self, same-eq, before-not-same, ≺-trans}
use Rattle.packets.proofs.GnoLaws.{gno-says}
use Rattle.previous_gtids_event.specs.Entry.{Entry, entry}
use Rattle.gtid_sets.specs.Interval.{within, covers, Gapped, Some, insert}
use Rattle.gtid_sets.specs.Set.{has, of_key, Above, SetForm, join, add}
use Rattle.gtid_sets.proofs.Bools.{or_swap}
use Rattle.gtid_sets.proofs.IntervalLaws.{inside, one-within, covers-insert, gapped-insert, some-insert, gapped-unique}

-- the three ways of a joining: before the first entry, into it, or after it
pub join-before : (k j : Key) (a b : ℕ) (is : List Interval) (s : List Entry) → k ≺ j
    → join k a b (entry j is ∷ s) ≡ entry k (interval a b ∷ []) ∷ entry j is ∷ s
join-before k j a b is s p = rw (p, join)

pub join-into : (k : Key) (a b : ℕ) (is : List Interval) (s : List Entry) → join k a b (entry k is ∷ s) ≡ entry k (insert a b is) ∷ s
join-into k a b is s = rw (order-self k, join)

pub join-after : (k j : Key) (a b : ℕ) (is : List Interval) (s : List Entry) → j ≺ k → join k a b (entry j is ∷ s) ≡ entry j is ∷ join k a b s
join-after k j a b is s p = let q : order k j ≡ Ordering.gt = order_flip j k ∙ ap flip p in rw (q, join)

pub has_join : (k : Key) (a b : ℕ) (s : List Entry) (k' : Key) (n : ℕ) → has (join k a b s) k' n ≡ (same k' k && within a b n) || has s k' n
has_join k a b [] k' n = rw (or-false (within a b n))
has_join k a b (entry j is ∷ s) k' n = key-cases k j
    (λ p. rw (join-before k j a b is s p, or-false (within a b n)))
    (λ p. rw (← p, join-into k a b is s, covers-insert a b is n, and-or_distrib_left, or_assoc))
    (λ p. rw (join-after k j a b is s p, has_join k a b s k' n, or_swap (same k' j && covers is n)))

pub above_down : (j k : Key) (s : List Entry) → j ≺ k → Above k s → Above j s
above_down j k [] p a = tt
above_down j k (entry i is ∷ s) p a = ≺-trans j k i p a

above_join : (j k : Key) (a b : ℕ) (s : List Entry) → j ≺ k → Above j s → Above j (join k a b s)
above_join j k a b [] p r = p
above_join j k a b (entry i is ∷ s) p r = key-cases k i
    (λ q. rw (join-before k i a b is s q) p)
    (λ q. rw (← q, join-into k a b is s) p)
    (λ q. rw (join-after k i a b is s q) r)

pub form-join : (k : Key) (a b : ℕ) (s : List Entry) → 0 < a → a < b → b ≤ gno_top → SetForm s → SetForm (join k a b s)
form-join k a b [] l o t f = (tt, (l, o, t, tt), tt, tt)
form-join k a b (entry j is ∷ s) l o t f = key-cases k j
    (λ p. rw (join-before k j a b is s p) (tt, (l, o, t, tt), p, f))
    (λ p. let h : SetForm (entry k is ∷ s) = rw (← p) at f in
    rw (← p, join-into k a b is s) (some-insert a b is, gapped-insert 0 a b is l o t h.1, h.2, h.3))
    (λ p. rw (join-after k j a b is s p) (f.0, f.1, above_join j k a b s p f.2, form-join k a b s l o t f.3))

-- a key before every key of the set has no member
pub above-misses : (k : Key) (s : List Entry) (n : ℕ) → Above k s → SetForm s → has s k n ≡ false
above-misses k [] n a f = refl
above-misses k (entry j is ∷ s) n a f = rw (before-not-same k j a) (above-misses k s n (above_down k j s a f.2) f.3)

-- the sets have the same members
abbrev pub SameMembers : List Entry → List Entry → Type 0
SameMembers s t = (k : Key) (n : ℕ) → has s k n ≡ has t k n

first-missing : {P : Type 0} (j : Key) (is : List Interval) (s t : List Entry) → SetForm (entry j is ∷ s) → SetForm t → Above j t
    → SameMembers (entry j is ∷ s) t → P
first-missing j [] s t f g a m = absurd f.0
first-missing j (interval b e ∷ is) s t f g a m =
    clash (rw (same_self j, inside b e b (omega arith) f.1.1)) (m j b ∙ above-misses j t b a g)

-- what an entry of a set in set form holds, and what the entries after it hold
pub entry_has : (k : Key) (is : List Interval) (s : List Entry) (n : ℕ) → SetForm (entry k is ∷ s) → has (entry k is ∷ s) k n ≡ covers is n
entry_has k is s n f = rw (same_self k, above-misses k s n f.2 f.3) (or-false (covers is n))

rest-same : (k : Key) (is js : List Interval) (s t : List Entry) → SetForm (entry k is ∷ s) → SetForm (entry k js ∷ t)
    → SameMembers (entry k is ∷ s) (entry k js ∷ t) → SameMembers s t
rest-same k is js s t f g m k' n = split (same k' k)
    (λ h. rw (same-eq k' k h) (above-misses k s n f.2 f.3 ∙ sym (above-misses k t n g.2 g.3)))
    (λ h. rw h at (m k' n))

-- a key's own intervals: none behind a lower key, and in set form they say which of its ids are members
pub of-key-none : (k : Key) (s : List Entry) → Above k s → SetForm s → of_key k s ≡ []
of-key-none k [] a f = refl
of-key-none k (entry j is ∷ s) a f = rw (before-not-same k j a) (of-key-none k s (above_down k j s a f.2) f.3)

pub of-key-has : (k : Key) (s : List Entry) (n : ℕ) → SetForm s → has s k n ≡ covers (of_key k s) n
of-key-has k [] n f = refl
of-key-has k (entry j is ∷ s) n f = split (same k j)
    (λ h. let e : k ≡ j = same-eq k j h in rw (e, same_self j) (own j is s n f))
    (λ h. rw h (of-key-has k s n f.3))
  where
    own : (j : Key) (is : List Interval) (s : List Entry) (n : ℕ) → SetForm (entry j is ∷ s) → covers is n || has s j n ≡ covers is n
    own j is s n f = rw (above-misses j s n f.2 f.3) (or-false (covers is n))

-- one set form: two sets in set form that have the same members are the same list of entries
pub set-unique : (s t : List Entry) → SetForm s → SetForm t → SameMembers s t → s ≡ t
set-unique [] [] f g m = refl
set-unique [] (entry k js ∷ t) f g m = first-missing k js t [] g tt tt (λ k n. sym (m k n))
set-unique (entry j is ∷ s) [] f g m = first-missing j is s [] f tt tt m
set-unique (entry j is ∷ s) (entry k js ∷ t) f g m = key-cases j k
    (λ p. first-missing j is s (entry k js ∷ t) f g p m)
    (λ p. let f' : SetForm (entry k is ∷ s) = rw p at f in
    let m' : SameMembers (entry k is ∷ s) (entry k js ∷ t) = rw p at m in
    let q : is ≡ js = gapped-unique 0 0 is js f.1 g.1 (λ n. sym (entry_has k is s n f') ∙ m' k n ∙ entry_has k js t n g) in
    let r : s ≡ t = set-unique s t f.3 g.3 (rest-same k is js s t f' g m') in
    cc)
    (λ p. first-missing k js t (entry j is ∷ s) g f p (λ k n. sym (m k n)))

-- ---- one id more

-- that id and no other
pub has-add : (j : Key) (m : ℕ) (s : List Entry) (k : Key) (n : ℕ) → has (add j m s) k n ≡ (same k j && eqb n m) || has s k n
has-add j m s k n = rw (← one-within m n) (has_join j m (m + 1) s k n)

pub form-add : (k : Key) (n : ℕ) (s : List Entry) → is_gno n ≡ true → SetForm s → SetForm (add k n s)
form-add k n s g f = let h = gno-says n g in form-join k n (n + 1) s (omega arith) (omega arith) (omega arith) f

-- a member that is named again
pub named_again : (s : List Entry) (j : Key) (m : ℕ) (k : Key) (n : ℕ) → has s j m ≡ true → has s k n || (same k j && eqb n m) ≡ has s k n
named_again s j m k n h = split (same k j && eqb n m)
    (λ g. let w = and-true (same k j) (eqb n m) g in
    let z : has s k n ≡ true = rw (same-eq k j w.0, eqb-true n m w.1) h in
    rw z)
    (λ g. rw g (or-false (has s k n)))

-- ---- one more entry at the end

-- every key of the set is before k
abbrev pub AllBefore : List Entry → Key → Type 0
AllBefore [] k = Unit {0}
AllBefore (entry j is ∷ s) k = (j ≺ k) × AllBefore s k

above-snoc : (j k : Key) (is : List Interval) (s : List Entry) → j ≺ k → Above j s → Above j (s ++ entry k is ∷ [])
above-snoc j k is [] p a = p
above-snoc j k is (entry i js ∷ s) p a = a

pub form-snoc : (k : Key) (is : List Interval) (s : List Entry) → SetForm s → AllBefore s k → Some is → Gapped 0 is → SetForm (s ++ entry k is ∷ [])
form-snoc k is [] f b o g = (o, g, tt, tt)
form-snoc k is (entry j js ∷ s) f b o g = (f.0, f.1, above-snoc j k is s b.0 f.2, form-snoc k is s f.3 b.1 o g)

pub has-append : (s t : List Entry) (k : Key) (n : ℕ) → has (s ++ t) k n ≡ has s k n || has t k n
has-append [] t k n = refl
has-append (entry j is ∷ s) t k n = rw (has-append s t k n, or_assoc)

-- ---- members' numbers

covers-gno : (low : ℕ) (is : List Interval) (n : ℕ) → Gapped low is → covers is n ≡ true → is_gno n ≡ true
covers-gno low [] n g h = clash h refl
covers-gno low (interval a b ∷ is) n (above, rises, below, rest) h = split (within a b n)
    (λ inside.
    let (from, to) = and-true (leb a n) (ltb n b) inside in
    let least : 1 ≤ n = omega (arith, leb-true a n from) in
    let most : n < gno_top = omega (arith, ltb-true n b to) in
    rw (le-leb 1 n least, lt-ltb n gno_top most))
    (λ outside. covers-gno b is n rest (rw outside at h))

pub has-gno : (s : List Entry) (k : Key) (n : ℕ) → SetForm s → has s k n ≡ true → is_gno n ≡ true
has-gno [] k n f h = clash h refl
has-gno (entry j is ∷ s) k n (some, gapped, above, rest) h = split (same k j && covers is n)
    (λ here. covers-gno 0 is n gapped (and-true (same k j) (covers is n) here).1)
    (λ there. has-gno s k n rest (rw there at h))
