-- Laws of combining two sets: one law says which ids are in any of the results, and one that it is in set form.
use Prim.Native.Nat.{Ordering}
use Prim.Native.Nat.{ℕ}
use mathlib.Core.Path.{◌≡◌, refl, sym, ap, ◌∙◌}
use mathlib.Core.Bool.{Bool, true, false, ◌&&◌, ◌||◌, or-false, and-false, or_comm}
use mathlib.Core.List.{List, [], ◌∷◌}
use Rattle.packets.specs.Gno.{Interval}
use Rattle.packets.specs.Key.{Key, order, same, ◌≺◌}
use Rattle.packets.proofs.Tests.{clash}
use Rattle.packets.proofs.Keys.{flip, order-self, order_flip, key-cases, same-eq}
use Rattle.previous_gtids_event.specs.Entry.{Entry, entry}
use Rattle.previous_gtids_event.specs.Previous.{GoodKey}
use Rattle.gtid_sets.specs.Interval.{covers, Gapped}
use Rattle.gtid_sets.specs.Set.{has, Above, SetForm}
use Rattle.gtid_sets.specs.Lent.{GoodKeys}
use Rattle.gtid_sets.specs.TakeIn.{Lawful, union, taken_set}
use Rattle.gtid_sets.specs.Combine.{either, without, swept, keep, combined, is_empty, subset}
use Rattle.gtid_sets.proofs.SetLaws.{above_down, above-misses, set-unique}
use Rattle.gtid_sets.proofs.TakeInLaws.{has-union, has-take_in, form-union, form-take_in, form-lawful, take_in-self}
use Rattle.gtid_sets.proofs.SweepLaws.{swept-gapped, swept-covers}

-- ---- the ways of a combining: the first entry of the first set stands before that of the second, has its key, or stands after it

module _ (op : Bool → Bool → Bool) (k j : Key) (is js : List Interval) (s t : List Entry) where
  pub combined-lt : k ≺ j → combined op (entry k is ∷ s) (entry j js ∷ t) ≡ keep k (swept op is []) (combined op s (entry j js ∷ t))
  combined-lt p = rw (p, combined)

  pub combined-gt : j ≺ k → combined op (entry k is ∷ s) (entry j js ∷ t) ≡ keep j (swept op [] js) (combined op (entry k is ∷ s) t)
  combined-gt p = let q : order k j ≡ Ordering.gt = order_flip j k ∙ ap flip p in rw (q, combined)

  pub combined-eq : k ≡ j → combined op (entry k is ∷ s) (entry j js ∷ t) ≡ keep k (swept op is js) (combined op s t)
  combined-eq p = let q : order k j ≡ Ordering.eq = ap (order k) (sym p) ∙ order-self k in rw (q, combined)

-- ---- an entry in front, unless it is empty

keep-has : (j : Key) (is : List Interval) (s : List Entry) (k : Key) (n : ℕ) → has (keep j is s) k n ≡ (same k j && covers is n) || has s k n
keep-has j [] s k n = rw (and-false (same k j))
keep-has j (i ∷ is) s k n = refl

keep-above : (j k : Key) (is : List Interval) (s : List Entry) → j ≺ k → Above j s → Above j (keep k is s)
keep-above j k [] s p a = a
keep-above j k (i ∷ is) s p a = p

keep-form : (k : Key) (is : List Interval) (s : List Entry) → Gapped 0 is → Above k s → SetForm s → SetForm (keep k is s)
keep-form k [] s g a f = f
keep-form k (i ∷ is) s g a f = (tt, g, a, f)

keep-good : (k : Key) (is : List Interval) (s : List Entry) → GoodKey k → GoodKeys s → GoodKeys (keep k is s)
keep-good k [] s g h = h
keep-good k (i ∷ is) s g h = (g, h)

-- ---- keys and set form

module _ (op : Bool → Bool → Bool) where
  pub combined-good : (s t : List Entry) → GoodKeys s → GoodKeys t → GoodKeys (combined op s t)
  combined-good [] [] g h = tt
  combined-good (entry k is ∷ s) [] g h = keep-good k (swept op is []) (combined op s []) g.0 (combined-good s [] g.1 tt)
  combined-good [] (entry j js ∷ t) g h = keep-good j (swept op [] js) (combined op [] t) h.0 (combined-good [] t tt h.1)
  combined-good (entry k is ∷ s) (entry j js ∷ t) g h = key-cases k j
      (λ p. rw (combined-lt op k j is js s t p)
      (keep-good k (swept op is []) (combined op s (entry j js ∷ t)) g.0 (combined-good s (entry j js ∷ t) g.1 h)))
      (λ p. rw (combined-eq op k j is js s t p) (keep-good k (swept op is js) (combined op s t) g.0 (combined-good s t g.1 h.1)))
      (λ p. rw (combined-gt op k j is js s t p)
      (keep-good j (swept op [] js) (combined op (entry k is ∷ s) t) h.0 (combined-good (entry k is ∷ s) t g h.1)))

  combined-above : (i : Key) (s t : List Entry) → Above i s → Above i t → SetForm s → SetForm t → Above i (combined op s t)
  combined-above i [] [] a b f g = tt
  combined-above i (entry k is ∷ s) [] a b f g =
      keep-above i k (swept op is []) (combined op s []) a (combined-above i s [] (above_down i k s a f.2) tt f.3 tt)
  combined-above i [] (entry j js ∷ t) a b f g =
      keep-above i j (swept op [] js) (combined op [] t) b (combined-above i [] t tt (above_down i j t b g.2) tt g.3)
  combined-above i (entry k is ∷ s) (entry j js ∷ t) a b f g = key-cases k j
      (λ p. rw (combined-lt op k j is js s t p)
      (keep-above i k (swept op is []) (combined op s (entry j js ∷ t)) a (combined-above i s (entry j js ∷ t) (above_down i k s a f.2) b f.3 g)))
      (λ p. rw (combined-eq op k j is js s t p)
      (keep-above i k (swept op is js) (combined op s t) a
      (combined-above i s t (above_down i k s a f.2) (above_down i j t b g.2) f.3 g.3)))
      (λ p. rw (combined-gt op k j is js s t p)
      (keep-above i j (swept op [] js) (combined op (entry k is ∷ s) t) b (combined-above i (entry k is ∷ s) t a (above_down i j t b g.2) f g.3)))

module _ (op : Bool → Bool → Bool) (none : op false false ≡ false) where
  pub combined-form : (s t : List Entry) → SetForm s → SetForm t → SetForm (combined op s t)
  combined-form [] [] f g = tt
  combined-form (entry k is ∷ s) [] f g =
      keep-form k (swept op is []) (combined op s []) (swept-gapped op none is [] f.1 tt)
      (combined-above op k s [] f.2 tt f.3 tt) (combined-form s [] f.3 tt)
  combined-form [] (entry j js ∷ t) f g =
      keep-form j (swept op [] js) (combined op [] t) (swept-gapped op none [] js tt g.1)
      (combined-above op j [] t tt g.2 tt g.3) (combined-form [] t tt g.3)
  combined-form (entry k is ∷ s) (entry j js ∷ t) f g = key-cases k j
      (λ p. rw (combined-lt op k j is js s t p)
      (keep-form k (swept op is []) (combined op s (entry j js ∷ t)) (swept-gapped op none is [] f.1 tt)
      (combined-above op k s (entry j js ∷ t) f.2 p f.3 g) (combined-form s (entry j js ∷ t) f.3 g)))
      (λ p. rw (combined-eq op k j is js s t p)
      (keep-form k (swept op is js) (combined op s t) (swept-gapped op none is js f.1 g.1)
      (combined-above op k s t f.2 (rw p g.2) f.3 g.3) (combined-form s t f.3 g.3)))
      (λ p. rw (combined-gt op k j is js s t p)
      (keep-form j (swept op [] js) (combined op (entry k is ∷ s) t) (swept-gapped op none [] js tt g.1)
      (combined-above op j (entry k is ∷ s) t p g.2 f g.3) (combined-form (entry k is ∷ s) t f g.3)))

  -- ---- members

  -- an id has the entry's key, and then the entries behind don't have it; or it hasn't
  one_entry : (b c d x y : Bool) → (b ≡ true → x ≡ false) → (b ≡ true → y ≡ false)
      → (b && op c d) || op x y ≡ op ((b && c) || x) ((b && d) || y)
  one_entry true c d x y p q = rw (p refl, q refl, none, or-false (op c d), or-false c, or-false d)
  one_entry false c d x y p q = refl

  kept : (i : Key) (is js : List Interval) (s t : List Entry) (k : Key) (n : ℕ) → Gapped 0 is → Gapped 0 js
      → Above i s → Above i t → SetForm s → SetForm t → has (combined op s t) k n ≡ op (has s k n) (has t k n)
      → has (keep i (swept op is js) (combined op s t)) k n ≡ op ((same k i && covers is n) || has s k n) ((same k i && covers js n) || has t k n)
  kept i is js s t k n gi gj a b f g e =
      keep-has i (swept op is js) (combined op s t) k n ∙ rw (e, swept-covers op none is js gi gj n)
      (one_entry (same k i) (covers is n) (covers js n) (has s k n) (has t k n)
      (λ h. rw (same-eq k i h) (above-misses i s n a f)) (λ h. rw (same-eq k i h) (above-misses i t n b g)))

  -- which ids the result has
  pub combined-has : (s t : List Entry) (k : Key) (n : ℕ) → SetForm s → SetForm t → has (combined op s t) k n ≡ op (has s k n) (has t k n)
  combined-has [] [] k n f g = sym none
  combined-has (entry i is ∷ s) [] k n f g =
      kept i is [] s [] k n f.1 tt f.2 tt f.3 tt (combined-has s [] k n f.3 tt) ∙ rw (and-false (same k i))
  combined-has [] (entry j js ∷ t) k n f g =
      kept j [] js [] t k n tt g.1 tt g.2 tt g.3 (combined-has [] t k n tt g.3) ∙ rw (and-false (same k j))
  combined-has (entry i is ∷ s) (entry j js ∷ t) k n f g = key-cases i j
      (λ p. rw (combined-lt op i j is js s t p)
      (kept i is [] s (entry j js ∷ t) k n f.1 tt f.2 p f.3 g (combined-has s (entry j js ∷ t) k n f.3 g) ∙ rw (and-false (same k i))))
      (λ p. rw (combined-eq op i j is js s t p)
      (kept i is js s t k n f.1 g.1 f.2 (rw p g.2) f.3 g.3 (combined-has s t k n f.3 g.3) ∙ rw p))
      (λ p. rw (combined-gt op i j is js s t p)
      (kept j [] js (entry i is ∷ s) t k n tt g.1 p g.2 f g.3 (combined-has (entry i is ∷ s) t k n f g.3) ∙ rw (and-false (same k j))))

  -- however it was made: what is in set form and has the right members is the result
  pub is-combined : (s t u : List Entry) → SetForm s → SetForm t → SetForm u
      → ((k : Key) (n : ℕ) → has u k n ≡ op (has s k n) (has t k n)) → u ≡ combined op s t
  is-combined s t u f g h m = set-unique u (combined op s t) h (combined-form s t f g) (λ k n. m k n ∙ sym (combined-has s t k n f g))

-- the sets the other way round
pub combined-swap : (op : Bool → Bool → Bool) → op false false ≡ false → (s t : List Entry) → SetForm s → SetForm t
    → combined op s t ≡ combined (λ x y. op y x) t s
combined-swap op none s t f g =
    is-combined (λ x y. op y x) none t s (combined op s t) g f (combined-form op none s t f g) (λ k n. combined-has op none s t k n f g)

-- ---- all ids of the first lie in the second

pub not_first : (x y : Bool) → x ≡ true → without x y ≡ false → y ≡ true
not_first true true h k = refl
not_first true false h k = clash refl k
not_first false y h k = clash h refl

pub in-second : (x y : Bool) → (x ≡ true → y ≡ true) → without x y ≡ false
in-second true y h = rw (h refl)
in-second false y h = refl

module _ (s t : List Entry) (f : SetForm s) (g : SetForm t) where
  empty-is : (u : List Entry) → is_empty u ≡ true → u ≡ []
  empty-is [] h = refl
  empty-is (e ∷ u) h = clash h refl

  pub subset-says : subset s t ≡ true → (k : Key) (n : ℕ) → has s k n ≡ true → has t k n ≡ true
  subset-says h k n m =
      not_first (has s k n) (has t k n) m
      (sym (combined-has without refl s t k n f g) ∙ ap (λ u. has u k n) (empty-is (combined without s t) h))

  pub subset-from : ((k : Key) (n : ℕ) → has s k n ≡ true → has t k n ≡ true) → subset s t ≡ true
  subset-from m = ap is_empty (sym (is-combined without refl s t [] f g tt (λ k n. sym (in-second (has s k n) (has t k n) (m k n)))))

-- ---- a body's ids joined to a set

-- they are the ids in either, of the set and of what the body becomes that is taken in
pub join-is-either : (r s : List Entry) → Lawful r → SetForm s → union r s ≡ combined either s (taken_set r)
join-is-either r s l f =
    is-combined either refl s (taken_set r) (union r s) f (form-take_in r l) (form-union r s l f)
    (λ k n. has-union r s k n ∙ rw (has-take_in r k n) (or_comm (has r k n) (has s k n)))

-- and where the body's entries are in set form themselves, they are those in either of the two sets
pub union-either : (t s : List Entry) → SetForm t → SetForm s → union t s ≡ combined either s t
union-either t s g f = join-is-either t s (form-lawful t g) f ∙ ap (combined either s) (take_in-self t g)
