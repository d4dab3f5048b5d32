-- Laws of intervals: what they hold after an insertion, and that their written form is unique.
use Prim.Native.Nat.{ℕ, ◌+◌, ◌<◌, ◌≤◌, min, max}
use mathlib.Core.Path.{◌≡◌, refl, sym, ◌∙◌}
use mathlib.Core.Bool.{true, false, ◌||◌, false≢true, or_assoc}
use mathlib.Core.List.{List, [], ◌∷◌, ◌++◌}
use native.Mathlib.Omega.{arith}
use lib.Dec.{ltb, leb, eqb}
use borrow.Author.Tests.{ltb-true, ltb-false, leb-true, eqb-true, eqb-false, lt-ltb, le-ltb, le-leb}
use Rattle.packets.specs.Gno.{gno_top, Interval, interval}
use Rattle.packets.proofs.Tests.{split, clash, tests}
use Rattle.gtid_sets.specs.Interval.{within, covers, Gapped, Some, insert}
use Rattle.gtid_sets.proofs.Bools.{or_swap}

pub inside : (a b n : ℕ) → a ≤ n → n < b → within a b n ≡ true
inside a b n l h = rw (le-leb a n l, lt-ltb n b h)

pub outside : (a b n : ℕ) → (a ≤ n → b ≤ n) → within a b n ≡ false
outside a b n f = split (leb a n)
    (λ l. rw (l, le-ltb n b (f (leb-true a n l))))
    (λ l. rw l)

pub within-true : (a b n : ℕ) → within a b n ≡ true → (a ≤ n) × (n < b)
within-true a b n h = split (leb a n)
    (λ l. (omega tests, ltb-true n b (rw l at h)))
    (λ l. absurd (false≢true (rw l at h)))

pub within-false : (a b n : ℕ) → within a b n ≡ false → a ≤ n → b ≤ n
within-false a b n h l = ltb-false n b (rw (le-leb a n l) at h)

-- two intervals that meet or touch hold together what the one from the lower start to the higher end holds
pub within-joined : (a b s e n : ℕ) → s ≤ b → a ≤ e → within (min a s) (max b e) n ≡ within a b n || within s e n
within-joined a b s e n p q = split (within a b n)
    (λ h. let w = within-true a b n h in rw h (inside (min a s) (max b e) n (omega arith) (omega arith)))
    (λ h. split (within s e n)
    (λ k. let w = within-true s e n k in rw (h, k) (inside (min a s) (max b e) n (omega arith) (omega arith)))
    (λ k. rw (h, k) (outside (min a s) (max b e) n (λ m. split (leb a n)
    (λ l. split (leb s n)
    (λ r. omega (tests, within-false a b n h (leb-true a n l), within-false s e n k (leb-true s n r)))
    (λ r. omega (tests, within-false a b n h (leb-true a n l))))
    (λ l. split (leb s n)
    (λ r. omega (tests, within-false s e n k (leb-true s n r)))
    (λ r. omega tests))))))

-- the three ways of an insertion: the new interval stands before the first, stands after it, or joins it
pub insert-before : (a b s e : ℕ) (is : List Interval) → b < s → insert a b (interval s e ∷ is) ≡ interval a b ∷ interval s e ∷ is
insert-before a b s e is h = rw (lt-ltb b s h, insert)

pub insert-after : (a b s e : ℕ) (is : List Interval) → s ≤ b → e < a → insert a b (interval s e ∷ is) ≡ interval s e ∷ insert a b is
insert-after a b s e is h k = rw (le-ltb b s h, insert, lt-ltb e a k, insert)

pub insert-joined : (a b s e : ℕ) (is : List Interval) → s ≤ b → a ≤ e → insert a b (interval s e ∷ is) ≡ insert (min a s) (max b e) is
insert-joined a b s e is h k = rw (le-ltb b s h, insert, le-ltb e a k, insert)

-- every case of an insertion into a list that is not empty
pub insert-cases : {P : Type 0} (a b s e : ℕ) → (b < s → P) → (s ≤ b → e < a → P) → (s ≤ b → a ≤ e → P) → P
insert-cases a b s e before after joined = split (ltb b s)
    (λ h. before (omega tests))
    (λ h. split (ltb e a)
    (λ k. after (omega tests) (omega tests))
    (λ k. joined (omega tests) (omega tests)))

pub covers-insert : (a b : ℕ) (is : List Interval) (n : ℕ) → covers (insert a b is) n ≡ within a b n || covers is n
covers-insert a b [] n = refl
covers-insert a b (interval s e ∷ is) n = insert-cases a b s e
    (λ h. rw (insert-before a b s e is h))
    (λ h k. rw (insert-after a b s e is h k, covers-insert a b is n, or_swap (within s e n) (within a b n)))
    (λ h k. rw (insert-joined a b s e is h k, covers-insert (min a s) (max b e) is n, within-joined a b s e n h k, or_assoc))

pub gapped-down : (low low' : ℕ) (is : List Interval) → low ≤ low' → Gapped low' is → Gapped low is
gapped-down low low' [] l g = tt
gapped-down low low' (interval s e ∷ is) l g = (omega arith, g.1, g.2, g.3)

pub gapped-insert : (low a b : ℕ) (is : List Interval) → low < a → a < b → b ≤ gno_top → Gapped low is → Gapped low (insert a b is)
gapped-insert low a b [] l o t g = (l, o, t, tt)
gapped-insert low a b (interval s e ∷ is) l o t g = insert-cases a b s e
    (λ h. rw (insert-before a b s e is h) (l, o, t, (h, g.1, g.2, g.3)))
    (λ h k. rw (insert-after a b s e is h k) (g.0, g.1, g.2, gapped-insert e a b is k o t g.3))
    (λ h k. rw (insert-joined a b s e is h k)
    (gapped-insert low (min a s) (max b e) is (omega arith) (omega arith) (omega arith) (gapped-down low e is (omega arith) g.3)))

-- what stands above `low` holds nothing at or below it
pub gapped-misses : (low : ℕ) (is : List Interval) (n : ℕ) → Gapped low is → n ≤ low → covers is n ≡ false
gapped-misses low [] n g l = refl
gapped-misses low (interval s e ∷ is) n g l = rw (outside s e n (omega arith)) (gapped-misses e is n g.3 (omega arith))

-- the lists hold the same numbers
abbrev pub Same : List Interval → List Interval → Type 0
Same is js = (n : ℕ) → covers is n ≡ covers js n

module _ (low low' s e t f : ℕ) (is js : List Interval) (g : Gapped low (interval s e ∷ is)) (h : Gapped low' (interval t f ∷ js))
    (same : Same (interval s e ∷ is) (interval t f ∷ js)) where
  start-le : t ≤ s
  start-le = split (leb t s)
      (λ k. omega tests)
      (λ k. clash (rw (inside s e s (omega arith) g.1))
      (same s ∙ gapped-misses s (interval t f ∷ js) s (omega tests, h.1, h.2, h.3) (omega arith)))

  end-le : s ≡ t → e ≤ f
  end-le q = split (leb e f)
      (λ k. omega tests)
      (λ k. clash (rw (inside s e f (omega arith) (omega tests)))
      (same f ∙ rw (outside t f f (omega arith)) (gapped-misses f js f h.3 (omega arith))))

  tails-same : s ≡ t → e ≡ f → Same is js
  tails-same q r n = split (leb n e)
      (λ k. gapped-misses e is n g.3 (omega tests) ∙ sym (gapped-misses f js n h.3 (omega tests)))
      (λ k. rw (outside s e n (omega tests), outside t f n (omega tests)) at (same n))

-- one written form: two gapped lists that hold the same numbers are the same list
pub gapped-unique : (low low' : ℕ) (is js : List Interval) → Gapped low is → Gapped low' js → Same is js → is ≡ js
gapped-unique low low' [] [] g h same = refl
gapped-unique low low' [] (interval t f ∷ js) g h same = clash (rw (inside t f t (omega arith) h.1)) (sym (same t))
gapped-unique low low' (interval s e ∷ is) [] g h same = clash (rw (inside s e s (omega arith) g.1)) (same s)
gapped-unique low low' (interval s e ∷ is) (interval t f ∷ js) g h same =
    let back : Same (interval t f ∷ js) (interval s e ∷ is) = λ n. sym (same n) in
    let q : s ≡ t = omega (arith, start-le low low' s e t f is js g h same, start-le low' low t f s e js is h g back) in
    let r : e ≡ f = omega (arith, end-le low low' s e t f is js g h same q, end-le low' low t f s e js is h g back (sym q)) in
    let l : is ≡ js = gapped-unique e f is js g.3 h.3 (tails-same low low' s e t f is js g h same q r) in
    cc

pub some-insert : (a b : ℕ) (is : List Interval) → Some (insert a b is)
some-insert a b [] = tt
some-insert a b (interval s e ∷ is) = insert-cases a b s e
    (λ h. rw (insert-before a b s e is h) tt)
    (λ h k. rw (insert-after a b s e is h k) tt)
    (λ h k. rw (insert-joined a b s e is h k) (some-insert (min a s) (max b e) is))

pub one-within : (m n : ℕ) → within m (m + 1) n ≡ eqb n m
one-within m n = split (eqb n m)
    (λ h. let q : n ≡ m = eqb-true n m h in rw h (inside m (m + 1) n (omega arith) (omega arith)))
    (λ h. let q : (n ≡ m → ⊥) = eqb-false n m h in rw h (outside m (m + 1) n (λ l. omega arith)))

-- ---- one more at the end

-- the end of the last interval, or `low`
abbrev pub last_end : ℕ → List Interval → ℕ
last_end low [] = low
last_end low (interval start end ∷ is) = last_end end is

pub gapped-snoc : (low a b : ℕ) (is : List Interval) → Gapped low is → last_end low is < a → a < b → b ≤ gno_top → Gapped low (is ++ interval a b ∷ [])
gapped-snoc low a b [] g l o t = (l, o, t, tt)
gapped-snoc low a b (interval s e ∷ is) g l o t = (g.0, g.1, g.2, gapped-snoc e a b is g.3 l o t)
