-- Laws of the order of keys: it is strict and total, `same` is equality, and it is the order by uuid, then by tag.
use Prim.Native.Nat.{ℕ, ◌<◌, compare, Ordering}
use mathlib.Core.Path.{◌≡◌, refl, sym, ap, ◌∙◌}
use mathlib.Core.Logic.{◌⊎◌, inl, inr}
use mathlib.Core.Bool.{true, false}
use mathlib.Core.List.{List, [], ◌∷◌, ◌++◌}
use lib.ListN.{length}
use native.Mathlib.Omega.{arith}
use native.Mathlib.Nat.{suc_inj}
use lib.Dec.{leb, is_le, compare_is_eq}
use borrow.Author.Tests.{le-leb, lt-leb, lt-ltb, le-ltb, eq-eqb, ne_eqb}
use Rattle.std.specs.Ordering.{nat_cmp}
use Rattle.std.specs.Cmp.Lexicographic.{slice_cmp}
use Rattle.packets.specs.Key.{order_read, Key, or_else, order, ◌≺◌, same}
use Rattle.packets.proofs.Tests.{split, clash, tests}

-- what `leb` and `eqb` say of two numbers tells how `compare` found them
lt-is : (o : Ordering) → is_le o ≡ true → compare_is_eq o ≡ false → o ≡ Ordering.lt
lt-is Ordering.lt p q = refl
lt-is Ordering.eq p q = clash refl q
lt-is Ordering.gt p q = clash p refl

eq_is : (o : Ordering) → compare_is_eq o ≡ true → o ≡ Ordering.eq
eq_is Ordering.lt p = clash p refl
eq_is Ordering.eq p = refl
eq_is Ordering.gt p = clash p refl

gt-is : (o : Ordering) → is_le o ≡ false → o ≡ Ordering.gt
gt-is Ordering.lt p = clash refl p
gt-is Ordering.eq p = clash refl p
gt-is Ordering.gt p = refl

pub compare-lt : (m n : ℕ) → m < n → compare m n ≡ Ordering.lt
compare-lt m n h = lt-is (compare m n) (le-leb m n (omega arith)) (ne_eqb m n (omega arith))

pub compare-eq : (m n : ℕ) → m ≡ n → compare m n ≡ Ordering.eq
compare-eq m n h = eq_is (compare m n) (eq-eqb m n h)

pub compare-gt : (m n : ℕ) → n < m → compare m n ≡ Ordering.gt
compare-gt m n h = gt-is (compare m n) (lt-leb m n h)

-- a number is below another, the same or above it, and `compare` says so
pub compare-cases : {P : Type 0} (m n : ℕ) → (m < n → compare m n ≡ Ordering.lt → P)
    → (m ≡ n → compare m n ≡ Ordering.eq → P)
    → (n < m → compare m n ≡ Ordering.gt → P) → P
compare-cases m n below level above = split (leb m n)
    (λ h. split (leb n m)
    (λ k. level (omega tests) (compare-eq m n (omega tests)))
    (λ k. below (omega tests) (compare-lt m n (omega tests))))
    (λ h. above (omega tests) (compare-gt m n (omega tests)))

-- the library's order of lists of numbers is that of keys
pub cmp_order : (a b : Key) → slice_cmp nat_cmp a b ≡ order_read (order a b)
cmp_order [] [] = refl
cmp_order [] (y ∷ ys) = refl
cmp_order (x ∷ xs) [] = refl
cmp_order (x ∷ xs) (y ∷ ys) = compare-cases x y
    (λ h e. rw (e, lt-ltb x y h))
    (λ h e. rw (e, le-ltb x y (omega arith)) (cmp_order xs ys))
    (λ h e. rw (e, le-ltb x y (omega arith)))

abbrev pub flip : Ordering → Ordering
flip Ordering.lt = Ordering.gt
flip Ordering.eq = Ordering.eq
flip Ordering.gt = Ordering.lt

pub order-self : (k : Key) → order k k ≡ Ordering.eq
order-self [] = refl
order-self (x ∷ xs) = rw (compare-eq x x refl) (order-self xs)

pub order-eq : (j k : Key) → order j k ≡ Ordering.eq → j ≡ k
order-eq [] [] p = refl
order-eq [] (y ∷ ys) p = clash (ap compare_is_eq p) refl
order-eq (x ∷ xs) [] p = clash (ap compare_is_eq p) refl
order-eq (x ∷ xs) (y ∷ ys) p = compare-cases x y
    (λ h e. clash (ap compare_is_eq (rw e at p)) refl)
    (λ h e. let l : xs ≡ ys = order-eq xs ys (rw e at p) in cc)
    (λ h e. clash (ap compare_is_eq (rw e at p)) refl)

pub order_flip : (j k : Key) → order k j ≡ flip (order j k)
order_flip [] [] = refl
order_flip [] (y ∷ ys) = refl
order_flip (x ∷ xs) [] = refl
order_flip (x ∷ xs) (y ∷ ys) = compare-cases x y
    (λ h e. rw (e, compare-gt y x h))
    (λ h e. rw (e, compare-eq y x (sym h)) (order_flip xs ys))
    (λ h e. rw (e, compare-lt y x h))

-- what it means for keys that both have a first byte
first_byte : (x y : ℕ) (xs ys : Key) → x ∷ xs ≺ y ∷ ys → (x < y) ⊎ ((x ≡ y) × (xs ≺ ys))
first_byte x y xs ys p = compare-cases x y
    (λ h e. inl h)
    (λ h e. inr (h, rw e at p))
    (λ h e. clash (ap is_le (rw e at p)) refl)

pub ≺-irrefl : (k : Key) → k ≺ k → ⊥
≺-irrefl k p = clash (ap compare_is_eq (order-self k)) (ap compare_is_eq p)

pub ≺-trans : (i j k : Key) → i ≺ j → j ≺ k → i ≺ k
≺-trans [] [] k p q = clash refl (ap compare_is_eq p)
≺-trans [] (y ∷ ys) [] p q = clash (ap is_le q) refl
≺-trans [] (y ∷ ys) (z ∷ zs) p q = refl
≺-trans (x ∷ xs) [] k p q = clash (ap is_le p) refl
≺-trans (x ∷ xs) (y ∷ ys) [] p q = clash (ap is_le q) refl
≺-trans (x ∷ xs) (y ∷ ys) (z ∷ zs) p q = go (first_byte x y xs ys p) (first_byte y z ys zs q) (≺-trans xs ys zs)
  where
    go : (x < y) ⊎ ((x ≡ y) × (xs ≺ ys)) → (y < z) ⊎ ((y ≡ z) × (ys ≺ zs)) → (xs ≺ ys → ys ≺ zs → xs ≺ zs)
        → x ∷ xs ≺ z ∷ zs
    go (inl h) (inl k) t = rw (compare-lt x z (omega arith))
    go (inl h) (inr k) t = rw (compare-lt x z (omega arith))
    go (inr h) (inl k) t = rw (compare-lt x z (omega arith))
    go (inr h) (inr k) t = rw (compare-eq x z (omega arith)) (t h.1 k.1)

-- a key is before another, the same or after it
pub key-cases : {P : Type 0} (j k : Key) → (j ≺ k → P) → (j ≡ k → P) → (k ≺ j → P) → P
key-cases {P} j k before level after = go (order j k) refl
  where
    go : (o : Ordering) → order j k ≡ o → P
    go Ordering.lt e = before e
    go Ordering.eq e = level (order-eq j k e)
    go Ordering.gt e = after (order_flip j k ∙ ap flip e)

pub same_self : (k : Key) → same k k ≡ true
same_self k = ap compare_is_eq (order-self k)

pub before-not-same : (j k : Key) → j ≺ k → same j k ≡ false
before-not-same j k p = ap compare_is_eq p

pub after-not-same : (j k : Key) → j ≺ k → same k j ≡ false
after-not-same j k p = ap compare_is_eq (order_flip j k ∙ ap flip p)

pub same-eq : (j k : Key) → same j k ≡ true → j ≡ k
same-eq j k p = order-eq j k (eq_is (order j k) p)

-- the order is by uuid, then by tag: `u` and `v` are uuids, of one length, and `s` and `t` the tags, empty where there is none
pub order-append : (u v s t : List ℕ) → length u ≡ length v → order (u ++ s) (v ++ t) ≡ or_else (order u v) (order s t)
order-append [] [] s t l = refl
order-append [] (y ∷ v) s t l = absurd (omega arith)
order-append (x ∷ u) [] s t l = absurd (omega arith)
order-append (x ∷ u) (y ∷ v) s t l = compare-cases x y
    (λ h e. rw e)
    (λ h e. rw e (order-append u v s t (suc_inj l)))
    (λ h e. rw e)

-- what begins a longer list comes before it: read as keys, a uuid without a tag comes before the same uuid with one; read as tags, a
-- tag comes before a longer one that begins with it
pub prefix_first : (p : Key) (b : ℕ) (t : List ℕ) → p ≺ p ++ (b ∷ t)
prefix_first [] b t = refl
prefix_first (x ∷ p) b t = rw (compare-eq x x refl) (prefix_first p b t)
