-- Laws of totals: they count members, each once; so equal sets have equal totals, a part's is at most the whole's, and those of the ids in either and
-- in both of two sets are together those of the two.
use Prim.Native.Nat.{ℕ, zero, suc, ◌+◌, ◌-◌, ◌*◌, ◌^◌, ◌≤◌, min}
use mathlib.Core.Path.{◌≡◌, refl, sym, ap, ◌∙◌}
use mathlib.Core.Bool.{Bool, true, false, not, ◌&&◌, ◌||◌, or-false, or_comm, and-false, and_comm}
use mathlib.Core.List.{List, [], ◌∷◌}
use native.Mathlib.Omega.{arith}
use lib.ListN.{length}
use lib.Dec.{leb, eqb}
use borrow.Author.Tests.{leb-true, eq-eqb, eqb-true}
use Rattle.packets.specs.Gno.{gno_top, is_gno, Interval, interval}
use Rattle.packets.specs.Key.{Key, same}
use Rattle.packets.proofs.Tests.{split, tests, and-true}
use Rattle.packets.proofs.Keys.{key-cases, same_self, same-eq}
use Rattle.packets.proofs.GnoLaws.{gno_top-is, gno-says}
use Rattle.previous_gtids_event.specs.Entry.{Entry, entry}
use Rattle.gtid_sets.specs.Interval.{within, covers, Gapped}
use Rattle.gtid_sets.specs.Set.{has, SetForm, add}
use Rattle.gtid_sets.specs.Run.{Event, anonymous, broken, names, answer, is_taken, after}
use Rattle.gtid_sets.specs.Combine.{either, both, without, swept, keep, combined}
use Rattle.gtid_sets.specs.Total.{size, total, Id, id, listed, MembersOnce}
use Rattle.gtid_sets.proofs.IntervalLaws.{inside, within-true, within-false, gapped-misses, one-within}
use Rattle.gtid_sets.proofs.SetLaws.{SameMembers, set-unique, has-add, form-add, has-gno}
use Rattle.gtid_sets.proofs.RunLaws.{answer-cases}
use Rattle.gtid_sets.proofs.SweepLaws.{swept-gapped, swept-covers}
use Rattle.gtid_sets.proofs.CombineLaws.{combined-lt, combined-eq, combined-gt, combined-form, combined-has, is-combined}

-- ---- counting numbers

abbrev pub bit : Bool → ℕ
bit true = 1
bit false = 0

-- how many numbers below m pass a test
abbrev count : (ℕ → Bool) → ℕ → ℕ
count p zero = 0
count p (suc m) = bit (p m) + count p m

count_same : (p q : ℕ → Bool) → ((n : ℕ) → p n ≡ q n) → (m : ℕ) → count p m ≡ count q m
count_same p q h zero = refl
count_same p q h (suc m) = rw (h m, count_same p q h m)

count_none : (m : ℕ) → count (λ n. false) m ≡ 0
count_none zero = refl
count_none (suc m) = omega (arith, count_none m)

-- two tests that hold of each number as often as two others do
count-even : (p q r t : ℕ → Bool) → ((n : ℕ) → bit (p n) + bit (q n) ≡ bit (r n) + bit (t n)) → (m : ℕ)
    → count p m + count q m ≡ count r m + count t m
count-even p q r t h zero = refl
count-even p q r t h (suc m) = omega (arith, h m, count-even p q r t h m)

count-within : (a b m : ℕ) → count (within a b) m ≡ min b m - a
count-within a b zero = omega arith
count-within a b (suc m) = split (within a b m)
    (λ h. let w = within-true a b m h in rw h (omega (arith, count-within a b m)))
    (λ h. rw h (split (leb a m)
    (λ l. omega (tests, within-false a b m h (leb-true a m l), count-within a b m))
    (λ l. omega (tests, count-within a b m))))

apart : (x y : Bool) → (x ≡ true → y ≡ false) → bit (x || y) + 0 ≡ bit x + bit y
apart true y h = rw (h refl)
apart false y h = omega arith

-- the size of intervals in their written form is how many numbers they hold
size_counts : (low : ℕ) (is : List Interval) → Gapped low is → size is ≡ count (covers is) gno_top
size_counts low [] g = sym (count_none gno_top)
size_counts low (interval s e ∷ is) g =
    let rest = size_counts e is g.3 in
    let sum = count-even (covers (interval s e ∷ is)) (λ n. false) (within s e) (covers is)
    (λ n. apart (within s e n) (covers is n) (λ h. let w = within-true s e n h in gapped-misses e is n g.3 (omega arith))) gno_top in
    omega (arith, count-within s e gno_top, count_none gno_top, g.1, g.2)

-- an entry's ids are fewer than the numbers that it could have
pub size-most : (low : ℕ) (is : List Interval) → Gapped low is → size is ≤ gno_top - suc low
size-most low [] g = omega arith
size-most low (interval s e ∷ is) g = omega (arith, size-most e is g.3, g.0, g.1, g.2)

pub total-most : (s : List Entry) → SetForm s → total s ≤ (2 ^ 63 - 2) * length s
total-most [] f = omega arith
total-most (entry k is ∷ s) f = omega (arith, size-most 0 is f.1, gno_top-is, total-most s f.3)

-- ---- two sets

size-swept : (op : Bool → Bool → Bool) → op false false ≡ false → (is js : List Interval) → Gapped 0 is → Gapped 0 js
    → size (swept op is js) ≡ count (λ n. op (covers is n) (covers js n)) gno_top
size-swept op none is js g h =
    size_counts 0 (swept op is js) (swept-gapped op none is js g h)
    ∙ count_same (covers (swept op is js)) (λ n. op (covers is n) (covers js n)) (swept-covers op none is js g h) gno_top

keep-total : (k : Key) (is : List Interval) (s : List Entry) → total (keep k is s) ≡ size is + total s
keep-total k [] s = omega arith
keep-total k (i ∷ is) s = refl

-- two operations that keep each id as often as two others do: the totals of what they give are together those of what these give
module _ (p q r t : Bool → Bool → Bool) (np : p false false ≡ false) (nq : q false false ≡ false) (nr : r false false ≡ false)
    (nt : t false false ≡ false) (even : (x y : Bool) → bit (p x y) + bit (q x y) ≡ bit (r x y) + bit (t x y)) where
  swept-even : (is js : List Interval) → Gapped 0 is → Gapped 0 js
      → size (swept p is js) + size (swept q is js) ≡ size (swept r is js) + size (swept t is js)
  swept-even is js g h =
      let sum = count-even (λ n. p (covers is n) (covers js n)) (λ n. q (covers is n) (covers js n)) (λ n. r (covers is n) (covers js n))
      (λ n. t (covers is n) (covers js n)) (λ n. even (covers is n) (covers js n)) gno_top in
      rw (size-swept p np is js g h, size-swept q nq is js g h, size-swept r nr is js g h, size-swept t nt is js g h) sum

  abbrev Even : List Entry → List Entry → Type 0
  Even s u = total (combined p s u) + total (combined q s u) ≡ total (combined r s u) + total (combined t s u)

  kept-even : (k : Key) (is js : List Interval) (s u : List Entry) → Gapped 0 is → Gapped 0 js → Even s u
      → total (keep k (swept p is js) (combined p s u)) + total (keep k (swept q is js) (combined q s u))
      ≡ total (keep k (swept r is js) (combined r s u)) + total (keep k (swept t is js) (combined t s u))
  kept-even k is js s u g h e =
      rw (
        keep-total k (swept p is js) (combined p s u),
        keep-total k (swept q is js) (combined q s u),
        keep-total k (swept r is js) (combined r s u),
        keep-total k (swept t is js) (combined t s u),
      )
      (omega (arith, swept-even is js g h, e))

  total-even : (s u : List Entry) → SetForm s → SetForm u → Even s u
  total-even [] [] f g = refl
  total-even (entry k is ∷ s) [] f g = kept-even k is [] s [] f.1 tt (total-even s [] f.3 tt)
  total-even [] (entry j js ∷ u) f g = kept-even j [] js [] u tt g.1 (total-even [] u tt g.3)
  total-even (entry k is ∷ s) (entry j js ∷ u) f g = key-cases k j
      (λ h. rw (combined-lt p k j is js s u h, combined-lt q k j is js s u h, combined-lt r k j is js s u h, combined-lt t k j is js s u h)
      (kept-even k is [] s (entry j js ∷ u) f.1 tt (total-even s (entry j js ∷ u) f.3 g)))
      (λ h. rw (combined-eq p k j is js s u h, combined-eq q k j is js s u h, combined-eq r k j is js s u h, combined-eq t k j is js s u h)
      (kept-even k is js s u f.1 g.1 (total-even s u f.3 g.3)))
      (λ h. rw (combined-gt p k j is js s u h, combined-gt q k j is js s u h, combined-gt r k j is js s u h, combined-gt t k j is js s u h)
      (kept-even j [] js (entry k is ∷ s) u tt g.1 (total-even (entry k is ∷ s) u f g.3)))

abbrev first : Bool → Bool → Bool
first x y = x

abbrev second : Bool → Bool → Bool
second x y = y

abbrev neither : Bool → Bool → Bool
neither x y = false

either-even : (x y : Bool) → bit (either x y) + bit (both x y) ≡ bit (first x y) + bit (second x y)
either-even true true = refl
either-even true false = refl
either-even false true = refl
either-even false false = refl

without-even : (x y : Bool) → bit (without x y) + bit (both x y) ≡ bit (first x y) + bit (neither x y)
without-even true true = refl
without-even true false = refl
without-even false true = refl
without-even false false = refl

module _ (s t : List Entry) (f : SetForm s) (g : SetForm t) where
  only-first : combined first s t ≡ s
  only-first = sym (is-combined first refl s t s f g f (λ k n. refl))

  only-second : combined second s t ≡ t
  only-second = sym (is-combined second refl s t t f g g (λ k n. refl))

  nothing : combined neither s t ≡ []
  nothing = sym (is-combined neither refl s t [] f g tt (λ k n. refl))

  -- an id in both is counted twice on either side
  pub either-total : total (combined either s t) + total (combined both s t) ≡ total s + total t
  either-total =
      let even = total-even either both first second refl refl refl refl either-even s t f g in
      rw (only-first, only-second) at even

  -- what is not in the second, and what is in both
  pub without-total : total (combined without s t) + total (combined both s t) ≡ total s
  without-total =
      let even = total-even without both first neither refl refl refl refl without-even s t f g in
      let all : total (combined without s t) + total (combined both s t) ≡ total s + 0 = rw (only-first, nothing) at even in
      omega (arith, all)

  pub same_total : SameMembers s t → total s ≡ total t
  same_total m = ap total (set-unique s t f g m)

in_whole : (x y : Bool) → (y ≡ true → x ≡ true) → y ≡ both x y
in_whole x true h = rw (h refl)
in_whole true false h = refl
in_whole false false h = refl

-- a part's total is at most the whole's
pub part-total : (s t : List Entry) → SetForm s → SetForm t → ((k : Key) (n : ℕ) → has s k n ≡ true → has t k n ≡ true) → total s ≤ total t
part-total s t f g m =
    let part : s ≡ combined both t s = is-combined both refl t s s g f f (λ k n. in_whole (has t k n) (has s k n) (m k n)) in
    omega (arith, without-total t s g f, ap total part)

-- ---- one id

-- it alone, as a set
abbrev one : Key → ℕ → List Entry
one k n = entry k (interval n (n + 1) ∷ []) ∷ []

one_has : (j : Key) (m : ℕ) (k : Key) (n : ℕ) → has (one j m) k n ≡ same k j && eqb n m
one_has j m k n = rw (or-false (within m (m + 1) n), one-within m n) (or-false (same k j && eqb n m))

one_form : (k : Key) (n : ℕ) → is_gno n ≡ true → SetForm (one k n)
one_form k n g = let h = gno-says n g in (tt, (omega arith, omega arith, omega arith, tt), tt, tt)

one-total : (k : Key) (n : ℕ) → total (one k n) ≡ 1
one-total k n = omega arith

-- another id than (j, m), or that one
one-cases : {P : Type 0} (j : Key) (m : ℕ) (k : Key) (n : ℕ) → (k ≡ j → n ≡ m → P) → (same k j && eqb n m ≡ false → P) → P
one-cases j m k n this other = split (same k j && eqb n m)
    (λ h. let w = and-true (same k j) (eqb n m) h in this (same-eq k j w.0) (eqb-true n m w.1))
    other

this-one : (k : Key) (n : ℕ) → same k k && eqb n n ≡ true
this-one k n = rw (same_self k, eq-eqb n n refl)

module _ (s : List Entry) (k : Key) (n : ℕ) (f : SetForm s) where
  -- one that is not a member adds one
  pub add_total : is_gno n ≡ true → has s k n ≡ false → total (add k n s) ≡ total s + 1
  add_total g absent =
      let u = one_form k n g in
      let grown : add k n s ≡ combined either s (one k n) =
      is-combined either refl s (one k n) (add k n s) f u (form-add k n s g f)
      (λ k' m. has-add k n s k' m ∙ rw (one_has k n k' m) (or_comm (same k' k && eqb m n) (has s k' m))) in
      let none : [] ≡ combined both s (one k n) = is-combined both refl s (one k n) [] f u tt not-both in
      omega (arith, either-total s (one k n) f u, ap total grown, ap total none, one-total k n)
    where
      not-both : (k' : Key) (m : ℕ) → false ≡ has s k' m && has (one k n) k' m
      not-both k' m = one-cases k n k' m
          (λ p q. rw (p, q, absent))
          (λ h. rw (one_has k n k' m, h) (sym (and-false (has s k' m))))

  -- a set without one of its members
  abbrev less : List Entry
  less = combined without s (one k n)

  module _ (there : has s k n ≡ true) where
    alone : SetForm (one k n)
    alone = one_form k n (has-gno s k n f there)

    less-form : SetForm less
    less-form = combined-form without refl s (one k n) f alone

    less-has : (k' : Key) (m : ℕ) → has less k' m ≡ has s k' m && not (same k' k && eqb m n)
    less-has k' m = combined-has without refl s (one k n) k' m f alone ∙ rw (one_has k n k' m)

    -- has one id less
    less-total : total s ≡ suc (total less)
    less-total =
        let this : one k n ≡ combined both s (one k n) = is-combined both refl s (one k n) (one k n) f alone alone in_both in
        omega (arith, without-total s (one k n) f alone, ap total this, one-total k n)
      where
        in_both : (k' : Key) (m : ℕ) → has (one k n) k' m ≡ has s k' m && has (one k n) k' m
        in_both k' m = one-cases k n k' m
            (λ p q. rw (p, q, there))
            (λ h. rw (one_has k n k' m, h) (sym (and-false (has s k' m))))

    -- and is listed by the rest of a list that has this id first
    less-listed : (ids : List Id) → listed ids k n ≡ false
        → ((k' : Key) (m : ℕ) → (same k' k && eqb m n) || listed ids k' m ≡ has s k' m) → (k' : Key) (m : ℕ) → listed ids k' m ≡ has less k' m
    less-listed ids absent all k' m = one-cases k n k' m
        (λ p q. rw (p, q, absent, less-has k n, this-one k n) (sym (and-false (has s k n))))
        (λ h. let same : listed ids k' m ≡ has s k' m = rw h at (all k' m) in rw (same, less-has k' m, h) (sym (and_comm (has s k' m) true)))

    -- and back
    less-more : (ids : List Id) → MembersOnce less ids → MembersOnce s (id k n ∷ ids)
    less-more ids o = record { once = (o.members k n ∙ less-has k n ∙ rw (this-one k n) (and-false (has s k n)), o.once); members = more }
      where
        more : (k' : Key) (m : ℕ) → (same k' k && eqb m n) || listed ids k' m ≡ has s k' m
        more k' m = one-cases k n k' m
            (λ p q. rw (p, q, this-one k n) (sym there))
            (λ h. rw (h, o.members k' m, less-has k' m, h) (and_comm (has s k' m) true))

-- ---- totals count members, each once

-- any list that has each member once, and nothing else, is so long
pub total-counts : (s : List Entry) (ids : List Id) → SetForm s → MembersOnce s ids → length ids ≡ total s
total-counts s [] f o = ap total (set-unique [] s tt f o.members)
total-counts s (id k n ∷ ids) f o =
    let there : has s k n ≡ true = sym (o.members k n) ∙ rw (this-one k n) in
    let rest : MembersOnce (less s k n f) ids = record { once = o.once.1; members = less-listed s k n f there ids o.once.0 o.members } in
    let so-long = total-counts (less s k n f) ids (less-form s k n f there) rest in
    omega (arith, less-total s k n f there)

-- and there is one: a member, and then the others
abbrev Named : List Entry → Type 0
Named s = (ids : List Id) × MembersOnce s ids

named_more : (m : ℕ) → ((s : List Entry) → SetForm s → suc (total s) ≡ m → Named s) → (s : List Entry) → SetForm s → total s ≡ m → Named s
named_more m rest [] f e = ([], record { once = tt; members = λ k n. refl })
named_more m rest (entry k [] ∷ s) f e = absurd f.0
named_more m rest (entry k (interval a b ∷ is) ∷ s) f e =
    let all = entry k (interval a b ∷ is) ∷ s in
    let there : has all k a ≡ true = rw (same_self k, inside a b a (omega arith) f.1.1) in
    let (ids, o) = rest (less all k a f) (less-form all k a f there) (sym (less-total all k a f there) ∙ e) in
    (id k a ∷ ids, less-more all k a f there ids o)

named-all : (m : ℕ) (s : List Entry) → SetForm s → total s ≡ m → Named s
named-all zero s f e = named_more zero (λ t g h. absurd (omega arith)) s f e
named-all (suc m) s f e = named_more (suc m) (λ t g h. named-all m t g (omega arith)) s f e

pub total-named : (s : List Entry) → SetForm s → (ids : List Id) × MembersOnce s ids
total-named s f = named-all (total s) s f refl

-- ---- offers

-- only "taken" adds an id, and it adds one
pub after-total : (s : List Entry) (e : Event) → SetForm s → total (after s e) ≡ total s + bit (is_taken (answer s e))
after-total s anonymous f = omega arith
after-total s (broken r) f = omega arith
after-total s (names k n) f = answer-cases s k n
    (λ g e. rw e (omega arith))
    (λ g h e. rw e (omega arith))
    (λ g h l e. rw e (add_total s k n f g h))
    (λ r v g h l e. rw e (omega arith))
