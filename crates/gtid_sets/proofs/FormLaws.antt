-- The tests of set form and of the gno rule come out true exactly where they should.
use Prim.Native.Nat.{ℕ, Ordering}
use mathlib.Core.Path.{◌≡◌, refl, ap}
use mathlib.Core.Bool.{true, ◌&&◌}
use mathlib.Core.List.{List, [], ◌∷◌}
use native.Mathlib.Omega.{arith}
use lib.Dec.{ltb}
use borrow.Author.Tests.{ltb-true, lt-ltb}
use Rattle.packets.specs.Gno.{Interval, interval, is_interval}
use Rattle.packets.specs.Key.{Key, order}
use Rattle.packets.proofs.Tests.{clash, and-true}
use Rattle.packets.proofs.GnoLaws.{interval-says, interval-from}
use Rattle.previous_gtids_event.specs.Entry.{Entry, entry}
use Rattle.gtid_sets.specs.Interval.{Gapped, gapped, Some, some}
use Rattle.gtid_sets.specs.Set.{Above, SetForm, is_lt, above, in_set_form}
use Rattle.gtid_sets.specs.TakeIn.{Proper, Lawful, proper, lawful}

-- ---- set form

pub gapped-holds : (low : ℕ) (is : List Interval) → gapped low is ≡ true → Gapped low is
gapped-holds low [] h = tt
gapped-holds low (interval s e ∷ is) h =
    let (a, b) = and-true (ltb low s) (is_interval (interval s e) && gapped e is) h in
    let (c, d) = and-true (is_interval (interval s e)) (gapped e is) b in
    let r = interval-says s e c in
    (ltb-true low s a, r.1, r.2, gapped-holds e is d)

pub gapped-tests : (low : ℕ) (is : List Interval) → Gapped low is → gapped low is ≡ true
gapped-tests low [] g = refl
gapped-tests low (interval s e ∷ is) g = rw (lt-ltb low s g.0, interval-from s e (omega arith) g.1 g.2) (gapped-tests e is g.3)

pub some_holds : (is : List Interval) → some is ≡ true → Some is
some_holds [] h = clash h refl
some_holds (i ∷ is) h = tt

pub some_tests : (is : List Interval) → Some is → some is ≡ true
some_tests [] h = absurd h
some_tests (i ∷ is) h = refl

pub lt-holds : (o : Ordering) → is_lt o ≡ true → o ≡ Ordering.lt
lt-holds Ordering.lt h = refl
lt-holds Ordering.eq h = clash h refl
lt-holds Ordering.gt h = clash h refl

pub above_holds : (k : Key) (s : List Entry) → above k s ≡ true → Above k s
above_holds k [] h = tt
above_holds k (entry j is ∷ s) h = lt-holds (order k j) h

pub above-tests : (k : Key) (s : List Entry) → Above k s → above k s ≡ true
above-tests k [] a = refl
above-tests k (entry j is ∷ s) a = ap is_lt a

pub form-holds : (s : List Entry) → in_set_form s ≡ true → SetForm s
form-holds [] h = tt
form-holds (entry k is ∷ s) h =
    let (a, b) = and-true (some is) (gapped 0 is && (above k s && in_set_form s)) h in
    let (c, d) = and-true (gapped 0 is) (above k s && in_set_form s) b in
    let (e, f) = and-true (above k s) (in_set_form s) d in
    (some_holds is a, gapped-holds 0 is c, above_holds k s e, form-holds s f)

pub form-tests : (s : List Entry) → SetForm s → in_set_form s ≡ true
form-tests [] f = refl
form-tests (entry k is ∷ s) f = rw (some_tests is f.0, gapped-tests 0 is f.1, above-tests k s f.2) (form-tests s f.3)

-- ---- the gno rule

pub proper-holds : (is : List Interval) → proper is ≡ true → Proper is
proper-holds [] h = tt
proper-holds (interval s e ∷ is) h =
    let (a, b) = and-true (is_interval (interval s e)) (proper is) h in
    let r = interval-says s e a in
    (omega arith, r.1, r.2, proper-holds is b)

pub proper-tests : (is : List Interval) → Proper is → proper is ≡ true
proper-tests [] p = refl
proper-tests (interval s e ∷ is) p = rw (interval-from s e (omega arith) p.1 p.2) (proper-tests is p.3)

pub lawful-holds : (r : List Entry) → lawful r ≡ true → Lawful r
lawful-holds [] h = tt
lawful-holds (entry k is ∷ r) h = let (p, q) = and-true (proper is) (lawful r) h in (proper-holds is p, lawful-holds r q)

pub lawful-tests : (r : List Entry) → Lawful r → lawful r ≡ true
lawful-tests [] l = refl
lawful-tests (entry k is ∷ r) l = rw (proper-tests is l.0) (lawful-tests r l.1)
