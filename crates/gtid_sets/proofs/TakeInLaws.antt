-- Laws of taking in: its members are the body's ids, it is in set form, and since that is unique any other way to them gives the same.
use Prim.Native.Nat.{ℕ}
use mathlib.Core.Path.{◌≡◌, refl, sym, ◌∙◌}
use mathlib.Core.Bool.{true, ◌&&◌, ◌||◌, or-false, and-false, and-or_distrib_left}
use mathlib.Core.List.{List, [], ◌∷◌}
use native.Mathlib.Omega.{arith}
use Rattle.packets.specs.Gno.{Interval, interval}
use Rattle.packets.specs.Key.{Key, same}
use Rattle.previous_gtids_event.specs.Entry.{Entry, entry}
use Rattle.gtid_sets.specs.Interval.{covers, Gapped}
use Rattle.gtid_sets.specs.Set.{has, SetForm, join}
use Rattle.gtid_sets.specs.TakeIn.{Proper, Lawful, join_all, union, taken_set}
use Rattle.gtid_sets.proofs.Bools.{or-shift, or-within}
use Rattle.gtid_sets.proofs.SetLaws.{has_join, form-join, set-unique}

-- ---- members

pub has-join_all : (k : Key) (is : List Interval) (s : List Entry) (k' : Key) (n : ℕ)
    → has (join_all k is s) k' n ≡ (same k' k && covers is n) || has s k' n
has-join_all k [] s k' n = rw (and-false (same k' k))
has-join_all k (interval a b ∷ is) s k' n =
    rw (has-join_all k is (join k a b s) k' n, has_join k a b s k' n, and-or_distrib_left, or-shift)

pub has-union : (r s : List Entry) (k : Key) (n : ℕ) → has (union r s) k n ≡ has r k n || has s k n
has-union [] s k n = refl
has-union (entry j is ∷ r) s k n =
    rw (has-union r (join_all j is s) k n, has-join_all j is s k n, or-shift)

-- a body's ids, and no other, are the members of the set that it becomes
pub has-take_in : (r : List Entry) (k : Key) (n : ℕ) → has (taken_set r) k n ≡ has r k n
has-take_in r k n = has-union r [] k n ∙ or-false (has r k n)

-- ---- set form

pub form-join_all : (k : Key) (is : List Interval) (s : List Entry) → Proper is → SetForm s → SetForm (join_all k is s)
form-join_all k [] s p f = f
form-join_all k (interval a b ∷ is) s p f = form-join_all k is (join k a b s) p.3 (form-join k a b s p.0 p.1 p.2 f)

pub form-union : (r s : List Entry) → Lawful r → SetForm s → SetForm (union r s)
form-union [] s l f = f
form-union (entry k is ∷ r) s l f = form-union r (join_all k is s) l.1 (form-join_all k is s l.0 f)

pub form-take_in : (r : List Entry) → Lawful r → SetForm (taken_set r)
form-take_in r l = form-union r [] l tt

gapped-proper : (low : ℕ) (is : List Interval) → Gapped low is → Proper is
gapped-proper low [] g = tt
gapped-proper low (interval a b ∷ is) g = (omega arith, g.1, g.2, gapped-proper b is g.3)

pub form-lawful : (s : List Entry) → SetForm s → Lawful s
form-lawful [] f = tt
form-lawful (entry k is ∷ s) f = (gapped-proper 0 is f.1, form-lawful s f.3)

-- ---- there is no other

-- however it was made: what is in set form and has the right members is the result
pub is_union : (r s u : List Entry) → Lawful r → SetForm s → SetForm u
    → ((k : Key) (n : ℕ) → has u k n ≡ has r k n || has s k n) → u ≡ union r s
is_union r s u l f g m = set-unique u (union r s) g (form-union r s l f) (λ k n. m k n ∙ sym (has-union r s k n))

-- ids that are members already change nothing
pub union-within : (r s : List Entry) → Lawful r → SetForm s → ((k : Key) (n : ℕ) → has r k n ≡ true → has s k n ≡ true) → union r s ≡ s
union-within r s l f m = sym (is_union r s s l f f (λ k n. sym (or-within (has r k n) (has s k n) (m k n))))

pub is-take_in : (r u : List Entry) → Lawful r → SetForm u → ((k : Key) (n : ℕ) → has u k n ≡ has r k n) → u ≡ taken_set r
is-take_in r u l g m = is_union r [] u l tt g (λ k n. m k n ∙ sym (or-false (has r k n)))

-- taking in a set gives it back
pub take_in-self : (s : List Entry) → SetForm s → taken_set s ≡ s
take_in-self s f = sym (is-take_in s s (form-lawful s f) f (λ k n. refl))
