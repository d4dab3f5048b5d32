-- Laws of lent sets: a set that was written is lent back; what is lent is a set, in set form and within the limits; and no set is longer
-- than `longest_set`.
use Prim.Native.Nat.{ℕ, ◌^◌, ◌<◌, ◌≤◌}
use mathlib.Core.Path.{◌≡◌, refl, ap, ◌∙◌}
use mathlib.Core.Bool.{◌&&◌}
use mathlib.Core.List.{List, [], ◌∷◌}
use native.Mathlib.Omega.{arith}
use lib.ListN.{length}
use Rattle.misc.specs.Parse.{Parse, refuse, parsed}
use Rattle.misc.proofs.ParseLaws.{pick-either}
use Rattle.misc.specs.Le.{le_bytes}
use Rattle.packets.specs.Gno.{Interval, interval}
use Rattle.packets.specs.Key.{Key, same}
use Rattle.packets.proofs.Tests.{and-true}
use Rattle.packets.proofs.Keys.{same_self, same-eq, key-cases}
use Rattle.packets.proofs.GnoLaws.{gno_top-is}
use Rattle.previous_gtids_event.specs.Entry.{Entry, entry}
use Rattle.previous_gtids_event.specs.Previous.{GoodKey, previous}
use Rattle.previous_gtids_event.specs.Rewrite.{entries_bytes, any_tag, header_bytes, body_bytes}
use Rattle.previous_gtids_event.proofs.Laying.{GoodIntervals, WellFormed}
use Rattle.previous_gtids_event.proofs.RoundTrip.{rewritten-read-alone}
use Rattle.gtid_sets.specs.Interval.{Gapped}
use Rattle.gtid_sets.specs.Set.{SetForm, in_set_form, join}
use Rattle.gtid_sets.specs.TakeIn.{Lawful, join_all, union, taken_set}
use Rattle.gtid_sets.specs.Limits.{intervals, crowds, fine, is_fine, limits, longest_set}
use Rattle.gtid_sets.specs.Lent.{Lent, form, unfit, is_form, lent_read, lent_set, GoodKeys, SetLaid}
use Rattle.gtid_sets.proofs.SetLaws.{join-before, join-into, join-after}
use Rattle.gtid_sets.proofs.TakeInLaws.{form-union, form-take_in}
use Rattle.gtid_sets.proofs.FormLaws.{form-holds, form-tests}
use Rattle.gtid_sets.proofs.LimitLaws.{max_entries-is, max_intervals-is, longest_set-is, limits-crowded, limits-says, limits-from, fine-holds}
use Rattle.gtid_sets.proofs.KeyLaws.{read-good}
use Rattle.gtid_sets.proofs.ByteLaws.{body-long}

-- ---- the longest set

pub longest : (s : List Entry) → GoodKeys s → limits s ≡ fine → length (body_bytes s) ≤ longest_set
unfolding longest_set
longest s g h = omega (arith, body-long s g, limits-says s h)

-- ---- a set that was written is lent back

pub gapped-wide : (low : ℕ) (is : List Interval) → Gapped low is → GoodIntervals is
gapped-wide low [] g = tt
gapped-wide low (interval a b ∷ is) g = (omega (arith, gno_top-is), omega (arith, gno_top-is), gapped-wide b is g.3)

pub well-formed : (s : List Entry) → SetForm s → GoodKeys s → intervals s < 2 ^ 64 → WellFormed s
well-formed [] f g l = tt
well-formed (entry k is ∷ s) f g l = (
  g.0,
  gapped-wide 0 is f.1,
  omega arith,
  well-formed s f.3 g.1 (omega arith),
)

module _ (s : List Entry) (f : SetForm s) (g : GoodKeys s) (h : limits s ≡ fine) where
  pub read_back : previous (body_bytes s) ≡ parsed s (length (body_bytes s))
  read_back =
      let few : intervals s < 2 ^ 64 = omega (arith, limits-says s h, max_intervals-is) in
      rewritten-read-alone s (well-formed s f g few) (omega (arith, longest s g h, longest_set-is))

  pub lent_back : lent_set (body_bytes s) ≡ form s
  unfolding lent_set
  lent_back = rw (read_back, same_self (body_bytes s), form-tests s f, h)

-- ---- sets that were saved while a set had 256 entries and 2,048 intervals at most, in however few entries: they are lent still, unless an
-- entry has too many

module _ (s : List Entry) (f : SetForm s) (g : GoodKeys s) (few : length s ≤ 256) (less : intervals s ≤ 2048) where
  pub older-lent : crowds s ≡ 0 → lent_set (body_bytes s) ≡ form s
  older-lent fair = lent_back s f g (limits-from s fair (omega (arith, max_entries-is)) (omega (arith, max_intervals-is)))

  pub older-unfit : (crowds s ≡ 0 → ⊥) → lent_set (body_bytes s) ≡ unfit
  unfolding lent_set
  older-unfit some =
      let read = rewritten-read-alone s (well-formed s f g (omega arith)) (omega (arith, body-long s g)) in
      rw (read, same_self (body_bytes s), form-tests s f, limits-crowded s some)

-- ---- what is lent is a set

no-form : {P : Type 0} {s : List Entry} → unfit ≡ form s → P
no-form h = let z : ◌≡◌ {A = ℕ} 0 1 = cc in absurd (omega arith)

pub lent_is : (bs : List ℕ) (s : List Entry) → lent_set bs ≡ form s → SetLaid bs s
unfolding lent_set
lent_is bs s = go (previous bs) refl
  where
    go : (p : Parse (List Entry)) → previous bs ≡ p → lent_read bs p ≡ form s → SetLaid bs s
    go (refuse r) e h = no-form h
    go (parsed t next) e h = pick-either (is_form bs t) h
        (λ k is. let same_set : t ≡ s = cc in
        let (a, b) = and-true (same bs (body_bytes t)) (in_set_form t && is_fine (limits t)) k in
        let (c, d) = and-true (in_set_form t) (is_fine (limits t)) b in
        rw (← same_set) (record {
          written = same-eq bs (body_bytes t) a;
          formed = form-holds t c;
          keyed = read-good bs t next e;
          limited = fine-holds (limits t) d;
        }))
        (λ k is. no-form is)

-- and the other way round
pub is-lent : (bs : List ℕ) (s : List Entry) → SetLaid bs s → lent_set bs ≡ form s
is-lent bs s i = ap lent_set i.written ∙ lent_back s i.formed i.keyed i.limited

-- bytes that lend no set are unfit
pub lent_none : (bs : List ℕ) → ((s : List Entry) → SetLaid bs s → ⊥) → lent_set bs ≡ unfit
lent_none bs none = go (lent_set bs) refl
  where
    go : (l : Lent) → lent_set bs ≡ l → l ≡ unfit
    go (form s) e = absurd (none s (lent_is bs s e))
    go unfit e = refl

-- a lent set is not longer than the longest
pub lent-short : (bs : List ℕ) (s : List Entry) → lent_set bs ≡ form s → length bs ≤ longest_set
lent-short bs s h = let l = lent_is bs s h in rw l.written (longest s l.keyed l.limited)

-- the empty set is eight zero bytes
pub empty-bytes : body_bytes [] ≡ 0 ∷ 0 ∷ 0 ∷ 0 ∷ 0 ∷ 0 ∷ 0 ∷ 0 ∷ []
unfolding body_bytes any_tag header_bytes entries_bytes le_bytes
empty-bytes = refl

-- ---- keys of a set that grows

pub good-join : (k : Key) (a b : ℕ) (s : List Entry) → GoodKey k → GoodKeys s → GoodKeys (join k a b s)
good-join k a b [] g h = (g, tt)
good-join k a b (entry j is ∷ s) g h = key-cases k j
    (λ p. rw (join-before k j a b is s p) (g, h))
    (λ p. rw (← p, join-into k a b is s) (g, h.1))
    (λ p. rw (join-after k j a b is s p) (h.0, good-join k a b s g h.1))

pub good-join_all : (k : Key) (is : List Interval) (s : List Entry) → GoodKey k → GoodKeys s → GoodKeys (join_all k is s)
good-join_all k [] s g h = h
good-join_all k (interval a b ∷ is) s g h = good-join_all k is (join k a b s) g (good-join k a b s g h)

pub good-union : (r s : List Entry) → GoodKeys r → GoodKeys s → GoodKeys (union r s)
good-union [] s g h = h
good-union (entry k is ∷ r) s g h = good-union r (join_all k is s) g.1 (good-join_all k is s g.0 h)

pub good-take_in : (r : List Entry) → GoodKeys r → GoodKeys (taken_set r)
good-take_in r g = good-union r [] g tt

-- what a body becomes that is taken in is lent back
pub lent-take_in : (bs : List ℕ) (r : List Entry) (next : ℕ) → previous bs ≡ parsed r next → Lawful r → limits (taken_set r) ≡ fine
    → lent_set (body_bytes (taken_set r)) ≡ form (taken_set r)
lent-take_in bs r next e l h = lent_back (taken_set r) (form-take_in r l) (good-take_in r (read-good bs r next e)) h

-- and so is a lent set with all ids of a body too
pub lent-union : (bs : List ℕ) (r : List Entry) (next : ℕ) (set : List ℕ) (s : List Entry) → previous bs ≡ parsed r next → lent_set set ≡ form s
    → Lawful r → limits (union r s) ≡ fine → lent_set (body_bytes (union r s)) ≡ form (union r s)
lent-union bs r next set s e h l fits =
    let i = lent_is set s h in
    lent_back (union r s) (form-union r s l i.formed) (good-union r s (read-good bs r next e) i.keyed) fits
