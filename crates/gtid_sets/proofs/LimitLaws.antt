-- Laws of the set limits: their values, and what the judgement says.
use Prim.Native.Nat.{ℕ, ◌+◌, ◌≤◌, ◌<◌}
use mathlib.Core.Path.{◌≡◌, refl, ap, ◌∙◌}
use mathlib.Core.Bool.{Bool, true, ◌&&◌, ◌||◌, and-false}
use mathlib.Core.List.{List, [], ◌∷◌, ◌++◌}
use native.Mathlib.Omega.{arith}
use lib.ListN.{length}
use lib.Dec.{leb, eqb}
use borrow.Author.Tests.{leb-true, leb-false, le-leb, lt-leb, eqb-true, ne_eqb}
use Rattle.misc.specs.declared.refusal.Refusal.{Refusal}
use Rattle.misc.specs.Refusal.{number, full, crowded}
use Rattle.packets.specs.Gno.{Interval}
use Rattle.packets.specs.Key.{Key}
use Rattle.packets.proofs.Tests.{split, clash, and-true}
use Rattle.previous_gtids_event.specs.Entry.{Entry, entry}
use Rattle.gtid_sets.specs.Limits.{
  max_entries,
  max_intervals,
  max_of_entry,
  summed,
  intervals,
  over,
  crowds,
  Judged,
  fine,
  breaks,
  is_fine,
  judged,
  limits,
  is_full,
  longest_set,
  EntryOver,
}

pub max_entries-is : max_entries ≡ 384
unfolding max_entries
max_entries-is = refl

pub max_intervals-is : max_intervals ≡ 2560
unfolding max_intervals
max_intervals-is = refl

pub max_of_entry-is : max_of_entry ≡ 1024
unfolding max_of_entry
max_of_entry-is = refl

pub longest_set-is : longest_set ≡ 62856
unfolding longest_set max_entries max_intervals
longest_set-is = refl

pub is_full-is : (r : Refusal) → is_full r ≡ eqb (number r) 16 || eqb (number r) 17
unfolding is_full
is_full-is r = refl

pub fine-holds : (j : Judged) → is_fine j ≡ true → j ≡ fine
fine-holds fine h = refl
fine-holds (breaks r) h = clash h refl

-- ---- entries with too many intervals

pub summed-append : (f : ℕ → ℕ) (s t : List Entry) → summed f (s ++ t) ≡ summed f s + summed f t
summed-append f [] t = omega arith
summed-append f (entry k is ∷ s) t = rw (summed-append f s t) (omega arith)

pub over_none : (n : ℕ) → n ≤ max_of_entry → over n ≡ 0
over_none n h = rw (le-leb n max_of_entry h)

pub over-one : (n : ℕ) → max_of_entry < n → over n ≡ 1
over-one n h = rw (lt-leb n max_of_entry h)

pub over-most : (n : ℕ) → over n ≤ 1
over-most n = split (leb n max_of_entry) (λ h. rw h (omega arith)) (λ h. rw h (omega arith))

pub crowds-most : (s : List Entry) → crowds s ≤ length s
crowds-most [] = omega arith
crowds-most (entry k is ∷ s) = omega (arith, over-most (length is), crowds-most s)

-- an entry that has too many is counted
pub entry-over : (s : List Entry) → EntryOver max_of_entry s → crowds s ≡ 0 → ⊥
entry-over s e none =
    let here : crowds (entry e.key e.is ∷ e.back) ≡ 1 + crowds e.back = rw (over-one (length e.is) e.many) in
    let all : crowds s ≡ crowds e.front + crowds (entry e.key e.is ∷ e.back) =
    ap crowds e.stands ∙ summed-append over e.front (entry e.key e.is ∷ e.back) in
    omega arith

later : (n : ℕ) (k : Key) (is : List Interval) (s : List Entry) → EntryOver n s → EntryOver n (entry k is ∷ s)
later n k is s e =
    record {
      front = entry k is ∷ e.front;
      key = e.key;
      is = e.is;
      back = e.back;
      stands = ap (λ (t : List Entry). entry k is ∷ t) e.stands;
      many =
          e.many;
    }

-- and what is counted is one
pub over-entry : (s : List Entry) → (crowds s ≡ 0 → ⊥) → EntryOver max_of_entry s
over-entry [] some = absurd (some refl)
over-entry (entry k is ∷ s) some = split (leb (length is) max_of_entry)
    (λ h. later max_of_entry k is s (over-entry s (λ none. some (rw (h, none)))))
    (λ h. record { front = []; key = k; is = is; back = s; stands = refl; many = leb-false (length is) max_of_entry h })

-- ---- what is judged, by the counts

module _ (entries total : ℕ) where
  pub judged-crowded : (crowd : ℕ) → (crowd ≡ 0 → ⊥) → judged crowd entries total ≡ breaks crowded
  unfolding judged
  judged-crowded crowd f = rw (ne_eqb crowd 0 f)

  module _ (crowd : ℕ) (fair : crowd ≡ 0) where
    pub judged-fine : entries ≤ max_entries → total ≤ max_intervals → judged crowd entries total ≡ fine
    unfolding judged
    judged-fine h k = rw (fair, le-leb _ _ h, le-leb _ _ k)

    pub judged-entries : max_entries < entries → judged crowd entries total ≡ breaks full
    unfolding judged
    judged-entries h = rw (fair, lt-leb _ _ h)

    pub judged-intervals : max_intervals < total → judged crowd entries total ≡ breaks full
    unfolding judged
    judged-intervals h = rw (fair, lt-leb _ _ h, and-false (leb entries max_entries))

-- these are the counts of a set
pub limits-judged : (s : List Entry) (crowd entries total : ℕ) → crowd ≡ crowds s → entries ≡ length s → total ≡ intervals s
    → judged crowd entries total ≡ limits s
unfolding limits
limits-judged s crowd entries total c e t = rw (c, e, t)

-- ---- within the limits, or not

module _ (s : List Entry) where
  abbrev few : Bool
  few = leb (length s) max_entries && leb (intervals s) max_intervals

  -- each way they come out; what they refuse with is a refusal for full
  pub limits-cases : {P : Type 0} → (limits s ≡ fine → P) → ((r : Refusal) → limits s ≡ breaks r → is_full r ≡ true → P) → P
  unfolding limits judged is_full
  limits-cases good bad = split (eqb (crowds s) 0)
      (λ f. split few (λ t. good (rw (f, t))) (λ t. bad full (rw (f, t)) refl))
      (λ f. bad crowded (rw f) refl)

  pub limits-fair : limits s ≡ fine → crowds s ≡ 0
  unfolding limits judged
  limits-fair h = split (eqb (crowds s) 0) (λ f. eqb-true (crowds s) 0 f) (λ f. clash (ap is_fine h) (rw f))

  pub limits-says : limits s ≡ fine → (length s ≤ max_entries) × (intervals s ≤ max_intervals)
  unfolding limits judged
  limits-says h = split few
      (λ t. let (a, b) = and-true (leb (length s) max_entries) (leb (intervals s) max_intervals) t in (leb-true _ _ a, leb-true _ _ b))
      (λ t. clash (ap is_fine h) (rw (limits-fair h, t)))

  -- 17 if some entry has too many
  pub limits-crowded : (crowds s ≡ 0 → ⊥) → limits s ≡ breaks crowded
  unfolding limits
  limits-crowded f = judged-crowded (length s) (intervals s) (crowds s) f

  module _ (fair : crowds s ≡ 0) where
    pub limits-from : length s ≤ max_entries → intervals s ≤ max_intervals → limits s ≡ fine
    unfolding limits
    limits-from h k = judged-fine (length s) (intervals s) (crowds s) fair h k

    pub too-many-entries : max_entries < length s → limits s ≡ breaks full
    unfolding limits
    too-many-entries h = judged-entries (length s) (intervals s) (crowds s) fair h

    pub too-many-intervals : max_intervals < intervals s → limits s ≡ breaks full
    unfolding limits
    too-many-intervals h = judged-intervals (length s) (intervals s) (crowds s) fair h
