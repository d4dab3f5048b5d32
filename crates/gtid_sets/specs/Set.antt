-- A set of transaction ids, an id being a key and a gno: its members, its one written form, and how it grows.
use Prim.Native.Nat.{ℕ, ◌+◌, Ordering}
use Rattle.std.specs.Prelude.{Bool, true, false, ◌&&◌, ◌||◌, List, [], ◌∷◌}
use Rattle.misc.specs.Pick.{pick}
use Rattle.packets.specs.Gno.{Interval, interval}
use Rattle.packets.specs.Key.{Key, order, same, ◌≺◌}
use Rattle.previous_gtids_event.specs.Entry.{Entry, entry}
use Rattle.gtid_sets.specs.Interval.{covers, Gapped, gapped, Some, some, insert}

-- whether the id (k, n) is a member; the entries may stand in any order, repeat keys, overlap or be empty
abbrev pub has : List Entry → Key → ℕ → Bool
has [] k n = false
has (entry j is ∷ s) k n = (same k j && covers is n) || has s k n

-- the intervals of a key, those of its first entry; none where it has no entry
abbrev pub of_key : Key → List Entry → List Interval
of_key k [] = []
of_key k (entry j is ∷ s) = pick (same k j) is (of_key k s)

-- ---- set form

-- the first entry, if there is one, has a key after k
abbrev pub Above : Key → List Entry → Type 0
Above k [] = Unit {0}
Above k (entry j is ∷ s) = k ≺ j

-- set form: keys strictly rising, each with at least one interval, and the intervals in their written form
abbrev pub SetForm : List Entry → Type 0
SetForm [] = Unit {0}
SetForm (entry k is ∷ s) = Some is × Gapped 0 is × Above k s × SetForm s

-- ---- the same as a test: `form-holds` and `form-tests` of proofs/FormLaws.antt say that it is right

-- whether an order finds the first key before the second
abbrev pub is_lt : Ordering → Bool
is_lt Ordering.lt = true
is_lt Ordering.eq = false
is_lt Ordering.gt = false

abbrev pub above : Key → List Entry → Bool
above k [] = true
above k (entry j is ∷ s) = is_lt (order k j)

abbrev pub in_set_form : List Entry → Bool
in_set_form [] = true
in_set_form (entry k is ∷ s) = some is && (gapped 0 is && (above k s && in_set_form s))

-- ---- growing

-- the set with the ids (k, a) up to, and without, (k, b) too
abbrev pub join : Key → ℕ → ℕ → List Entry → List Entry
join k a b [] = entry k (interval a b ∷ []) ∷ []
join k a b (entry j is ∷ s) = elim (order k j) [
  | Ordering.lt ↦ entry k (interval a b ∷ []) ∷ entry j is ∷ s
  | Ordering.eq ↦ entry j (insert a b is) ∷ s
  | Ordering.gt ↦ entry j is ∷ join k a b s
]

-- the set with the id (k, n) too
abbrev pub add : Key → ℕ → List Entry → List Entry
add k n s = join k n (n + 1) s
