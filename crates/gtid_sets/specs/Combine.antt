-- Two sets, and the ids that are in either, in both, or in the first without the second: one sweep over both serves any operation `op` that says of
-- an id whether it is kept, by whether it is in the first set and whether it is in the second. Which ids are kept is `combined-has` of
-- proofs/CombineLaws.antt, and that a set with these members is no other `is-combined`.
use Prim.Native.Nat.{Ordering}
use Prim.Native.Nat.{ℕ, compare, ◌≤◌, ◌<◌}
use Rattle.std.specs.Prelude.{Bool, true, false, not, ◌&&◌, ◌||◌, List, [], ◌∷◌}
use Rattle.packets.specs.Gno.{gno_top, Interval, interval}
use Rattle.packets.specs.Key.{Key, order}
use Rattle.previous_gtids_event.specs.Entry.{Entry, entry}

-- ---- the operations

abbrev pub either : Bool → Bool → Bool
either x y = x || y

abbrev pub both : Bool → Bool → Bool
both x y = x && y

abbrev pub without : Bool → Bool → Bool
without x y = x && not y

-- ---- marks: the numbers at which membership turns over

-- the starts and ends of intervals, as they stand
abbrev pub marks : List Interval → List ℕ
marks [] = []
marks (interval start end ∷ is) = start ∷ end ∷ marks is

-- and back
abbrev pub spans : List ℕ → List Interval
spans [] = []
spans (m ∷ []) = []
spans (m ∷ n ∷ ms) = interval m n ∷ spans ms

-- whether the numbers before the first of some marks are in: those behind the last aren't, and each mark turns that over
abbrev pub is_open : List ℕ → Bool
is_open [] = false
is_open (m ∷ ms) = not (is_open ms)

-- a mark in front, if what holds before it and what holds behind it differ
abbrev pub mark : Bool → Bool → ℕ → List ℕ → List ℕ
mark true true m ms = ms
mark true false m ms = m ∷ ms
mark false true m ms = m ∷ ms
mark false false m ms = ms

-- whether the numbers before the first of two lists of marks are kept
abbrev pub keeps : (Bool → Bool → Bool) → List ℕ → List ℕ → Bool
keeps op a b = op (is_open a) (is_open b)

-- the marks of the numbers that are kept
abbrev pub sweep : (Bool → Bool → Bool) → List ℕ → List ℕ → List ℕ
sweep op [] [] = []
sweep op (m ∷ a) [] = mark (keeps op (m ∷ a) []) (keeps op a []) m (sweep op a [])
sweep op [] (n ∷ b) = mark (keeps op [] (n ∷ b)) (keeps op [] b) n (sweep op [] b)
sweep op (m ∷ a) (n ∷ b) = elim (compare m n) [
  | Ordering.lt ↦ mark (keeps op (m ∷ a) (n ∷ b)) (keeps op a (n ∷ b)) m (sweep op a (n ∷ b))
  | Ordering.eq ↦ mark (keeps op (m ∷ a) (n ∷ b)) (keeps op a b) m (sweep op a b)
  | Ordering.gt ↦ mark (keeps op (m ∷ a) (n ∷ b)) (keeps op (m ∷ a) b) n (sweep op (m ∷ a) b)
]

-- the intervals of the numbers that are kept
abbrev pub swept : (Bool → Bool → Bool) → List Interval → List Interval → List Interval
swept op is js = spans (sweep op (marks is) (marks js))

-- ---- entries

-- an entry in front, unless it is empty
abbrev pub keep : Key → List Interval → List Entry → List Entry
keep k [] s = s
keep k (i ∷ is) s = entry k (i ∷ is) ∷ s

-- the set of the ids that are kept, key by key
abbrev pub combined : (Bool → Bool → Bool) → List Entry → List Entry → List Entry
combined op [] [] = []
combined op (entry k is ∷ s) [] = keep k (swept op is []) (combined op s [])
combined op [] (entry j js ∷ t) = keep j (swept op [] js) (combined op [] t)
combined op (entry k is ∷ s) (entry j js ∷ t) = elim (order k j) [
  | Ordering.lt ↦ keep k (swept op is []) (combined op s (entry j js ∷ t))
  | Ordering.eq ↦ keep k (swept op is js) (combined op s t)
  | Ordering.gt ↦ keep j (swept op [] js) (combined op (entry k is ∷ s) t)
]

-- whether all ids of the first are ids of the second: the first without the second is empty (`subset-says` and `subset-from` of
-- proofs/CombineLaws.antt)
abbrev pub is_empty : List Entry → Bool
is_empty [] = true
is_empty (e ∷ s) = false

abbrev pub subset : List Entry → List Entry → Bool
subset s t = is_empty (combined without s t)

-- ---- what the sweep needs

-- marks rise, above `low`, and none is behind the gno rule's top
abbrev pub Rising : ℕ → List ℕ → Type 0
Rising low [] = Unit {0}
Rising low (m ∷ ms) = (low < m) × (m ≤ gno_top) × Rising m ms
