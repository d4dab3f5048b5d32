-- The set limits, judged in one place.
use Rattle.std.specs.Prelude.{ℕ, ◌+◌, ◌*◌, ◌<◌, ◌≡◌, ⊤, Bool, true, false, ◌&&◌, ◌||◌, List, [], ◌∷◌, ◌++◌, length, leb, eqb, Result, Ok, Err}
use Rattle.misc.specs.Pick.{pick}
use Rattle.misc.specs.declared.refusal.Refusal.{Refusal}
use Rattle.misc.specs.Refusal.{number, full, crowded}
use Rattle.packets.specs.Gno.{Interval}
use Rattle.packets.specs.Key.{Key}
use Rattle.previous_gtids_event.specs.Entry.{Entry, entry}

-- a set has so many entries at most
unfoldable pub max_entries : ℕ
max_entries = 384

-- so many intervals, all entries together
unfoldable pub max_intervals : ℕ
max_intervals = 2560

-- and so many in any one entry
unfoldable pub max_of_entry : ℕ
max_of_entry = 1024

-- a number for each entry, by how many intervals it has, added up
abbrev pub summed : (ℕ → ℕ) → List Entry → ℕ
summed f [] = 0
summed f (entry k is ∷ s) = f (length is) + summed f s

-- how many intervals there are
abbrev pub intervals : List Entry → ℕ
intervals s = summed (λ n. n) s

-- 1 for more intervals than one entry may have
abbrev pub over : ℕ → ℕ
over n = pick (leb n max_of_entry) 0 1

-- how many entries have more
abbrev pub crowds : List Entry → ℕ
crowds s = summed over s

-- nothing against it, or the refusal
pub data Judged : Type 0 where
  fine : Judged
  breaks : Refusal → Judged

abbrev pub is_fine : Judged → Bool
is_fine fine = true
is_fine (breaks r) = false

-- the same as an answer
abbrev pub judged_as : Judged → Result ⊤ Refusal
judged_as fine = Ok tt
judged_as (breaks r) = Err r

-- what the limits say of a set, by how many of its entries have too many intervals, and how many entries and intervals it has: each entry
-- first, then all together
unfoldable pub judged : ℕ → ℕ → ℕ → Judged
judged crowd entries total =
    pick (eqb crowd 0)
    (pick (leb entries max_entries && leb total max_intervals) fine (breaks full))
    (breaks crowded)

-- this is judged where a set is lent, and where one is a result
unfoldable pub limits : List Entry → Judged
limits s = judged (crowds s) (length s) (intervals s)

-- whether a refusal is one for the set limits
unfoldable pub is_full : Refusal → Bool
is_full r = eqb (number r) (number full) || eqb (number r) (number crowded)

-- the bytes of the longest set: 8 for the header; for each entry 16 for the uuid, 1 for the tag's length, 32 for the tag and 8 for the
-- count; and 16 for each interval
unfoldable pub longest_set : ℕ
longest_set = 8 + max_entries * (16 + 1 + 32 + 8) + max_intervals * 16

-- ---- the same as a relation: `entry-over` and `over-entry` of proofs/LimitLaws.antt say that `crowds` is 0 just if it holds of no entry

-- an entry has more than n intervals
pub record EntryOver (n : ℕ) (s : List Entry) : Type 0 where
  pub front : List Entry
  pub key : Key
  pub is : List Interval
  pub back : List Entry
  pub stands : s ≡ front ++ (entry key is ∷ back)
  pub many : n < length is
