-- How many ids a set has.
use Rattle.std.specs.Prelude.{ℕ, ◌+◌, ◌-◌, ◌≡◌, Bool, false, ◌&&◌, ◌||◌, List, [], ◌∷◌, eqb}
use Rattle.packets.specs.Gno.{Interval, interval}
use Rattle.packets.specs.Key.{Key, same}
use Rattle.previous_gtids_event.specs.Entry.{Entry, entry}
use Rattle.gtid_sets.specs.Set.{has}

-- the lengths of intervals, each from its start up to, and without, its end, added up
abbrev pub size : List Interval → ℕ
size [] = 0
size (interval start end ∷ is) = (end - start) + size is

-- those of all entries
abbrev pub total : List Entry → ℕ
total [] = 0
total (entry k is ∷ s) = size is + total s

-- ---- that it counts members, each once: `total-counts` and `total-named` of proofs/TotalLaws.antt say that it is the length of any list that
-- has each member of a set once and nothing else, and that there is one

pub data Id : Type 0 where
  id : Key → ℕ → Id

-- whether the id (k, n) is on a list
abbrev pub listed : List Id → Key → ℕ → Bool
listed [] k n = false
listed (id j m ∷ ids) k n = (same k j && eqb n m) || listed ids k n

-- no id is on it twice
abbrev pub Once : List Id → Type 0
Once [] = Unit {0}
Once (id k n ∷ ids) = (listed ids k n ≡ false) × Once ids

-- it has each member of a set once, and nothing else
pub record MembersOnce (s : List Entry) (ids : List Id) : Type 0 where
  pub once : Once ids
  pub members : (k : Key) (n : ℕ) → listed ids k n ≡ has s k n
