-- Where a new interval goes: how many stand before it, how many it takes up, and from where to where it then reaches.
use Rattle.std.specs.Prelude.{ℕ, suc, min, max, List, [], ◌∷◌, ltb}
use Rattle.misc.specs.Pick.{pick}
use Rattle.packets.specs.Gno.{Interval, interval}
use Rattle.packets.specs.Key.{Key, order}
use Rattle.previous_gtids_event.specs.Entry.{Entry, entry}
use Rattle.gtid_sets.specs.Set.{is_lt}

-- how many first intervals end before a
abbrev pub earlier : ℕ → List Interval → ℕ
earlier a [] = 0
earlier a (interval start end ∷ is) = pick (ltb end a) (suc (earlier a is)) 0

-- how many first intervals one that ends at b takes up, where that end moves with each
abbrev pub taken_up : ℕ → List Interval → ℕ
taken_up b [] = 0
taken_up b (interval start end ∷ is) = pick (ltb b start) 0 (suc (taken_up (max b end) is))

-- the end that it comes to
abbrev pub reach : ℕ → List Interval → ℕ
reach b [] = b
reach b (interval start end ∷ is) = pick (ltb b start) b (reach (max b end) is)

-- the start that it comes to: only the first that it takes up can begin earlier
abbrev pub from : ℕ → ℕ → List Interval → ℕ
from a b [] = a
from a b (interval start end ∷ is) = pick (ltb b start) a (min a start)

-- how many first entries have a key before k
abbrev pub entries_before : Key → List Entry → ℕ
entries_before k [] = 0
entries_before k (entry j is ∷ s) = pick (is_lt (order j k)) (suc (entries_before k s)) 0
