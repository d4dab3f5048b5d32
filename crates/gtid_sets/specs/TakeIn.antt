-- Taking in the entries of a body, as they come: repeated, overlapping, unordered or empty entries are merged.
use Rattle.std.specs.Prelude.{◌<◌, ◌≤◌, Bool, true, ◌&&◌, List, [], ◌∷◌}
use Rattle.packets.specs.Gno.{gno_top, Interval, interval, is_interval}
use Rattle.packets.specs.Key.{Key}
use Rattle.previous_gtids_event.specs.Entry.{Entry, entry}
use Rattle.gtid_sets.specs.Set.{join}

-- every interval obeys the gno rule
abbrev pub Proper : List Interval → Type 0
Proper [] = Unit {0}
Proper (interval start end ∷ is) = (0 < start) × (start < end) × (end ≤ gno_top) × Proper is

abbrev pub Lawful : List Entry → Type 0
Lawful [] = Unit {0}
Lawful (entry k is ∷ r) = Proper is × Lawful r

-- the same as a test (`lawful-holds` and `lawful-tests` of proofs/FormLaws.antt)
abbrev pub proper : List Interval → Bool
proper [] = true
proper (i ∷ is) = is_interval i && proper is

abbrev pub lawful : List Entry → Bool
lawful [] = true
lawful (entry k is ∷ r) = proper is && lawful r

-- the set with an entry's ids too, interval after interval
abbrev pub join_all : Key → List Interval → List Entry → List Entry
join_all k [] s = s
join_all k (interval start end ∷ is) s = join_all k is (join k start end s)

-- the set s with all ids of r too
abbrev pub union : List Entry → List Entry → List Entry
union [] s = s
union (entry k is ∷ r) s = union r (join_all k is s)

-- the set of all ids of r
abbrev pub taken_set : List Entry → List Entry
taken_set r = union r []
