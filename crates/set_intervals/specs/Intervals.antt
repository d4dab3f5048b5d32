-- The intervals that some bytes are.
use Rattle.std.specs.Prelude.{ℕ, zero, suc, ◌+◌, ◌-◌, ◌*◌, ◌/◌, Bool, false, List, [], ◌∷◌, ◌++◌, length, map, take, drop}
use Rattle.misc.specs.Le.{le_bytes, number_at}
use Rattle.packets.specs.Gno.{Interval, interval}
use Rattle.gtid_sets.specs.Interval.{within}
use Rattle.gtid_sets.specs.Splice.{earlier, taken_up, reach, from}
use Rattle.set_intervals.specs.declared.Splice.{Splice}
use Rattle.set_intervals.specs.declared.Reach.{Reach}

-- n intervals from a place on
abbrev pub intervals_at : ℕ → List ℕ → ℕ → List Interval
intervals_at zero bs at = []
intervals_at (suc n) bs at = interval (number_at bs at) (number_at bs (at + 8)) ∷ intervals_at n bs (at + 16)

-- all from a place on, sixteen bytes to each
unfoldable pub intervals_from : List ℕ → ℕ → List Interval
intervals_from bs at = intervals_at ((length bs - at) / 16) bs at

-- all
abbrev pub intervals_in : List ℕ → List Interval
intervals_in bs = intervals_from bs 0

-- whether the first holds n
abbrev pub first_holds : ℕ → List Interval → Bool
first_holds n [] = false
first_holds n (interval start end ∷ is) = within start end n

-- whether the first that doesn't end before n holds it
abbrev pub held_in : ℕ → List Interval → Bool
held_in n is = first_holds n (drop (earlier n is) is)

-- how the interval from a up to b goes into others
abbrev pub splice_of : ℕ → ℕ → List Interval → Splice
splice_of a b is =
    record {
      before = earlier a is;
      taken = taken_up b (drop (earlier a is) is);
      start = from a b (drop (earlier a is) is);
      end = reach b (drop (earlier a is) is);
    }

-- the intervals with one in the place of those that it takes up, as bytes
abbrev pub spliced_run : List ℕ → Splice → List ℕ
spliced_run bs s = take (16 * s.before) bs ++ le_bytes 8 s.start ++ le_bytes 8 s.end ++ drop (16 * (s.before + s.taken)) bs

-- ---- inside

-- the interval that sixteen bytes are, and those of many such chunks
abbrev pub interval_of : List ℕ → Interval
interval_of chunk = interval (number_at chunk 0) (number_at chunk 8)

abbrev pub told : List (List ℕ) → List Interval
told chunks = map interval_of chunks

abbrev pub reach_of : ℕ → List Interval → Reach
reach_of b is = record { taken = taken_up b is; end = reach b is }
