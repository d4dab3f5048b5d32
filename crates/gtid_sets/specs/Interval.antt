-- Intervals of gnos: which numbers they hold, their one written form, and how one more is joined to them.
use Rattle.std.specs.Prelude.{ℕ, ◌<◌, ◌≤◌, min, max, Bool, true, false, ◌&&◌, ◌||◌, List, [], ◌∷◌, ltb, leb}
use Rattle.packets.specs.Gno.{gno_top, Interval, interval, is_interval}

-- whether the interval from start up to, and without, end holds n
abbrev pub within : ℕ → ℕ → ℕ → Bool
within start end n = leb start n && ltb n end

-- whether some interval of the list holds n
abbrev pub covers : List Interval → ℕ → Bool
covers [] n = false
covers (interval start end ∷ is) n = within start end n || covers is n

-- the written form: each obeys the gno rule and begins above `low`, which is 0 for the first, and for any other the end before it;
-- so they rise, with a gap between neighbours
abbrev pub Gapped : ℕ → List Interval → Type 0
Gapped low [] = Unit {0}
Gapped low (interval start end ∷ is) = (low < start) × (start < end) × (end ≤ gno_top) × Gapped end is

-- the same as a test (`gapped-holds` and `gapped-tests` of proofs/FormLaws.antt)
abbrev pub gapped : ℕ → List Interval → Bool
gapped low [] = true
gapped low (interval start end ∷ is) = ltb low start && (is_interval (interval start end) && gapped end is)

-- there is an interval
abbrev pub Some : List Interval → Type 0
Some [] = ⊥
Some (i ∷ is) = Unit {0}

abbrev pub some : List Interval → Bool
some [] = false
some (i ∷ is) = true

-- the intervals and one more, from a up to b, made one with those that it meets or touches
abbrev pub insert : ℕ → ℕ → List Interval → List Interval
insert a b [] = interval a b ∷ []
insert a b (interval start end ∷ is) = elim (ltb b start) [
  | true ↦ interval a b ∷ interval start end ∷ is
  | false ↦ elim (ltb end a) [
    | true ↦ interval start end ∷ insert a b is
    | false ↦ insert (min a start) (max b end) is
  ]
]
