-- The gno rule, and that of intervals of gnos: both have the one top.
use Rattle.std.specs.Prelude.{ℕ, ◌-◌, ◌^◌, Bool, ◌&&◌, leb, ltb}

-- the first number that is too great for a gno; an interval ends there at the latest
unfoldable pub gno_top : ℕ
gno_top = 2 ^ 63 - 1

-- a member's number lies from 1 up to, and without, the top
abbrev pub is_gno : ℕ → Bool
is_gno n = leb 1 n && ltb n gno_top

-- the numbers from the first up to, and without, the second
pub data Interval : Type 0 where
  interval : ℕ → ℕ → Interval

-- an interval holds a number, and only numbers that may be a gno
abbrev pub is_interval : Interval → Bool
is_interval (interval start end) = leb 1 start && ltb start end && leb end gno_top
