-- The walk through one chunk: up to the first place where the reader waits for its caller, or to the chunk's end.
use Rattle.std.specs.Prelude.{ℕ, ◌+◌, Bool, true, false, List, [], ◌∷◌}
use Rattle.misc.specs.Pick.{pick}
use Rattle.binlog.specs.Place.{Place, opening, heading, inside, passing, whole, ended, stopped, next}

-- an event is whole, or the reader has stopped
abbrev pub waits : Place → Bool
waits (opening n) = false
waits (heading came) = false
waits (inside type n came) = false
waits (passing n) = false
waits (whole type body) = true
waits ended = false
waits (stopped r n) = true

abbrev pub is_whole : Place → Bool
is_whole (opening n) = false
is_whole (heading came) = false
is_whole (inside type n came) = false
is_whole (passing n) = false
is_whole (whole type body) = true
is_whole ended = false
is_whole (stopped r n) = false

-- the place that was reached, and how many bytes of the chunk were used
pub data Walk : Type 0 where
  reached : Place → ℕ → Walk

-- from a place on, where so many bytes were used already
abbrev pub walked : ℕ → Place → ℕ → List ℕ → Walk
walked t p used [] = reached p used
walked t p used (b ∷ bs) = pick (waits p) (reached p used) (walked t (next t p b) (used + 1) bs)
