-- Why a reader has stopped: the number of a refusal, from 1 on. It is open, and not the table of misc: the 48 bytes of a reader may come back from C
-- with any number, which every later step repeats.
use Rattle.std.specs.Prelude.{ℕ, ◌+◌, ◌-◌}
use Rattle.misc.specs.declared.refusal.Refusal.{Refusal}
use Rattle.misc.specs.Refusal.{number}

pub data Stop : Type 0 where
  stop : ℕ → Stop

-- its number, never 0
abbrev pub stop_number : Stop → ℕ
stop_number (stop n) = n + 1

-- the one that has this number, from 1 on
abbrev pub numbered : ℕ → Stop
numbered n = stop (n - 1)

-- that of a refusal of the table, and that of room that is too short, with the length that is needed beside it
abbrev pub stop_for : Refusal → Stop
stop_for r = numbered (number r)

abbrev pub no_room : Stop
no_room = numbered 13
