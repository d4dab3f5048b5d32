-- What is seen of a GTID event, beside how much of its bytes is used.
use Rattle.std.specs.Prelude.{ℕ, ◌+◌, ◌*◌, Bool, false, List, [], ◌∷◌, replicate}
use Rattle.misc.specs.Pick.{pick}
use Rattle.gtid_event.specs.declared.GtidEvent.{GtidEvent}

-- the record, and which of the twelve fields of a tagged event were there, by their ids from 0 on
pub record Seen : Type 0 where
  pub event : GtidEvent
  pub present : List Bool

-- an untagged event has none of them
abbrev pub untagged_seen : GtidEvent → Seen
untagged_seen e = record { event = e; present = replicate 12 false }

-- which were there as one number: bit k tells of the field with the id k
unfoldable pub bits_of : List Bool → ℕ
bits_of [] = 0
bits_of (there ∷ more) = pick there 1 0 + 2 * bits_of more
