-- Entries at a place of a set's bytes.
use Rattle.std.specs.Prelude.{ℕ, zero, suc, ◌+◌, ◌*◌, ◌/◌, ◌≤◌, Bool, true, false, List, [], ◌∷◌, ◌++◌, length, get_or, leb, Option, Some, None}
use Rattle.misc.specs.Pick.{pick}
use Rattle.misc.specs.Parse.{part}
use Rattle.misc.specs.Le.{number_at}
use Rattle.packets.specs.Key.{Key}
use Rattle.previous_gtids_event.specs.Entry.{Entry, entry}
use Rattle.set_intervals.specs.Intervals.{intervals_at}
use Rattle.set_check.specs.declared.EntryPlace.{EntryPlace}

-- ---- an entry

-- the entry whose tag is in so many bytes from a place on
abbrev pub place_from : List ℕ → ℕ → ℕ → EntryPlace
place_from bs at len =
    record {
      tag_at = at;
      tag_len = len;
      count = number_at bs (at + len);
      first = at + len + 8;
      next = at + len + 8 + 16 * number_at bs (at + len);
    }

-- the entry at a place; a tag's length is one byte, twice the length
abbrev pub place_at : Bool → List ℕ → ℕ → EntryPlace
place_at true bs at = place_from bs (at + 17) (get_or bs (at + 16) 0 / 2)
place_at false bs at = place_from bs (at + 16) 0

abbrev pub nowhere : EntryPlace
nowhere = record { tag_at = 0; tag_len = 0; count = 0; first = 0; next = 0 }

-- if all of it is there
abbrev pub if_there : List ℕ → EntryPlace → Option EntryPlace
if_there bs p = pick (leb p.next (length bs)) (Some p) None

-- all of it there, or all zero
abbrev pub or_nowhere : List ℕ → EntryPlace → EntryPlace
or_nowhere bs p = pick (leb p.next (length bs)) p nowhere

abbrev pub place_in : Bool → List ℕ → ℕ → EntryPlace
place_in w bs at = or_nowhere bs (place_at w bs at)

-- ---- entries one after another

-- the key of the entry at a place
abbrev pub key_there : Bool → List ℕ → ℕ → Key
key_there w bs at = part bs at 16 ++ part bs (place_at w bs at).tag_at (place_at w bs at).tag_len

-- n entries from a place on
abbrev pub entries_at : ℕ → Bool → List ℕ → ℕ → List Entry
entries_at zero w bs at = []
entries_at (suc n) w bs at =
    entry (key_there w bs at) (intervals_at (place_at w bs at).count bs (place_at w bs at).first) ∷ entries_at n w bs (place_at w bs at).next

-- they are all there
abbrev pub EntriesIn : ℕ → Bool → List ℕ → ℕ → Type 0
EntriesIn zero w bs at = Unit {0}
EntriesIn (suc n) w bs at = ((place_at w bs at).next ≤ length bs) × EntriesIn n w bs (place_at w bs at).next
