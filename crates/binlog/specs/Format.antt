-- The binlog file: four opening bytes, then events. An event is a header of 19 bytes, a body and, where the caller says so, a trailer of 4.
use Rattle.std.specs.Prelude.{ℕ, Bool, true, false, ◌||◌, List, [], ◌∷◌, get_or, eqb}
use Rattle.misc.specs.Parse.{part}
use Rattle.misc.specs.Le.{le_of}

unfoldable pub the_opening : List ℕ
the_opening = 0xFE ∷ 0x62 ∷ 0x69 ∷ 0x6E ∷ []

-- how many bytes end each event, if there are checksums
abbrev pub trailer : Bool → ℕ
trailer true = 4
trailer false = 0

-- a header's type, and the size of the whole event
unfoldable pub type_in : List ℕ → ℕ
type_in header = get_or header 4 0

unfoldable pub size_in : List ℕ → ℕ
size_in header = le_of (part header 9 4)

-- the types that are read; any other is skipped
unfoldable pub is_read : ℕ → Bool
is_read type = (eqb type 33 || eqb type 34) || (eqb type 35 || eqb type 42)
