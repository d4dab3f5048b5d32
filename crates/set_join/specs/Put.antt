-- The runs of bytes that a set after a joining is made of.
use Rattle.std.specs.Prelude.{ℕ, zero, suc, ◌+◌, ◌-◌, ◌≤◌, Bool, true, false, List, [], ◌++◌, length}
use Rattle.misc.specs.Parse.{part}
use Rattle.misc.specs.Varlen.{varlen_bytes}
use Rattle.set_check.specs.Places.{place_at, EntriesIn}
use Rattle.set_join.specs.declared.Run.{Run}

-- an untagged entry from a place to another, with the length of a tag that has no bytes
abbrev pub wider_run : List ℕ → ℕ → ℕ → List ℕ
wider_run bs at next = part bs at 16 ++ varlen_bytes 0 ++ part bs (at + 16) (next - (at + 16))

-- n such entries from a place on
unfoldable pub widened : ℕ → List ℕ → ℕ → List ℕ
widened zero bs at = []
widened (suc n) bs at = wider_run bs at (place_at false bs at).next ++ widened n bs (place_at false bs at).next

-- entries as they are or widened
abbrev pub entries_run : Bool → List ℕ → Run → List ℕ
entries_run true bs r = widened r.count bs r.from
entries_run false bs r = part bs r.from (r.to - r.from)

-- they lie inside
abbrev pub EntriesThere : Bool → List ℕ → Run → Type 0
EntriesThere true bs r = EntriesIn r.count false bs r.from
EntriesThere false bs r = (r.from ≤ r.to) × (r.to ≤ length bs)
