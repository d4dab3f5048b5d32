-- What functions inside promise of parts of a set.
use Rattle.std.specs.Prelude.{ℕ, ◌+◌, ◌*◌, ◌^◌, ◌≤◌, List, [], ◌∷◌, ◌++◌, length}
use Rattle.misc.specs.Parse.{part}
use Rattle.packets.specs.Gno.{Interval}
use Rattle.previous_gtids_event.specs.Entry.{Entry, entry}
use Rattle.set_intervals.specs.Intervals.{intervals_at}
use Rattle.set_check.specs.declared.EntryPlace.{EntryPlace}
use Rattle.text.specs.Digits.{decimal}
use Rattle.text.specs.Keys.{tag_text}
use Rattle.text.specs.Lines.{newline}
use Rattle.listing.specs.SetText.{intervals_text, entries_word, intervals_word}

-- the parts of an entry lie inside the set, and its tag is no longer than tags are
pub record EntryThere (set : List ℕ) (e : EntryPlace) : Type 0 where
  pub small : length set ≤ 2 ^ 40
  pub tag : e.tag_at + e.tag_len ≤ length set
  pub short : e.tag_len ≤ 32
  pub inside : e.first + 16 * e.count ≤ length set

abbrev pub tag_in : List ℕ → EntryPlace → List ℕ
tag_in set e = part set e.tag_at e.tag_len

abbrev pub intervals_there : List ℕ → EntryPlace → List Interval
intervals_there set e = intervals_at e.count set e.first

-- the entry whose uuid stands at a place, and the others of its parts where they are found
abbrev pub entry_in : List ℕ → ℕ → EntryPlace → Entry
entry_in set at e = entry (part set at 16 ++ tag_in set e) (intervals_there set e)

-- how long its line is: 36 bytes for the uuid and one for the newline
abbrev pub line_length : List ℕ → EntryPlace → ℕ
line_length set e = 36 + length (tag_text (tag_in set e)) + length (intervals_text (intervals_there set e)) + 1

-- the line of counts
abbrev pub head_text : List ℕ → ℕ → ℕ → List ℕ
head_text word entries total = word ++ entries_word ++ decimal entries ++ intervals_word ++ decimal total ++ (newline ∷ [])
