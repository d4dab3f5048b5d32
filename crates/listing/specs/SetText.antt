-- The text of entries and sets: one entry a line, its uuid, its tag if there is one and its intervals joined by colons.
use Rattle.std.specs.Prelude.{ℕ, List, [], ◌∷◌, ◌++◌, length}
use Rattle.misc.specs.Refusal.{not_a_set}
use Rattle.misc.specs.Output.{Output, refused, bytes}
use Rattle.packets.specs.Gno.{Interval, interval}
use Rattle.previous_gtids_event.specs.Entry.{Entry, entry, uuid_of, tag_of}
use Rattle.gtid_sets.specs.Limits.{intervals}
use Rattle.gtid_sets.specs.Lent.{Lent, form, unfit}
use Rattle.text.specs.Digits.{decimal}
use Rattle.text.specs.Keys.{key_text}
use Rattle.text.specs.Intervals.{interval_text}
use Rattle.text.specs.Lines.{newline}

unfoldable pub intervals_text : List Interval → List ℕ
intervals_text [] = []
intervals_text (interval start end ∷ is) = interval_text start end ++ intervals_text is

unfoldable pub entry_text : Entry → List ℕ
entry_text (entry k is) = key_text (uuid_of k) (tag_of k) ++ intervals_text is ++ (newline ∷ [])

unfoldable pub entries_text : List Entry → List ℕ
entries_text [] = []
entries_text (e ∷ es) = entry_text e ++ entries_text es

-- ` entries `
abbrev pub entries_word : List ℕ
entries_word = 32 ∷ 101 ∷ 110 ∷ 116 ∷ 114 ∷ 105 ∷ 101 ∷ 115 ∷ 32 ∷ []

-- ` intervals `
abbrev pub intervals_word : List ℕ
intervals_word = 32 ∷ 105 ∷ 110 ∷ 116 ∷ 101 ∷ 114 ∷ 118 ∷ 97 ∷ 108 ∷ 115 ∷ 32 ∷ []

-- a line of the set's counts after a first word, and then its entries
unfoldable pub set_text : List ℕ → List Entry → List ℕ
set_text word s = word ++ entries_word ++ decimal (length s) ++ intervals_word ++ decimal (intervals s) ++ (newline ∷ []) ++ entries_text s

-- what listing some bytes gives that are a set, or aren't
abbrev pub listed_set : List ℕ → Lent → Output
listed_set word unfit = refused not_a_set
listed_set word (form s) = bytes (set_text word s)
