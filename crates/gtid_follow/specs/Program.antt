-- The lines that the program writes, what holds while it walks, and the text of the set at last.
use Rattle.std.specs.Prelude.{ℕ, ◌≤◌, ◌<◌, ◌≡◌, Bool, true, false, List, [], ◌∷◌, ◌++◌, length, take, drop}
use Rattle.misc.specs.Output.{Placed}
use Rattle.previous_gtids_event.specs.Entry.{Entry}
use Rattle.gtid_sets.specs.Lent.{form, lent_set}
use Rattle.text.specs.Lines.{newline}
use Rattle.listing.specs.SetText.{set_text}
use Rattle.listing.specs.EventText.{gtid_word, previous_word, event_text}
use Rattle.binlog.specs.declared.Phase.{Phase}
use Rattle.binlog.specs.declared.Phase.TheVariants as phase
use Rattle.binlog_reader.specs.declared.Told.{Told}
use Rattle.binlog_reader.specs.declared.Told.TheVariants.{NoId, AlreadyThere, Taken, Joined}
use Rattle.binlog_reader.specs.declared.Said.{Said}
use Rattle.binlog_reader.specs.declared.Said.TheVariants.{MoreWanted, Ended, Event, Refused}
use Rattle.gtid_follow.specs.declared.Walk.{Walk}
use Rattle.gtid_follow.specs.declared.Turn.{Turn}
use Rattle.gtid_follow.specs.declared.Turn.TheVariants.{On, Over}
use Rattle.gtid_follow.specs.declared.lines.Lines.{Lines}

-- ---- lines

-- no line is longer
abbrev pub line_room : ℕ
line_room = 128

-- `taken `
abbrev pub taken_word : List ℕ
taken_word = 116 ∷ 97 ∷ 107 ∷ 101 ∷ 110 ∷ 32 ∷ []

-- `already there `
abbrev pub already_word : List ℕ
already_word = 97 ∷ 108 ∷ 114 ∷ 101 ∷ 97 ∷ 100 ∷ 121 ∷ 32 ∷ 116 ∷ 104 ∷ 101 ∷ 114 ∷ 101 ∷ 32 ∷ []

-- `no id`
abbrev pub no_id_word : List ℕ
no_id_word = 110 ∷ 111 ∷ 32 ∷ 105 ∷ 100 ∷ []

-- `joined`
abbrev pub joined_word : List ℕ
joined_word = 106 ∷ 111 ∷ 105 ∷ 110 ∷ 101 ∷ 100 ∷ []

-- an event's line in the listing, without `gtid `
unfoldable pub id_line : ℕ → List ℕ → List ℕ
id_line type body = drop (length gtid_word) (event_text type body)

-- the line of what an event was told
abbrev pub answer_line : Told → ℕ → List ℕ → List ℕ
answer_line NoId type body = no_id_word ++ (newline ∷ [])
answer_line AlreadyThere type body = already_word ++ id_line type body
answer_line Taken type body = taken_word ++ id_line type body
answer_line Joined type body = joined_word ++ (newline ∷ [])

-- an event that was told so has an id, and isn't of type 35
abbrev pub Names : Told → ℕ → Type 0
Names NoId type = Unit {0}
Names AlreadyThere type = type ≡ 35 → ⊥
Names Taken type = type ≡ 35 → ⊥
Names Joined type = Unit {0}

-- a line was put somewhere in a text, whole, and ends at a place
pub record Added (before line after : List ℕ) (end : ℕ) : Type 0 where
  pub start : ℕ
  pub placed : Placed before start line after end
  pub within : end ≤ length before

-- once a line could not be written, none is any more
abbrev pub StaysUnheard : Lines → Lines → Type 0
StaysUnheard before after = before.heard ≡ false → after.heard ≡ false

-- what the reader said of an event fits: its body stands in work bytes of so many
abbrev pub StandsIn : ℕ → Said → Type 0
StandsIn work MoreWanted = Unit {0}
StandsIn work Ended = Unit {0}
StandsIn work (Event told type n) = Names told type × (n ≤ work)
StandsIn work (Refused r n) = Unit {0}

-- the lines before, with the text that they stand in, and behind it: one more for an event that was answered
abbrev pub Lined : Said → List ℕ → Lines → List ℕ → Lines → List ℕ → Type 0
Lined MoreWanted work lines text lines' text' = (lines' ≡ lines) × (text' ≡ text)
Lined Ended work lines text lines' text' = (lines' ≡ lines) × (text' ≡ text)
Lined (Event told type n) work lines text lines' text' =
    Added text (answer_line told type (take n work)) text' lines'.waiting × StaysUnheard lines lines'
Lined (Refused r n) work lines text lines' text' = (lines' ≡ lines) × (text' ≡ text)

-- ---- the walk

abbrev pub goes_on : Said → Bool
goes_on MoreWanted = true
goes_on Ended = false
goes_on (Event told type n) = true
goes_on (Refused r n) = false

abbrev pub is_event : Phase → Bool
is_event (phase.Opening n) = false
is_event (phase.Header have) = false
is_event (phase.Body type left have) = false
is_event (phase.Skip left) = false
is_event (phase.Whole type have) = true
is_event phase.Ended = false
is_event (phase.Stopped r n) = false

-- a turn, whether the walk goes on or not
abbrev pub walk_in : Turn → Walk
walk_in (On walk) = walk
walk_in (Over walk) = walk

-- what a turn used of a chunk of so many bytes, of which so many were used before: something, where the walk goes on
abbrev pub UsesMore : ℕ → ℕ → Turn → Type 0
UsesMore from chunk (On walk) = (walk.used ≤ chunk) × (from < walk.used)
UsesMore from chunk (Over walk) = walk.used ≤ chunk

-- all of the chunk, where it goes on
abbrev pub UsesAll : ℕ → Turn → Type 0
UsesAll chunk (On walk) = walk.used ≡ chunk
UsesAll chunk (Over walk) = Unit {0}

-- with a buffer for the set and a text of so many bytes: both hold what is in them, and no event waits for its answer
pub record Fits (set text : ℕ) (walk : Walk) : Type 0 where
  pub kept : walk.reader.len ≤ set
  pub lines : walk.lines.waiting ≤ text
  pub answered : is_event walk.reader.phase ≡ false

-- ---- the set's text

-- the first bytes of a text are the whole text of a set
pub record Listed (set : List ℕ) (len : ℕ) (text : List ℕ) : Type 0 where
  pub fits : len ≤ length text
  pub whole : (s : List Entry) → lent_set set ≡ form s → take len text ≡ set_text previous_word s
