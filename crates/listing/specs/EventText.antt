-- The text of an event, by its type, and of the listing program's whole input.
use Rattle.std.specs.Prelude.{ℕ, ◌+◌, ◌*◌, List, [], ◌∷◌, ◌++◌, take, eqb}
use Rattle.misc.specs.Pick.{pick}
use Rattle.misc.specs.Refusal.{number, ended, not_a_set}
use Rattle.misc.specs.Body.{body_limit}
use Rattle.misc.specs.Output.{Output, refused, bytes}
use Rattle.previous_gtids_event.specs.Entry.{uuid_of, tag_of}
use Rattle.previous_gtids_event.specs.Previous.{previous}
use Rattle.gtid_event.specs.declared.GtidEvent.{GtidEvent}
use Rattle.gtid_sets.specs.Limits.{max_entries, max_intervals}
use Rattle.gtid_sets.specs.Run.{Event, anonymous, broken, names}
use Rattle.gtid_sets.specs.Lent.{Lent, form, unfit, lent_set}
use Rattle.set_join.specs.Answers.{taken_in}
use Rattle.resume_set.specs.Answers.{event_of}
use Rattle.text.specs.Digits.{decimal}
use Rattle.text.specs.Keys.{colon, key_text}
use Rattle.text.specs.Lines.{newline, refused_text}
use Rattle.listing.specs.SetText.{set_text}

-- `anonymous`
abbrev pub anonymous_word : List ℕ
anonymous_word = 97 ∷ 110 ∷ 111 ∷ 110 ∷ 121 ∷ 109 ∷ 111 ∷ 117 ∷ 115 ∷ []

-- `gtid `
abbrev pub gtid_word : List ℕ
gtid_word = 103 ∷ 116 ∷ 105 ∷ 100 ∷ 32 ∷ []

-- `previous-gtids`
abbrev pub previous_word : List ℕ
previous_word = 112 ∷ 114 ∷ 101 ∷ 118 ∷ 105 ∷ 111 ∷ 117 ∷ 115 ∷ 45 ∷ 103 ∷ 116 ∷ 105 ∷ 100 ∷ 115 ∷ []

-- ---- types 33, 34 and 42: what an offer sees of them

-- a uuid, a tag and a gno
unfoldable pub id_text : List ℕ → List ℕ → ℕ → List ℕ
id_text uuid tag gno = gtid_word ++ key_text uuid tag ++ (colon ∷ decimal gno) ++ (newline ∷ [])

-- those of a record
abbrev pub record_text : GtidEvent → List ℕ
record_text e = id_text e.sid (take e.tag_len e.tag) e.gno

abbrev pub gtid_text : Event → List ℕ
gtid_text (broken r) = refused_text (number r)
gtid_text anonymous = anonymous_word ++ (newline ∷ [])
gtid_text (names k gno) = id_text (uuid_of k) (tag_of k) gno

-- ---- type 35: the set that is taken in

abbrev pub lent_text : Lent → List ℕ
lent_text unfit = refused_text (number not_a_set)
lent_text (form s) = set_text previous_word s

abbrev pub taken_text : Output → List ℕ
taken_text (refused r) = refused_text (number r)
taken_text (bytes set) = lent_text (lent_set set)

-- ---- an event, and the program's input

unfoldable pub event_text : ℕ → List ℕ → List ℕ
event_text type body = pick (eqb type 35) (taken_text (taken_in (previous body))) (gtid_text (event_of type body))

-- a type byte and a body; no input at all ends before the type
abbrev pub listing : List ℕ → List ℕ
listing [] = refused_text (number ended)
listing (type ∷ body) = event_text type body

-- so many bytes of an input tell its listing: a type byte, the longest body, and a byte that tells that the body is too long
unfoldable pub enough_input : ℕ
enough_input = 2 + body_limit

-- the longest text: the line of counts, 42 bytes; 70 for each entry (36 for the uuid, 33 for the tag and its colon, 1 for the newline);
-- and 40 for each interval
unfoldable pub longest_text : ℕ
longest_text = 42 + max_entries * 70 + max_intervals * 40
