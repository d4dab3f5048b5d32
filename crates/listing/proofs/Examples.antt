-- Examples, by computation.
use mathlib.Core.Path.{◌≡◌, refl}
use mathlib.Core.List.{List, [], ◌∷◌, ◌++◌}
use Prim.Native.Nat.{ℕ}
use Rattle.misc.specs.Body.{body_limit}
use Rattle.misc.specs.Le.{le_of, le_bytes, le_at}
use Rattle.misc.specs.Parse.{many, bytes_at, byte_at}
use Rattle.packets.specs.Gno.{gno_top}
use Rattle.previous_gtids_event.specs.Entry.{uuid_of, tag_of}
use Rattle.previous_gtids_event.specs.Previous.{tag_at, key_at, head_at, interval_at, entry_at, says_tagged, says_count, previous}
use Rattle.previous_gtids_event.specs.Rewrite.{intervals_bytes, entry_bytes, entries_bytes, any_tag, header_bytes, body_bytes}
use Rattle.gtid_event_read.specs.Untagged.{opening_at, untagged}
use Rattle.gtid_event_read.specs.Read.{seen, named}
use Rattle.gtid_sets.specs.Limits.{max_entries, max_intervals, max_of_entry, judged, limits}
use Rattle.gtid_sets.specs.Lent.{lent_set}
use Rattle.resume_set.specs.Answers.{event_of}
use Rattle.text.specs.Digits.{decimal_in, decimal, hex_digit, hex}
use Rattle.text.specs.Keys.{uuid_text, key_text}
use Rattle.text.specs.Lines.{refused_text}
use Rattle.listing.specs.SetText.{intervals_text, entry_text, entries_text, set_text}
use Rattle.listing.specs.EventText.{id_text, event_text, listing}

-- ---- events

-- 00 11 22 .. FF
abbrev uuid : List ℕ
uuid = 0 ∷ 17 ∷ 34 ∷ 51 ∷ 68 ∷ 85 ∷ 102 ∷ 119 ∷ 136 ∷ 153 ∷ 170 ∷ 187 ∷ 204 ∷ 221 ∷ 238 ∷ 255 ∷ []

-- `00112233-4455-6677-8899-aabbccddeeff`
abbrev name : List ℕ
name =
    (48 ∷ 48 ∷ 49 ∷ 49 ∷ 50 ∷ 50 ∷ 51 ∷ 51 ∷ 45 ∷ 52 ∷ 52 ∷ 53 ∷ 53 ∷ 45 ∷ 54 ∷ 54 ∷ 55 ∷ 55 ∷ 45 ∷ 56 ∷ 56 ∷ 57 ∷ 57 ∷ 45 ∷ [])
    ++ (97 ∷ 97 ∷ 98 ∷ 98 ∷ 99 ∷ 99 ∷ 100 ∷ 100 ∷ 101 ∷ 101 ∷ 102 ∷ 102 ∷ [])

-- a small number in eight bytes
abbrev eight : ℕ → List ℕ
eight n = n ∷ 0 ∷ 0 ∷ 0 ∷ 0 ∷ 0 ∷ 0 ∷ 0 ∷ []

-- type 35, one entry: the uuid, so many intervals, and these
abbrev previous_of : ℕ → List ℕ → List ℕ
previous_of n is = (35 ∷ eight 1) ++ uuid ++ eight n ++ is

-- `previous-gtids entries 1 intervals 2` and `00112233-4455-6677-8899-aabbccddeeff:1-5:9`
lines : List ℕ
lines =
    (112 ∷ 114 ∷ 101 ∷ 118 ∷ 105 ∷ 111 ∷ 117 ∷ 115 ∷ 45 ∷ 103 ∷ 116 ∷ 105 ∷ 100 ∷ 115 ∷ 32 ∷ 101 ∷ 110 ∷ 116 ∷ 114 ∷ 105 ∷ 101 ∷ 115 ∷ 32 ∷ 49 ∷ 32 ∷ [])
    ++ (105 ∷ 110 ∷ 116 ∷ 101 ∷ 114 ∷ 118 ∷ 97 ∷ 108 ∷ 115 ∷ 32 ∷ 50 ∷ 10 ∷ [])
    ++ name ++ (58 ∷ 49 ∷ 45 ∷ 53 ∷ 58 ∷ 57 ∷ 10 ∷ [])

-- the ids 1 to 5 and 9
listed : listing (previous_of 2 (eight 1 ++ eight 6 ++ eight 9 ++ eight 10)) ≡ lines
unfolding lines event_text set_text entries_text entry_text intervals_text key_text uuid_text hex hex_digit decimal decimal_in uuid_of tag_of body_limit
    le_of le_bytes le_at many bytes_at gno_top tag_at key_at head_at interval_at entry_at says_tagged says_count previous intervals_bytes entry_bytes
    entries_bytes any_tag header_bytes body_bytes max_entries max_intervals max_of_entry limits judged lent_set
listed = refl

-- flags 0, the uuid, gno 6: 25 bytes
abbrev id_body : List ℕ
id_body = (0 ∷ uuid) ++ eight 6

-- `gtid 00112233-4455-6677-8899-aabbccddeeff:6`
an-id : listing (33 ∷ id_body) ≡ (103 ∷ 116 ∷ 105 ∷ 100 ∷ 32 ∷ []) ++ name ++ (58 ∷ 54 ∷ 10 ∷ [])
unfolding event_text event_of named seen untagged opening_at byte_at bytes_at le_at le_of body_limit uuid_of tag_of
    id_text key_text uuid_text hex hex_digit decimal decimal_in
an-id = refl

-- `anonymous`
no_id : listing (34 ∷ id_body) ≡ 97 ∷ 110 ∷ 111 ∷ 110 ∷ 121 ∷ 109 ∷ 111 ∷ 117 ∷ 115 ∷ 10 ∷ []
unfolding event_text event_of named seen untagged opening_at byte_at bytes_at le_at le_of body_limit
no_id = refl

-- ---- refusals

-- `refused ` and digits
abbrev refusing : List ℕ → List ℕ
refusing digits = (114 ∷ 101 ∷ 102 ∷ 117 ∷ 115 ∷ 101 ∷ 100 ∷ 32 ∷ []) ++ digits ++ (10 ∷ [])

-- no input: 1
nothing : listing [] ≡ refusing (49 ∷ [])
unfolding refused_text decimal decimal_in
nothing = refl

-- an interval from 0 to 5: 15
from_zero : listing (previous_of 1 (eight 0 ++ eight 5)) ≡ refusing (49 ∷ 53 ∷ [])
unfolding event_text refused_text decimal decimal_in body_limit le_of le_at many bytes_at
    gno_top tag_at key_at head_at interval_at entry_at says_tagged says_count previous
from_zero = refl

-- type 7: 8
unserved : listing (7 ∷ []) ≡ refusing (56 ∷ [])
unfolding event_text event_of named seen body_limit refused_text decimal decimal_in
unserved = refl
