-- The bytes of a record, as the Rust writes a writable one.
use Rattle.std.specs.Prelude.{ℕ, ◌+◌, ◌*◌, ◌^◌, List, [], ◌∷◌, ◌++◌, length, eqb}
use Rattle.misc.specs.Pick.{pick}
use Rattle.misc.specs.Le.{le_bytes}
use Rattle.misc.specs.Lenenc.{lenenc_bytes}
use Rattle.misc.specs.Varlen.{varlen_bytes}
use Rattle.gtid_event.specs.declared.GtidEvent.{GtidEvent}
use Rattle.gtid_event_write.specs.Writable.{tag_of}
use Rattle.gtid_event_write.specs.Size.{payload_size}

-- ---- tagged: fields, each with its id

abbrev pub number_bytes : ℕ → ℕ → List ℕ
number_bytes id v = varlen_bytes id ++ varlen_bytes v

-- a signed integer that isn't negative
abbrev pub natural_bytes : ℕ → ℕ → List ℕ
natural_bytes id v = number_bytes id (v * 2)

-- a number that is left out where it is the one that the reader assumes
abbrev pub unless_bytes : ℕ → ℕ → ℕ → List ℕ
unless_bytes id v assumed = pick (eqb v assumed) [] (number_bytes id v)

-- each byte as an integer
unfoldable pub items_bytes : List ℕ → List ℕ
items_bytes [] = []
items_bytes (b ∷ bs) = varlen_bytes b ++ items_bytes bs

-- flags, uuid, gno, tag
unfoldable pub identity_bytes : GtidEvent → List ℕ
identity_bytes e =
    number_bytes 0 e.flags
    ++ (varlen_bytes 1 ++ items_bytes e.sid)
    ++ natural_bytes 2 e.gno
    ++ (varlen_bytes 3 ++ varlen_bytes e.tag_len ++ tag_of e)

-- last_committed, sequence_number, and the timestamps
unfoldable pub clock_bytes : GtidEvent → List ℕ
clock_bytes e =
    natural_bytes 4 e.last_committed
    ++ natural_bytes 5 e.sequence_number
    ++ number_bytes 6 e.immediate_commit_timestamp
    ++ unless_bytes 7 e.original_commit_timestamp e.immediate_commit_timestamp

-- transaction length, server versions, ticket
unfoldable pub rest_bytes : GtidEvent → List ℕ
rest_bytes e =
    number_bytes 8 e.tx_length
    ++ number_bytes 9 e.immediate_server_version
    ++ unless_bytes 10 e.original_server_version e.immediate_server_version
    ++ unless_bytes 11 e.commit_group_ticket 0

unfoldable pub field_bytes : GtidEvent → List ℕ
field_bytes e = identity_bytes e ++ clock_bytes e ++ rest_bytes e

-- version byte 2, payload size, last non-ignorable id 0, fields
unfoldable pub tagged_bytes : GtidEvent → List ℕ
tagged_bytes e = (2 ∷ []) ++ varlen_bytes (payload_size (length (field_bytes e))) ++ varlen_bytes 0 ++ field_bytes e

-- ---- untagged

-- an immediate number of w bytes and its original: alone where they are equal, else with the highest bit set, and the original
abbrev pub pair_bytes : ℕ → ℕ → ℕ → ℕ → List ℕ
pair_bytes w mark immediate original =
    pick (eqb immediate original) (le_bytes w immediate) (le_bytes w (immediate + mark) ++ le_bytes w original)

unfoldable pub opening_bytes : GtidEvent → List ℕ
opening_bytes e = (e.flags ∷ []) ++ e.sid ++ le_bytes 8 e.gno

-- the typecode, and what follows it
unfoldable pub later_bytes : GtidEvent → List ℕ
later_bytes e =
    (2 ∷ []) ++ le_bytes 8 e.last_committed ++ le_bytes 8 e.sequence_number
    ++ pair_bytes 7 (2 ^ 55) e.immediate_commit_timestamp e.original_commit_timestamp
    ++ lenenc_bytes e.tx_length
    ++ pair_bytes 4 (2 ^ 31) e.immediate_server_version e.original_server_version

unfoldable pub untagged_bytes : GtidEvent → List ℕ
untagged_bytes e = opening_bytes e ++ pick (eqb e.lc_typecode 0) [] (later_bytes e)
