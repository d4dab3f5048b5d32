-- A GTID record as 116 bytes, each field in a place of its own. Numbers are little-endian.
use Rattle.std.specs.Prelude.{ℕ, List, [], ◌∷◌, ◌++◌, length, get_or, leb, ltb, eqb, Result, Ok, Err}
use Rattle.misc.specs.Pick.{pick}
use Rattle.misc.specs.Refusal.{not_writable}
use Rattle.misc.specs.declared.refusal.Refusal.{Refusal}
use Rattle.misc.specs.declared.refusal.WriteError.{WriteError}
use Rattle.misc.specs.declared.refusal.WriteError.TheVariants.{Refused, NoRoom}
use Rattle.misc.specs.Parse.{Parse, refuse, parsed, part, parsed_or}
use Rattle.misc.specs.Le.{le_bytes, le_at, number_at}
use Rattle.misc.specs.Output.{Output, refused, bytes}
use Rattle.gtid_event.specs.declared.GtidEvent.{GtidEvent}
use Rattle.gtid_event_read.specs.Seen.{Seen, bits_of}
use Rattle.gtid_event_write.specs.Write.{event_output}
use Rattle.abi.specs.Answers.{bit}

abbrev pub record_size : ℕ
record_size = 116

-- ---- the bytes of a record

-- flags, uuid, gno, how long the tag is, the tag's field
unfoldable pub flat_identity : GtidEvent → List ℕ
flat_identity e = (e.flags ∷ []) ++ e.sid ++ le_bytes 8 e.gno ++ (e.tag_len ∷ []) ++ e.tag

-- whether there is a typecode, the typecode, last_committed, sequence_number, immediate and original timestamp
unfoldable pub flat_clock : GtidEvent → List ℕ
flat_clock e =
    (bit (ltb 0 e.lc_typecode) ∷ []) ++ (e.lc_typecode ∷ [])
    ++ le_bytes 8 e.last_committed
    ++ le_bytes 8 e.sequence_number
    ++ le_bytes 8 e.immediate_commit_timestamp
    ++ le_bytes 8 e.original_commit_timestamp

-- transaction length, immediate and original server version, ticket
unfoldable pub flat_rest : GtidEvent → List ℕ
flat_rest e =
    le_bytes 8 e.tx_length
    ++ le_bytes 4 e.immediate_server_version
    ++ le_bytes 4 e.original_server_version
    ++ le_bytes 8 e.commit_group_ticket

unfoldable pub flat : GtidEvent → List ℕ
flat e = flat_identity e ++ flat_clock e ++ flat_rest e

-- ---- the record in such bytes

-- the number in the four bytes from a place on, 0 where they aren't all there
unfoldable pub four_at : List ℕ → ℕ → ℕ
four_at s at = parsed_or 0 (le_at 4 s at)

-- a typecode counts only where there is said to be one
abbrev pub typecode_if : ℕ → ℕ → ℕ
typecode_if there typecode = pick (eqb there 0) 0 typecode

-- the record in 116 bytes
unfoldable pub flat_read : List ℕ → GtidEvent
flat_read s =
    record {
      flags = get_or s 0 0;
      sid = part s 1 16;
      gno = number_at s 17;
      tag = part s 26 32;
      tag_len = get_or s 25 0;
      lc_typecode = typecode_if (get_or s 58 0) (get_or s 59 0);
      last_committed = number_at s 60;
      sequence_number = number_at s 68;
      immediate_commit_timestamp = number_at s 76;
      original_commit_timestamp = number_at s 84;
      tx_length = number_at s 92;
      immediate_server_version = four_at s 100;
      original_server_version = four_at s 104;
      commit_group_ticket = number_at s 108;
    }

-- ---- what the calls write and answer

-- the bytes of an event that was read
abbrev pub read_output : Parse GtidEvent → Output
read_output (refuse r) = refused r
read_output (parsed e next) = bytes (flat e)

-- what was read, where there is room for the record; else how much room is needed
abbrev pub read_answers : {A : Type 0} → Result A Refusal → ℕ → Result A WriteError
read_answers (Err r) room = Err (Refused r)
read_answers (Ok said) room = pick (leb record_size room) (Ok said) (Err (NoRoom record_size))

-- how many bytes of the body were used, where there is room for the record; else how much room is needed
abbrev pub read_used : Parse GtidEvent → ℕ → ℕ
read_used (refuse r) room = 0
read_used (parsed e next) room = pick (leb record_size room) next record_size

-- which fields were there, where there is room for the record
abbrev pub read_present : Parse Seen → ℕ → ℕ
read_present (refuse r) room = 0
read_present (parsed x next) room = pick (leb record_size room) (bits_of x.present) 0

-- the event that a record is written as
unfoldable pub write_output : List ℕ → Output
write_output s = pick (eqb (length s) record_size) (event_output (flat_read s)) (refused not_writable)
