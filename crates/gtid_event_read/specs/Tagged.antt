-- A tagged event (type 42): version byte, payload size, last non-ignorable field id, fields.
use Rattle.std.specs.Prelude.{ℕ, ◌-◌, false, List, length, get_or, leb, eqb}
use Rattle.misc.specs.Pick.{pick}
use Rattle.misc.specs.Refusal.{ended, wrong_version, no_tag, small_payload}
use Rattle.misc.specs.Parse.{Parse, refuse, parsed, and_then, judged, provided, part, byte_at}
use Rattle.misc.specs.Varlen.{varlen_at}
use Rattle.gtid_event.specs.declared.GtidEvent.{GtidEvent}
use Rattle.gtid_event_read.specs.Seen.{Seen}
use Rattle.gtid_event_read.specs.Fields.{fields_of}
use Rattle.gtid_event_read.specs.declared.Fields.{Fields}

-- the record of the fields: an original that was not sent equals the immediate
abbrev pub record_of : Fields → GtidEvent
record_of f =
    record {
      flags = get_or f.numbers 0 0;
      sid = f.sid;
      gno = get_or f.numbers 2 0;
      tag = f.tag;
      tag_len = f.tag_len;
      lc_typecode = 0;
      last_committed = get_or f.numbers 4 0;
      sequence_number = get_or f.numbers 5 0;
      immediate_commit_timestamp = get_or f.numbers 6 0;
      original_commit_timestamp = pick (get_or f.present 7 false) (get_or f.numbers 7 0) (get_or f.numbers 6 0);
      tx_length = get_or f.numbers 8 0;
      immediate_server_version = get_or f.numbers 9 0;
      original_server_version = pick (get_or f.present 10 false) (get_or f.numbers 10 0) (get_or f.numbers 9 0);
      commit_group_ticket = get_or f.numbers 11 0;
    }

abbrev pub seen_of : Fields → Seen
seen_of f = record { event = record_of f; present = f.present }

-- the fields have ended, and the payload ends at a place of the body: a tag must have been sent
abbrev pub finished : ℕ → Parse Fields → Parse Seen
finished end (refuse r) = refuse r
finished end (parsed f at) = provided (get_or f.present 3 false) no_tag (parsed (seen_of f) end)

-- the payload, whose size counts everything from the version byte on; its fields begin at a place
abbrev pub payload_at : List ℕ → ℕ → ℕ → ℕ → Parse Seen
payload_at s size last start =
    provided (leb start size) small_payload
    (provided (leb size (length s)) ended
    (finished size (fields_of last (part s start (size - start)))))

unfoldable pub tagged : List ℕ → Parse Seen
tagged s =
    and_then (judged (λ version. eqb version 2) wrong_version (byte_at s 0)) (λ version at₁.
    and_then (varlen_at s at₁) (λ size at₂.
    and_then (varlen_at s at₂) (payload_at s size)))
