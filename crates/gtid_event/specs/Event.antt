-- The GTID record: its first values, and what each building step makes of it. A tag of length 0 is none, and so is typecode 0.
use mathlib.Core.Logic.{◌⊎◌}
use Rattle.std.specs.Prelude.{ℕ, ◌≡◌, Bool, List, length, replicate, ltb, eqb, Result, Ok, Err}
use Rattle.misc.specs.Pick.{pick}
use Rattle.misc.specs.Refusal.{bad_tag}
use Rattle.misc.specs.declared.refusal.Refusal.{Refusal}
use Rattle.packets.specs.Kept.{padded}
use Rattle.packets.specs.Tag.{is_tag}
use Rattle.gtid_event.specs.declared.GtidEvent.{GtidEvent}

-- the server version that stands for an unknown one; a new record has it in both versions
abbrev pub undefined_version : ℕ
undefined_version = 999999

-- a pair's numbers have so many bytes: commit timestamps seven, server versions four
abbrev pub IsWidth : ℕ → Type 0
IsWidth width = (width ≡ 7) ⊎ (width ≡ 4)

-- all zero but for uuid, gno, typecode and server versions
abbrev pub fresh : List ℕ → ℕ → ℕ → ℕ → GtidEvent
fresh sid gno typecode version =
    record {
      flags = 0;
      sid = sid;
      gno = gno;
      tag = replicate 32 0;
      tag_len = 0;
      lc_typecode = typecode;
      last_committed = 0;
      sequence_number = 0;
      immediate_commit_timestamp = 0;
      original_commit_timestamp = 0;
      tx_length = 0;
      immediate_server_version = version;
      original_server_version = version;
      commit_group_ticket = 0;
    }

-- no event: zeros
abbrev pub no_event : GtidEvent
no_event = fresh (replicate 16 0) 0 0 0

-- a new untagged record: typecode 2
abbrev pub new_untagged : List ℕ → ℕ → GtidEvent
new_untagged sid gno = fresh sid gno 2 undefined_version

-- whether the record has a tag
abbrev pub tagged : GtidEvent → Bool
tagged e = ltb 0 e.tag_len

-- the type of the event that it is written as
abbrev pub type_of : GtidEvent → ℕ
type_of e = pick (tagged e) 42 33

-- ---- changes

-- the record with v in one of its numbers, named by the field id that the tagged layout gives it:
-- 0 flags, 2 gno, 4 last_committed, 5 sequence_number, 6 and 7 immediate and original timestamp, 8 transaction length,
-- 9 and 10 immediate and original server version, 11 ticket
abbrev pub set_number : ℕ → ℕ → GtidEvent → GtidEvent
set_number id v e =
    record {
      flags = pick (eqb id 0) v e.flags;
      sid = e.sid;
      gno = pick (eqb id 2) v e.gno;
      tag = e.tag;
      tag_len = e.tag_len;
      lc_typecode = e.lc_typecode;
      last_committed = pick (eqb id 4) v e.last_committed;
      sequence_number = pick (eqb id 5) v e.sequence_number;
      immediate_commit_timestamp = pick (eqb id 6) v e.immediate_commit_timestamp;
      original_commit_timestamp = pick (eqb id 7) v e.original_commit_timestamp;
      tx_length = pick (eqb id 8) v e.tx_length;
      immediate_server_version = pick (eqb id 9) v e.immediate_server_version;
      original_server_version = pick (eqb id 10) v e.original_server_version;
      commit_group_ticket = pick (eqb id 11) v e.commit_group_ticket;
    }

-- the record with another uuid, tag field, tag length and typecode
abbrev pub set_others : List ℕ → List ℕ → ℕ → ℕ → GtidEvent → GtidEvent
set_others sid tag tag_len typecode e =
    record {
      flags = e.flags;
      sid = sid;
      gno = e.gno;
      tag = tag;
      tag_len = tag_len;
      lc_typecode = typecode;
      last_committed = e.last_committed;
      sequence_number = e.sequence_number;
      immediate_commit_timestamp = e.immediate_commit_timestamp;
      original_commit_timestamp = e.original_commit_timestamp;
      tx_length = e.tx_length;
      immediate_server_version = e.immediate_server_version;
      original_server_version = e.original_server_version;
      commit_group_ticket = e.commit_group_ticket;
    }

abbrev pub set_sid : List ℕ → GtidEvent → GtidEvent
set_sid sid e = set_others sid e.tag e.tag_len e.lc_typecode e

-- these bytes are the tag; what stood behind a longer one is cleared
abbrev pub set_tag : List ℕ → GtidEvent → GtidEvent
set_tag tag e = set_others e.sid (padded 32 tag) (length tag) e.lc_typecode e

abbrev pub set_typecode : ℕ → GtidEvent → GtidEvent
set_typecode typecode e = set_others e.sid e.tag e.tag_len typecode e

-- the record with a tag, if it is one
unfoldable pub with_tag : List ℕ → GtidEvent → Result GtidEvent Refusal
with_tag tag e = pick (is_tag tag) (Ok (set_tag tag e)) (Err bad_tag)

-- a new tagged record: no typecode
unfoldable pub new_tagged : List ℕ → List ℕ → ℕ → Result GtidEvent Refusal
new_tagged sid tag gno = with_tag tag (fresh sid gno 0 undefined_version)
