-- What the types of a GTID record's fields say of every record: so many bytes, and numbers of so many bits.
use Rattle.std.specs.Prelude.{◌^◌, ◌<◌, ◌≡◌, length}
use Rattle.misc.specs.Parse.{Bytes}
use Rattle.gtid_event.specs.declared.GtidEvent.{GtidEvent}

pub record Fits (e : GtidEvent) : Type 0 where
  pub flags_fit : e.flags < 256
  pub sid_size : length e.sid ≡ 16
  pub sid_fits : Bytes e.sid
  pub gno_fits : e.gno < 2 ^ 64
  pub tag_size : length e.tag ≡ 32
  pub tag_fits : Bytes e.tag
  pub tag_len_fits : e.tag_len < 256
  pub typecode_fits : e.lc_typecode < 256
  pub last_fits : e.last_committed < 2 ^ 64
  pub sequence_fits : e.sequence_number < 2 ^ 64
  pub immediate_fits : e.immediate_commit_timestamp < 2 ^ 64
  pub original_fits : e.original_commit_timestamp < 2 ^ 64
  pub length_fits : e.tx_length < 2 ^ 64
  pub version_fits : e.immediate_server_version < 2 ^ 32
  pub original_version_fits : e.original_server_version < 2 ^ 32
  pub ticket_fits : e.commit_group_ticket < 2 ^ 64
