-- Which records can be written: those that come back equal from their bytes.
use Rattle.std.specs.Prelude.{ℕ, ◌^◌, Bool, true, ◌&&◌, ◌||◌, List, [], ◌∷◌, take, drop, leb, ltb, eqb}
use Rattle.misc.specs.Pick.{pick}
use Rattle.packets.specs.Tag.{is_tag}
use Rattle.gtid_event.specs.Event.{undefined_version, tagged}
use Rattle.gtid_event.specs.declared.GtidEvent.{GtidEvent}

-- the first number that is too great for the tagged layout's signed integers
unfoldable pub signed_top : ℕ
signed_top = 2 ^ 63

unfoldable pub all_zero : List ℕ → Bool
all_zero [] = true
all_zero (b ∷ bs) = eqb b 0 && all_zero bs

-- the tag's own bytes
abbrev pub tag_of : GtidEvent → List ℕ
tag_of e = take e.tag_len e.tag

-- tagged: a valid tag, no typecode, and gno, last_committed and sequence_number that a signed integer holds
abbrev pub writable_tagged : GtidEvent → Bool
writable_tagged e =
    leb e.tag_len 32 && is_tag (tag_of e)
    && eqb e.lc_typecode 0
    && ltb e.gno signed_top && ltb e.last_committed signed_top && ltb e.sequence_number signed_top

-- all fields that follow the typecode have the values that the reader gives absent ones
abbrev pub later_absent : GtidEvent → Bool
later_absent e =
    eqb e.last_committed 0 && eqb e.sequence_number 0
    && eqb e.immediate_commit_timestamp 0 && eqb e.original_commit_timestamp 0
    && eqb e.tx_length 0
    && eqb e.immediate_server_version undefined_version && eqb e.original_server_version undefined_version

-- untagged: ticket 0, and numbers that leave the marking bit free and fit their bytes; without a typecode nothing after it
abbrev pub writable_untagged : GtidEvent → Bool
writable_untagged e =
    eqb e.commit_group_ticket 0
    && ltb e.immediate_commit_timestamp (2 ^ 55) && ltb e.original_commit_timestamp (2 ^ 56)
    && ltb e.immediate_server_version (2 ^ 31)
    && (eqb e.lc_typecode 2 || later_absent e)

-- typecode 2 or none, and zeros in the tag's field beyond n bytes
abbrev pub kept_beyond : ℕ → GtidEvent → Bool
kept_beyond n e = (eqb e.lc_typecode 2 || eqb e.lc_typecode 0) && all_zero (drop n e.tag)

-- typecode 2 or none, tag bytes beyond the tag zero
unfoldable pub writable : GtidEvent → Bool
writable e =
    (eqb e.lc_typecode 2 || eqb e.lc_typecode 0) && all_zero (drop e.tag_len e.tag)
    && pick (tagged e) (writable_tagged e) (writable_untagged e)
