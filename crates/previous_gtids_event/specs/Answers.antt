-- What the calls answer: a refusal, or what was read.
use Rattle.std.specs.Prelude.{ℕ, ◌-◌, ◌*◌, List, length, Result}
use Rattle.misc.specs.declared.refusal.Refusal.{Refusal}
use Rattle.misc.specs.Parse.{Parse, answered}
use Rattle.packets.specs.Gno.{Interval, interval}
use Rattle.packets.specs.Kept.{padded}
use Rattle.previous_gtids_event.specs.Entry.{Entry, entry, uuid_of, tag_of}
use Rattle.previous_gtids_event.specs.Previous.{says_tagged, says_count}
use Rattle.previous_gtids_event.specs.declared.PreviousRead.{PreviousRead}
use Rattle.previous_gtids_event.specs.declared.HeaderRead.{HeaderRead}
use Rattle.previous_gtids_event.specs.declared.EntryRead.{EntryRead}
use Rattle.previous_gtids_event.specs.declared.IntervalRead.{IntervalRead}

-- how many entries, and the bytes that they took
abbrev pub previous_told : List Entry → ℕ → PreviousRead
previous_told es next = record { used = next; entries = length es }

abbrev pub previous_read : Parse (List Entry) → Result PreviousRead Refusal
previous_read p = answered previous_told p

-- what the header's number says
abbrev pub header_told : ℕ → ℕ → HeaderRead
header_told header next = record { tagged = says_tagged header; entries = says_count header }

abbrev pub header_read : Parse ℕ → Result HeaderRead Refusal
header_read p = answered header_told p

-- an entry: its key in two fields, the number of its intervals, the places of the first and behind the last
abbrev pub entry_told : Entry → ℕ → EntryRead
entry_told (entry k is) next =
    record {
      uuid = uuid_of k;
      tag = padded 32 (tag_of k);
      tag_len = length (tag_of k);
      intervals = length is;
      first = next - 16 * length is;
      next = next;
    }

abbrev pub entry_read : Parse Entry → Result EntryRead Refusal
entry_read p = answered entry_told p

abbrev pub interval_told : Interval → ℕ → IntervalRead
interval_told (interval start end) next = record { start = start; end = end }

abbrev pub interval_read : Parse Interval → Result IntervalRead Refusal
interval_read p = answered interval_told p
