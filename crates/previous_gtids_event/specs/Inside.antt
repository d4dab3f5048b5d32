-- What the calls inside answer, of the parts of an entry and of the entries that are to be written.
use Rattle.std.specs.Prelude.{ℕ, ◌-◌, ◌*◌, Bool, true, false, List, [], length, Result}
use Rattle.misc.specs.declared.refusal.Refusal.{Refusal}
use Rattle.misc.specs.Parse.{Parse, refuse, parsed, answered}
use Rattle.misc.specs.declared.Read.{Read}
use Rattle.previous_gtids_event.specs.Entry.{Entry, entry, tag_of}
use Rattle.previous_gtids_event.specs.Previous.{Head, head}
use Rattle.previous_gtids_event.specs.Rewrite.{entry_bytes, entries_bytes, any_tag}
use Rattle.previous_gtids_event.specs.declared.HeadRead.{HeadRead}
use Rattle.previous_gtids_event.specs.declared.Sizes.{Sizes}

-- how long a tag is
abbrev pub tag_told : List ℕ → ℕ → Read ℕ
tag_told tag next = record { value = length tag; next = next }

abbrev pub tag_read : Parse (List ℕ) → Result (Read ℕ) Refusal
tag_read p = answered tag_told p

-- a head: how long the tag is, how many intervals follow, and the place of the first
abbrev pub head_told : Head → ℕ → HeadRead
head_told (head k count) first = record { tag_len = length (tag_of k); intervals = count; first = first }

abbrev pub head_read : Parse Head → Result HeadRead Refusal
head_read p = answered head_told p

-- a whole entry: its head, and the place behind the last interval
abbrev pub whole_told : Entry → ℕ → Read HeadRead
whole_told (entry k is) next =
    record { value = record { tag_len = length (tag_of k); intervals = length is; first = next - 16 * length is }; next = next }

abbrev pub whole_read : Parse Entry → Result (Read HeadRead) Refusal
whole_read p = answered whole_told p

-- ---- entries that are to be written

-- whether one has a tag, and how many bytes they take without tags and with
abbrev pub sizes_told : List Entry → ℕ → Sizes
sizes_told es next =
    record { tagged = any_tag es; plain = length (entries_bytes false es); full = length (entries_bytes true es) }

abbrev pub sizes_read : Parse (List Entry) → Result Sizes Refusal
sizes_read p = answered sizes_told p

-- the bytes of what was read, none of what was refused
abbrev pub entry_bytes_of : Bool → Parse Entry → List ℕ
entry_bytes_of tagged (refuse r) = []
entry_bytes_of tagged (parsed e next) = entry_bytes tagged e

abbrev pub entries_bytes_of : Bool → Parse (List Entry) → List ℕ
entries_bytes_of tagged (refuse r) = []
entries_bytes_of tagged (parsed es next) = entries_bytes tagged es
