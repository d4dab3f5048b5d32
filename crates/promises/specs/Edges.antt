-- Both sides of each edge, and other rows computed whole: what the definitions give, beside what the rules say. One table, under one statement.
use Rattle.std.specs.Prelude.{ℕ, ◌+◌, ◌-◌, ◌^◌, ◌≡◌, true, List, [], ◌∷◌, ◌++◌, map, pos, negsuc, length, replicate, Result, Ok, Err}
use Rattle.misc.specs.declared.refusal.Refusal.{Refusal}
use Rattle.misc.specs.Refusal.{number}
use Rattle.misc.specs.Parse.{read_of}
use Rattle.misc.specs.declared.Read.{Read}
use Rattle.misc.specs.Lenenc.{lenenc_bytes}
use Rattle.misc.specs.Varlen.{varlen_at, varlen_size, varlen_bytes}
use Rattle.misc.specs.Signed.{sent_as}
use Rattle.packets.specs.Gno.{Interval, interval}
use Rattle.packets.specs.Tag.{is_tag}
use Rattle.previous_gtids_event.specs.Entry.{Entry, entry}
use Rattle.previous_gtids_event.specs.Rewrite.{header_bytes}
use Rattle.gtid_event.specs.Event.{fresh, set_number, set_tag}
use Rattle.gtid_event.specs.declared.GtidEvent.{GtidEvent}
use Rattle.gtid_event_read.specs.Read.{seen, gtid_read}
use Rattle.gtid_event_write.specs.Size.{payload_size, size_in64}
use Rattle.gtid_event_write.specs.Write.{event_bytes}
use Rattle.gtid_sets.specs.Set.{add}
use Rattle.gtid_sets.specs.Combine.{either, both, without, marks, combined, subset}
use Rattle.gtid_sets.specs.Lent.{form, unfit}
use Rattle.gtid_sets.specs.Total.{total}
use Rattle.two_sets.specs.Answers.{head_read}
use Rattle.report.specs.Report.{line_of}
use Rattle.report.specs.Text.{line_text, report_text}
use Rattle.abi.specs.Answers.{head_numbers, bit}
use Rattle.abi.specs.Flat.{flat, flat_read}
use Rattle.promises.specs.Presence.{bits_in}

-- ---- numbers, values and sets as lists of numbers

-- the refusal, 0 for none; the number that was read; and the place behind it
abbrev read_as : Result (Read ℕ) Refusal → List ℕ
read_as (Ok r) = 0 ∷ r.value ∷ r.next ∷ []
read_as (Err x) = number x ∷ 0 ∷ 0 ∷ []

-- which fields were there
abbrev present : ℕ → List ℕ → ℕ
present type body = bits_in (gtid_read (seen type body))

-- 1 for a tag, and 0 for what is none
abbrev tag_bit : List ℕ → ℕ
tag_bit t = bit (is_tag t)

-- the starts and ends of the intervals of the first entry
abbrev first_pairs : List Entry → List ℕ
first_pairs [] = []
first_pairs (entry k is ∷ s) = marks is

-- which of two sets has all ids of the other: the refusal, and 1 for the first, 2 for the second
abbrev head_as : List Entry × List Entry → List ℕ
head_as (s, t) = let n = head_numbers (head_read (form s) (form t)) in n.refusal ∷ n.head ∷ []

-- zero uuid, gno 1, tag "a", sequence number 1, all else 0
abbrev small : GtidEvent
small = set_tag (97 ∷ []) (set_number 5 1 (fresh (replicate 16 0) 1 0 0))

-- its bytes: the envelope with the size as it is sent, then flags, uuid, gno, tag, last_committed, sequence_number, and what follows
abbrev small_then : ℕ → List ℕ → List ℕ
small_then size rest =
    (2 ∷ size ∷ 0 ∷ []) ++ (0 ∷ 0 ∷ []) ++ (2 ∷ replicate 16 0) ++ (4 ∷ 4 ∷ []) ++ (6 ∷ 2 ∷ 97 ∷ []) ++ (8 ∷ 0 ∷ []) ++ (10 ∷ 4 ∷ []) ++ rest

-- timestamp, transaction length and server version follow
abbrev small_bytes : List ℕ
small_bytes = small_then 74 (12 ∷ 0 ∷ 16 ∷ 0 ∷ 18 ∷ 0 ∷ [])

-- with fields 7, 10 and 11
abbrev more_bytes : List ℕ
more_bytes = small_then 86 (12 ∷ 2 ∷ 14 ∷ 4 ∷ 16 ∷ 0 ∷ 18 ∷ 2 ∷ 20 ∷ 4 ∷ 22 ∷ 6 ∷ [])

-- `small` with immediate timestamp and version 1, one original for both, and a ticket
abbrev small_with : ℕ → ℕ → GtidEvent
small_with original ticket = set_number 6 1 (set_number 7 original (set_number 9 1 (set_number 10 original (set_number 11 ticket small))))

-- untagged: zero uuid, gno 1, typecode 2, timestamp 258 and the original, transaction length 300, version 80400 and the original
abbrev plain : ℕ → ℕ → GtidEvent
plain timestamp version =
    set_number 6 258 (set_number 7 timestamp (set_number 8 300 (set_number 9 80400 (set_number 10 version (fresh (replicate 16 0) 1 2 0)))))

-- its bytes: flags and uuid, gno, typecode, last_committed and sequence_number; timestamp and version have this top byte
abbrev plain_bytes : ℕ → List ℕ → List ℕ → List ℕ
plain_bytes top timestamp version =
    replicate 17 0 ++ (1 ∷ replicate 7 0) ++ (2 ∷ replicate 16 0) ++ (2 ∷ 1 ∷ 0 ∷ 0 ∷ 0 ∷ 0 ∷ top ∷ timestamp)
    ++ (0xFC ∷ 0x2C ∷ 1 ∷ []) ++ (0x10 ∷ 0x3A ∷ 1 ∷ top ∷ version)

-- a record whose fields all differ
abbrev full : GtidEvent
full =
    set_tag (97 ∷ 98 ∷ 99 ∷ []) (set_number 0 21 (set_number 4 0x0506 (set_number 5 0x0708 (set_number 6 0x090A (set_number 7 0x0B0C
    (set_number 8 0x0D0E (set_number 9 0x0F10 (set_number 10 0x1112 (set_number 11 0x1314 (fresh (22 ∷ replicate 15 23) 0x0304 2 0))))))))))

-- eight bytes, the lowest first: two, and six zeros
abbrev eight : ℕ → ℕ → List ℕ
eight low high = low ∷ high ∷ replicate 6 0

-- the places that bindings/c/gtid.h names: flags and uuid, gno, tag, typecode, four numbers, transaction length, versions, ticket
abbrev full_bytes : List ℕ
full_bytes =
    (21 ∷ 22 ∷ replicate 15 23) ++ eight 4 3 ++ (3 ∷ 97 ∷ 98 ∷ 99 ∷ replicate 29 0) ++ (1 ∷ 2 ∷ [])
    ++ eight 6 5 ++ eight 8 7 ++ eight 10 9 ++ eight 12 11
    ++ eight 14 13 ++ (16 ∷ 15 ∷ 0 ∷ 0 ∷ 18 ∷ 17 ∷ 0 ∷ 0 ∷ []) ++ eight 20 19

-- {1-5, 8-9} and {3-7, 20} of the zero uuid, {3-5}, and the first with the tag "a"
abbrev of_zeros : List Interval → List Entry
of_zeros is = entry (replicate 16 0) is ∷ []

abbrev one : List Entry
one = of_zeros (interval 1 6 ∷ interval 8 10 ∷ [])

abbrev other : List Entry
other = of_zeros (interval 3 8 ∷ interval 20 21 ∷ [])

abbrev middle : List Entry
middle = of_zeros (interval 3 6 ∷ [])

abbrev one_tagged : List Entry
one_tagged = entry (replicate 16 0 ++ (97 ∷ [])) (interval 1 6 ∷ interval 8 10 ∷ []) ∷ []

-- these intervals for each of three uuids
abbrev thrice : List Interval → List Entry
thrice is = entry (replicate 16 0) is ∷ entry (replicate 16 1) is ∷ entry (replicate 16 2) is ∷ []

-- ` 0 0 0 0`, and the newline
abbrev four_zeros : List ℕ
four_zeros = 32 ∷ 48 ∷ 32 ∷ 48 ∷ 32 ∷ 48 ∷ 32 ∷ 48 ∷ 10 ∷ []

-- n bytes FF
abbrev ones : ℕ → List ℕ
ones n = replicate n 255

-- ---- the table: what a definition gives, and what the rules say

-- a definition at some arguments, and what it gives of each
abbrev of : {A : Type 0} → (A → List ℕ) → List (A × List ℕ) → List (List ℕ × List ℕ)
of f rows = map (λ row. (f row.0, row.1)) rows

-- numbers, each beside what it should be
abbrev numbers : List ℕ → List ℕ → List (List ℕ × List ℕ)
numbers gives says = (gives, says) ∷ []

abbrev pub edges : List (List ℕ × List ℕ)
edges =
    -- 127 is FE; 128 is 01 02; 16383 is FD FF; 16384 is 03 00 02
    of varlen_bytes ((127, 254 ∷ []) ∷ (128, 1 ∷ 2 ∷ []) ∷ (16383, 253 ∷ 255 ∷ []) ∷ (16384, 3 ∷ 0 ∷ 2 ∷ []) ∷ [])
    -- 2^56-1 is 7F and seven FF; 2^56 is FF, seven 00, 01
    ++ of varlen_bytes ((2 ^ 56 - 1, 127 ∷ ones 7) ∷ (2 ^ 56, 255 ∷ (replicate 7 0 ++ (1 ∷ []))) ∷ [])
    -- -1 is 02; 63 is FC; 64 is 01 02; -2^63 is nine FF
    ++ of (λ v. varlen_bytes (sent_as v)) ((negsuc 0, 2 ∷ []) ∷ (pos 63, 252 ∷ []) ∷ (pos 64, 1 ∷ 2 ∷ []) ∷ (negsuc (2 ^ 63 - 1), ones 9) ∷ [])
    -- 01 00 reads as 0, two bytes used
    ++ numbers (read_as (read_of (varlen_at (1 ∷ 0 ∷ []) 0))) (0 ∷ 0 ∷ 2 ∷ [])
    -- length-encoded: 250 is FA; 251 is FC FB 00; 2^16-1 is FC FF FF; 2^16 is FD 00 00 01
    ++ of lenenc_bytes ((250, 0xFA ∷ []) ∷ (251, 0xFC ∷ 0xFB ∷ 0 ∷ []) ∷ (65535, 0xFC ∷ ones 2) ∷ (65536, 0xFD ∷ 0 ∷ 0 ∷ 1 ∷ []) ∷ [])
    -- 2^24-1 is FD FF FF FF; 2^24 is FE 00 00 00 01 00 00 00 00
    ++ of lenenc_bytes ((2 ^ 24 - 1, 0xFD ∷ ones 3) ∷ (2 ^ 24, 0xFE ∷ 0 ∷ 0 ∷ 0 ∷ 1 ∷ replicate 4 0) ∷ [])
    -- 124 field bytes: size 127 (128 agrees with itself too, but isn't least); 125: size 129
    ++ numbers (payload_size 124 ∷ (2 + 124 + varlen_size 128) ∷ payload_size 125 ∷ []) (127 ∷ 128 ∷ 129 ∷ [])
    -- 2^64-12 field bytes: size 2^64-1; one more: no size that 64 bits hold
    ++ numbers (size_in64 (2 ^ 64 - 12) ∷ size_in64 (2 ^ 64 - 11) ∷ []) ((2 ^ 64 - 1) ∷ 0 ∷ [])
    -- zero uuid, gno 1, tag "a", sequence 1, all else 0: 37 bytes, beginning 02 4A 00. Other originals and a ticket: 43 bytes with fields 7, 10 and
    -- 11; equal originals and no ticket: 37 without them
    ++ of event_bytes ((small, small_bytes) ∷ (small_with 2 3, more_bytes) ∷ (small_with 1 0, small_then 74 (12 ∷ 2 ∷ 16 ∷ 0 ∷ 18 ∷ 2 ∷ [])) ∷ [])
    ++ numbers (length small_bytes ∷ length more_bytes ∷ []) (37 ∷ 43 ∷ [])
    -- untagged, equal originals: bits 55 and 31 are clear, one of each is sent; others: the bits are set, both are sent
    ++ of event_bytes ((plain 258 80400, plain_bytes 0 [] []) ∷ [])
    ++ of event_bytes ((plain 259 80401, plain_bytes 0x80 (3 ∷ 1 ∷ replicate 5 0) (0x11 ∷ 0x3A ∷ 1 ∷ 0 ∷ [])) ∷ [])
    -- which fields were sent, as reading tells it: of the 43 bytes 4,095, all twelve; of `small` 895, all but 7, 10 and 11; of the tag "a" alone 8; of
    -- an untagged event 0
    ++ numbers (present 42 more_bytes ∷ present 42 small_bytes ∷ present 42 (2 ∷ 12 ∷ 0 ∷ 6 ∷ 2 ∷ 97 ∷ []) ∷ present 33 (replicate 25 0) ∷ [])
    (4095 ∷ 895 ∷ 8 ∷ 0 ∷ [])
    -- "a", "a0", "z_9" and 32 underscores are tags; nothing, "A", a digit first and 33 underscores aren't
    ++ numbers (map tag_bit ((97 ∷ []) ∷ (97 ∷ 48 ∷ []) ∷ (122 ∷ 95 ∷ 57 ∷ []) ∷ replicate 32 95 ∷ [])) (replicate 4 1)
    ++ numbers (map tag_bit ([] ∷ (65 ∷ []) ∷ (48 ∷ 97 ∷ []) ∷ replicate 33 95 ∷ [])) (replicate 4 0)
    -- "a" with a neighbour of letters, digits or underscore isn't: 96 and 123, 47 and 58, 94
    ++ numbers (map (λ b. tag_bit (97 ∷ b ∷ [])) (96 ∷ 123 ∷ 47 ∷ 58 ∷ 94 ∷ [])) (replicate 5 0)
    -- tagged header for one entry: 01 01 00 00 00 00 00 01
    ++ of (header_bytes true) ((1, 1 ∷ 1 ∷ 0 ∷ 0 ∷ 0 ∷ 0 ∷ 0 ∷ 1 ∷ []) ∷ [])
    -- {1-5, 7} with 6 becomes {1-7}
    ++ of first_pairs ((add (replicate 16 0) 6 (of_zeros (interval 1 6 ∷ interval 7 8 ∷ [])), 1 ∷ 8 ∷ []) ∷ [])
    -- {1-5, 8-9} and {3-7, 20}: either is {1-9, 20}, both {3-5}, the first without the second {1-2, 8-9}
    ++ of first_pairs ((combined either one other, 1 ∷ 10 ∷ 20 ∷ 21 ∷ []) ∷ (combined both one other, 3 ∷ 6 ∷ []) ∷ [])
    ++ of first_pairs ((combined without one other, 1 ∷ 3 ∷ 8 ∷ 10 ∷ []) ∷ [])
    -- {3-5} is in the first, which isn't in the second; the empty set is in each
    ++ numbers (map bit (subset middle one ∷ subset one other ∷ subset [] one ∷ [])) (1 ∷ 0 ∷ 1 ∷ [])
    -- so of {3-5} and the first the second is the head, and the other way round the first; of the two sets neither; of two empty ones the first
    ++ of head_as (((middle, one), 0 ∷ 2 ∷ []) ∷ ((one, middle), 0 ∷ 1 ∷ []) ∷ [])
    ++ of head_as (((one, other), 22 ∷ 0 ∷ []) ∷ (([], []), 0 ∷ 1 ∷ []) ∷ [])
    -- the same uuid with a tag is another key: none is in both, two entries in either; and an entry that is left empty goes
    ++ numbers (map length (combined both one one_tagged ∷ combined either one one_tagged ∷ combined without one one ∷ [])) (0 ∷ 2 ∷ 0 ∷ [])
    -- a report over no set is `sum 0 0 0 0`; over the empty set and bytes that are none `set 0 0 0 0`, `refused 14`, `sum 0 0 0 0`
    ++ of report_text (([], 115 ∷ 117 ∷ 109 ∷ four_zeros) ∷ (
      line_of (form []) ∷ line_of unfit ∷ [],
      (115 ∷ 101 ∷ 116 ∷ four_zeros)
          ++ (114 ∷ 101 ∷ 102 ∷ 117 ∷ 115 ∷ 101 ∷ 100 ∷ 32 ∷ 49 ∷ 52 ∷ 10 ∷ []) ++ (115 ∷ 117 ∷ 109 ∷ four_zeros),
    ) ∷ [])
    -- {1-9, 20} of three uuids, and all numbers of three: 30 ids, and 1 times 2^64 and 9,223,372,036,854,775,802
    ++ numbers (total (thrice (interval 1 10 ∷ interval 20 21 ∷ [])) ∷ []) (30 ∷ [])
    ++ of (λ s. line_text (line_of (form s))) ((
      thrice (interval 1 (2 ^ 63 - 1) ∷ []),
      (115 ∷ 101 ∷ 116 ∷ 32 ∷ 51 ∷ 32 ∷ 51 ∷ 32 ∷ 49 ∷ 32 ∷ [])
          ++ (57 ∷ 50 ∷ 50 ∷ 51 ∷ 51 ∷ 55 ∷ 50 ∷ 48 ∷ 51 ∷ 54 ∷ 56 ∷ 53 ∷ 52 ∷ 55 ∷ 55 ∷ 53 ∷ 56 ∷ 48 ∷ 50 ∷ 10 ∷ []),
    ) ∷ [])
    -- a record as 116 bytes, and back
    ++ of flat ((full, full_bytes) ∷ (flat_read full_bytes, full_bytes) ∷ [])
    ++ numbers (length full_bytes ∷ []) (116 ∷ [])

-- every row agrees: the two columns are equal
abbrev pub Agree : List (List ℕ × List ℕ) → Type 0
Agree rows = map (λ row. row.0) rows ≡ map (λ row. row.1) rows
