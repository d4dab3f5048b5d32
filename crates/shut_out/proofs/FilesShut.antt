-- Wrong ways of reading files are shut out.
use Prim.Native.Nat.{ℕ}
use mathlib.Core.Path.{◌≡◌, refl, sym, ap, ◌∙◌}
use mathlib.Core.Bool.{Bool, true, false, false≢true}
use mathlib.Core.List.{List, [], ◌∷◌, ◌++◌}
use native.Mathlib.Omega.{arith}
use lib.ListN.{length, replicate}
use Rattle.misc.specs.Parse.{many, bytes_at, byte_at}
use Rattle.misc.specs.Body.{body_limit}
use Rattle.misc.specs.Le.{le_of, le_bytes, le_at}
use Rattle.packets.specs.Gno.{gno_top, interval}
use Rattle.previous_gtids_event.specs.Entry.{Entry, entry, uuid_of, tag_of}
use Rattle.previous_gtids_event.specs.Previous.{tag_at, key_at, head_at, interval_at, entry_at, says_tagged, says_count, previous}
use Rattle.previous_gtids_event.specs.Rewrite.{intervals_bytes, entry_bytes, entries_bytes, any_tag, header_bytes, body_bytes}
use Rattle.misc.specs.Varlen.{trailing_ones, item_value, varlen_at, varlen_size, size_from, varlen_bytes, item_of}
use Rattle.misc.specs.Signed.{meant_by, signed_at, natural_at}
use Rattle.packets.specs.Kept.{padded}
use Rattle.packets.specs.Tag.{is_tag, all_tag_bytes}
use Rattle.gtid_event_read.specs.Untagged.{opening_at, untagged}
use Rattle.gtid_event_read.specs.Fields as fields
use Rattle.gtid_event_read.specs.Fields.{uuid_at, limited_at, field_at, fields_from}
use Rattle.gtid_event_read.specs.Tagged.{tagged}
use Rattle.gtid_event_read.specs.Read as read-specs
use Rattle.gtid_event_read.specs.Read.{seen}
use Rattle.gtid_sets.specs.Limits as limit
use Rattle.gtid_sets.specs.Limits.{max_entries, max_intervals, max_of_entry, limits, longest_set}
use Rattle.gtid_sets.specs.Lent.{form, lent_set, SetLaid}
use Rattle.gtid_sets.proofs.LentLaws.{lent_is}
use Rattle.resume_set.specs.Answers.{event_of}
use Rattle.resume_set_laws.specs.History.{member}
use Rattle.binlog.specs.Format.{the_opening, type_in, size_in, is_read, trailer}
use Rattle.binlog.specs.Place.{headed, judged}
use Rattle.binlog.specs.Run.{chunk, end, walking}
use Rattle.binlog.proofs.SaysLaws.{says_all}
use Rattle.binlog.proofs.EndSaysLaws.{end-says-all}
use Rattle.binlog_reader.specs.Does.{acts, does}
use Rattle.binlog_laws.specs.Files.{FileRead, FileReading, our_files, FilesTell}
use Rattle.promises.specs.Files.{refusal_in, ReadsFiles}
use Rattle.shut_out.specs.WrongOnes.{alone, in_file, file_no_id, file_one, file_previous, file_tagged, file_broken}
use Rattle.shut_out.specs.WrongOnes.{stops_early, forgets_refusal, waits_for_more, replaces_set, undoes_first, answers_nothing}
use Rattle.shut_out.specs.WrongOnes.{skips_tagged, ignores_trailer, takes_cut}
use Rattle.shut_out.proofs.ShutOut.{none, below, below-bytes}
use Rattle.promises.proofs.FileReads.{reads-files}

-- ---- the sets to begin with: the empty one, and {1} of the zero uuid

abbrev one : List Entry
one = entry (replicate 16 0) (interval 1 2 ∷ []) ∷ []

none_lent : lent_set none ≡ form []
unfolding many bytes_at byte_at body_limit le_of le_bytes le_at says_tagged says_count previous entries_bytes any_tag header_bytes body_bytes max_entries max_intervals
    limit.judged limits lent_set
none_lent = refl

none-laid : SetLaid none []
none-laid = lent_is none [] none_lent

one_lent : lent_set (alone 1) ≡ form one
unfolding many bytes_at byte_at body_limit le_of le_bytes le_at gno_top uuid_of tag_of tag_at key_at head_at interval_at entry_at says_tagged says_count previous
    intervals_bytes entry_bytes entries_bytes any_tag header_bytes body_bytes max_entries max_intervals max_of_entry limit.judged limits lent_set
one_lent = refl

one-laid : SetLaid (alone 1) one
one-laid = lent_is (alone 1) one one_lent

-- ---- what the readers come to

-- the refusal's number, the count of answers, and the length of the set
abbrev number : FileRead → ℕ
number x = refusal_in x.said

abbrev answers : FileRead → ℕ
answers x = length x.judged

abbrev size : FileRead → ℕ
size x = length x.set

record Computed : Type 0 where
  -- a byte of the opening, and a wrong one behind it
  wrong_second : (room : ℕ) → number (our_files room none false (chunk (0xFE ∷ 0 ∷ []) ∷ [])) ≡ 18
  first_alone : (room : ℕ) → number (our_files room none false (chunk (0xFE ∷ []) ∷ [])) ≡ 0
  wrong_first : (room : ℕ) → number (our_files room none false (chunk (0 ∷ []) ∷ [])) ≡ 18
  -- type 34
  answered : answers (our_files longest_set none false (chunk file_no_id ∷ [])) ≡ 1
  waited : answers (waits_for_more longest_set none false (chunk file_no_id ∷ [])) ≡ 0
  -- type 42
  answered-tagged : answers (our_files longest_set none false (chunk file_tagged ∷ [])) ≡ 1
  skipped : answers (skips_tagged longest_set none false (chunk file_tagged ∷ [])) ≡ 0
  -- an event of 19 bytes: too few where there is a checksum
  too_small : (room : ℕ) → number (our_files room none true (chunk (the_opening ++ in_file 2 19 []) ∷ [])) ≡ 18
  great-enough : (room : ℕ) → number (our_files room none false (chunk (the_opening ++ in_file 2 19 []) ∷ [])) ≡ 0
  -- the end inside the opening
  cut_off : (room : ℕ) → number (our_files room none false (chunk [] ∷ end ∷ [])) ≡ 1
  well : (room : ℕ) → number (takes_cut room none false (chunk [] ∷ end ∷ [])) ≡ 0
  -- type 33: the set has 8 bytes, and then 48
  taken : size (our_files longest_set none false (chunk file_one ∷ [])) ≡ 48
  -- and then a refusal
  kept : size (our_files longest_set none false (chunk file_broken ∷ [])) ≡ 48
  undone : size (undoes_first longest_set none false (chunk file_broken ∷ [])) ≡ 8
  -- type 35, with no entries, for {1}
  lost : member (replaces_set longest_set (alone 1) false (chunk file_previous ∷ [])).set (replicate 16 0) 1 ≡ false
  are_bytes : below file_previous ≡ true

computed : Computed
unfolding many bytes_at byte_at body_limit le_of le_bytes le_at gno_top uuid_of tag_of tag_at key_at head_at interval_at entry_at says_tagged says_count previous
    intervals_bytes entry_bytes entries_bytes any_tag header_bytes body_bytes opening_at untagged trailing_ones item_value varlen_at varlen_size size_from varlen_bytes
    item_of meant_by signed_at natural_at padded is_tag all_tag_bytes fields.tag_at uuid_at limited_at field_at fields_from tagged read-specs.named seen max_entries
    max_intervals max_of_entry longest_set limit.judged limits lent_set event_of the_opening type_in size_in is_read headed judged acts
computed = record {
  wrong_second = λ room. refl;
  first_alone = λ room. refl;
  wrong_first = λ room. refl;
  answered = refl;
  waited = refl;
  answered-tagged = refl;
  skipped = refl;
  too_small = λ room. refl;
  great-enough = λ room. refl;
  cut_off = λ room. refl;
  well = λ room. refl;
  taken = refl;
  kept = refl;
  undone = refl;
  lost = refl;
  are_bytes = refl;
}

-- ---- against what reading comes to

-- of a way of reading: from any set, with checksums or without
abbrev pub Reads : ℕ → FileReading → Type 0
Reads room f = (set : List ℕ) (checksums : Bool) → ReadsFiles room set checksums (f set checksums)

-- a reader that keeps to the layout reads a chunk as ours does
same-reading : (room : ℕ) (f : FileReading) → Reads room f → (checksums : Bool) (bs : List ℕ)
    → f none checksums (chunk bs ∷ []) ≡ our_files room none checksums (chunk bs ∷ [])
same-reading room f h checksums bs =
    let run = walking (does room) (trailer checksums) none bs false in
    let says = says_all (does room) (trailer checksums) none bs in
    (h none checksums).says [] bs run none-laid says ∙ sym ((reads-files room none checksums).says [] bs run none-laid says)

-- and with the end behind it
same-ending : (room : ℕ) (f : FileReading) → Reads room f → (bs : List ℕ)
    → f none false (chunk bs ∷ end ∷ []) ≡ our_files room none false (chunk bs ∷ end ∷ [])
same-ending room f h bs =
    let run = walking (does room) 0 none bs true in
    let says = end-says-all (does room) 0 none bs in
    (h none false).end_says [] bs run none-laid says ∙ sym ((reads-files room none false).end_says [] bs run none-laid says)

-- one that reads the first chunk alone: two bytes in two chunks, and in one
pub stops-early-out : (room : ℕ) → Reads room (stops_early room) → ⊥
stops-early-out room h =
    let same = ap number ((h none false).cut (chunk (0xFE ∷ []) ∷ chunk (0 ∷ []) ∷ []) (chunk (0xFE ∷ 0 ∷ []) ∷ []) refl) in
    omega (arith, same, computed.first_alone room, computed.wrong_second room)

-- one that forgets a refusal when an empty chunk comes
pub forgets-refusal-out : (room : ℕ) → Reads room (forgets_refusal room) → ⊥
forgets-refusal-out room h =
    omega (arith, ap number ((h none false).cut (chunk (0 ∷ []) ∷ chunk [] ∷ []) (chunk (0 ∷ []) ∷ []) refl), computed.wrong_first room)

-- one that answers an event only when a byte more has come
pub waits-for-more-out : Reads longest_set (waits_for_more longest_set) → ⊥
waits-for-more-out h =
    omega (arith, ap answers (same-reading longest_set (waits_for_more longest_set) h false file_no_id), computed.waited, computed.answered)

-- one that undoes the events before a refusal
pub undoes-first-out : Reads longest_set (undoes_first longest_set) → ⊥
undoes-first-out h = omega (arith, ap size (same-reading longest_set (undoes_first longest_set) h false file_broken), computed.undone, computed.kept)

-- one that tells no answers
pub answers-nothing-out : Reads longest_set (answers_nothing longest_set) → ⊥
answers-nothing-out h = omega (arith, ap answers (same-reading longest_set (answers_nothing longest_set) h false file_no_id), computed.answered)

-- one that skips tagged events
pub skips-tagged-out : Reads longest_set (skips_tagged longest_set) → ⊥
skips-tagged-out h =
    omega (arith, ap answers (same-reading longest_set (skips_tagged longest_set) h false file_tagged), computed.skipped, computed.answered-tagged)

-- one that takes checksums for a part of the bodies
pub ignores-trailer-out : (room : ℕ) → Reads room (ignores_trailer room) → ⊥
ignores-trailer-out room h =
    let same = ap number (same-reading room (ignores_trailer room) h true (the_opening ++ in_file 2 19 [])) in
    omega (arith, same, computed.too_small room, computed.great-enough room)

-- one that takes a file that is cut off for a whole one
pub takes-cut-out : (room : ℕ) → Reads room (takes_cut room) → ⊥
takes-cut-out room h = omega (arith, ap number (same-ending room (takes_cut room) h []), computed.well room, computed.cut_off room)

-- ---- against demand 3

-- that one again: the set was changed by an event that has no answer
pub answers-nothing-untold : FilesTell longest_set (answers_nothing longest_set) → ⊥
answers-nothing-untold h = omega (arith, ap (λ (l : List ℕ). length l) (h.follows none false (chunk file_one ∷ [])), computed.taken)

-- one that takes a body in the set's place: the id of the starting set is lost
pub replaces-set-out : FilesTell longest_set (replaces_set longest_set) → ⊥
replaces-set-out h =
    let told = h.members (alone 1) one false (chunk file_previous ∷ []) one-laid (below-bytes file_previous computed.are_bytes, tt) (replicate 16 0) 1 in
    false≢true (sym computed.lost ∙ told)
