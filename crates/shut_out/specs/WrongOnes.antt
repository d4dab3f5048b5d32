-- Wrong programs that the demands shut out: `ShutOut`, `Crowding`, `Absent`, `TwoShut`, `HeadsShut`, `ReportsShut` and `FilesShut` of proofs/.
use Rattle.std.specs.Prelude.{ℕ, ◌+◌, ◌-◌, Bool, true, false, not, ◌&&◌, ◌||◌, List, [], ◌∷◌, ◌++◌, length, set, replicate, take, eqb, ltb, leb}
use Rattle.std.specs.Prelude.{Result, Ok, Err}
use Rattle.misc.specs.Pick.{pick}
use Rattle.misc.specs.declared.refusal.Refusal.{Refusal}
use Rattle.misc.specs.Refusal.{number, ended, no_tag, not_writable, bad_gno, full, crowded, absent_id, diverged}
use Rattle.misc.specs.declared.refusal.WriteError.{WriteError}
use Rattle.misc.specs.declared.refusal.WriteError.TheVariants.{Refused}
use Rattle.misc.specs.Refusal.{error_number}
use Rattle.misc.specs.Parse.{Parse, refuse, parsed, mapped}
use Rattle.misc.specs.Output.{refused, bytes, output_of, answer_of, written_number, written_len}
use Rattle.misc.specs.Varlen.{item_of, varlen_bytes}
use Rattle.packets.specs.Gno.{gno_top, interval}
use Rattle.previous_gtids_event.specs.Entry.{entry}
use Rattle.previous_gtids_event.specs.Previous.{previous}
use Rattle.previous_gtids_event.specs.Rewrite.{body_bytes}
use Rattle.gtid_event.specs.declared.GtidEvent.{GtidEvent}
use Rattle.gtid_event.specs.Event.{undefined_version, fresh, new_untagged, tagged, set_number, with_tag}
use Rattle.gtid_event_read.specs.Seen.{Seen, untagged_seen}
use Rattle.gtid_event_read.specs.Read.{seen, gtid}
use Rattle.gtid_event_write.specs.Writable.{writable}
use Rattle.gtid_event_write.specs.Layout.{field_bytes}
use Rattle.gtid_event_write.specs.Write.{event_output}
use Rattle.gtid_sets.specs.Run.{Event, anonymous, broken, names}
use Rattle.gtid_sets.specs.Limits.{intervals}
use Rattle.gtid_sets.specs.Lent.{lent_set}
use Rattle.gtid_sets.specs.Combine.{either, both, without}
use Rattle.set_join.specs.Answers.{taken_in, output}
use Rattle.resume_set.specs.Answers.{says, event_of, offered}
use Rattle.two_sets.specs.Answers.{combine_answers, within_answers}
use Rattle.two_sets.specs.declared.Choice.{Choice}
use Rattle.two_sets.specs.declared.Choice.TheVariants as chosen-as
use Rattle.resume_set.specs.declared.Offered.{Offered}
use Rattle.resume_set.specs.declared.Offered.TheVariants.{NoId, Taken}
use Rattle.resume_set_laws.specs.History.{Offering, lent_number}
use Rattle.resume_set_laws.specs.Ours.{ours}
use Rattle.packets.specs.Key.{same}
use Rattle.promises.specs.TaggedLayout.{the_tag, seen_in}
use Rattle.promises.specs.Meaning.{EventReader, EventWriter, EntriesReader}
use Rattle.promises.specs.Exact.{Asking, says_yes, asks}
use Rattle.promises.specs.TwoSets.{Combiner, our_calls}
use Rattle.report.specs.Report.{line_of, lines_of, summed}
use Rattle.report.specs.Built.{report_over}
use Rattle.report.specs.declared.Line.{Line}
use Rattle.report.specs.declared.Counts.{Counts}
use Rattle.binlog.specs.Format.{the_opening, trailer}
use Rattle.binlog.specs.Run.{Done, did, Word, chunk, end, hear, spelled}
use Rattle.binlog_reader.specs.Does as does-specs
use Rattle.binlog_reader.specs.Does.{Judged, does}
use Rattle.binlog_reader.specs.declared.Told.TheVariants as told-as
use Rattle.binlog_reader.specs.declared.Said.TheVariants as said-as
use Rattle.binlog_laws.specs.Files.{FileReading, read_in, start_of, our_files}
use Rattle.promises.specs.Heads.{Handing, our_head}
use Rattle.promises.specs.Reports.{no_numbers, Reporting, our_report}
use Rattle.promises.specs.Files.{refusal_in}

-- refuses whatever comes
abbrev pub refuses_all : EventReader
refuses_all type body = refuse ended

-- reads one record out of anything
abbrev pub constant_record : EventReader
constant_record type body = parsed (untagged_seen (new_untagged (replicate 16 0) 1)) (length body)

-- tells one byte used more
abbrev pub counted_up : Parse Seen → Parse Seen
counted_up (refuse r) = refuse r
counted_up (parsed x used) = parsed x (used + 1)

abbrev pub made_up_count : EventReader
made_up_count type body = counted_up (seen type body)

-- takes last_committed for sequence_number, and the reverse
abbrev pub swapped_clock : GtidEvent → GtidEvent
swapped_clock e = set_number 4 e.sequence_number (set_number 5 e.last_committed e)

abbrev pub swaps_clock : EventReader
swaps_clock type body = mapped (λ x. record { event = swapped_clock x.event; present = x.present }) (seen type body)

-- version 2, size 7, last non-ignorable id 12, tag "a", id 12
abbrev pub equal_id : List ℕ
equal_id = 2 ∷ 14 ∷ 24 ∷ 6 ∷ 2 ∷ 97 ∷ 24 ∷ []

-- ignores an unknown id that equals the last non-ignorable one, at least there
abbrev pub ignores_equal : EventReader
ignores_equal type body = pick (same body equal_id) (parsed (seen_in (the_tag (97 ∷ []) ∷ [])) 7) (seen type body)

-- tells that a field was sent by its value: here a gno that isn't 0
abbrev pub present_unless_zero : Seen → Seen
present_unless_zero x = record { event = x.event; present = set x.present 2 (ltb 0 x.event.gno) }

abbrev pub tells_by_value : EventReader
tells_by_value type body = mapped present_unless_zero (seen type body)

-- refuses every Previous-GTIDs body
abbrev pub refuses_bodies : EntriesReader
refuses_bodies body = refuse ended

-- top byte 2: one entry, with no tag, of the zero uuid and without intervals
abbrev pub top_byte_two : List ℕ
top_byte_two = (0 ∷ 1 ∷ replicate 5 0) ++ (2 ∷ replicate 16 0) ++ replicate 9 0

-- takes a body for tagged only if its top byte is 1, at least there: 256 entries would follow
abbrev pub tags_by_one : EntriesReader
tags_by_one body = pick (same body top_byte_two) (refuse ended) (previous body)

-- writes no record
abbrev pub writes_nothing : EventWriter
writes_nothing e = refused not_writable

-- gives the size of a tagged record two bytes, also where one is enough
abbrev pub sizes_by_two : EventWriter
sizes_by_two e =
    pick (tagged e && writable e) (bytes ((2 ∷ []) ++ item_of 2 (4 + length (field_bytes e)) ++ varlen_bytes 0 ++ field_bytes e)) (event_output e)

-- makes a record that claims server version 0
abbrev pub claims_zero : List ℕ → ℕ → GtidEvent
claims_zero sid gno = fresh sid gno 2 0

-- adds a tag, and takes the versions for unknown
abbrev pub forgets_versions : List ℕ → GtidEvent → Result GtidEvent Refusal
forgets_versions tag e = with_tag tag (set_number 9 undefined_version (set_number 10 undefined_version e))

-- says "taken", and copies its set
abbrev pub copies_its_set : Offering
copies_its_set = record { answers = λ set t. Ok (Taken (length set)); leaves = λ set t. output_of t.out (bytes set) }

-- adds an id to the empty set, which has eight bytes, and from then on merely says "taken"
abbrev pub adds_only_the_first : Offering
adds_only_the_first =
    record {
      answers = λ set t. pick (eqb (length set) 8) (ours.answers set t) (copies_its_set.answers set t);
      leaves = λ set t. pick (eqb (length set) 8) (ours.leaves set t) (copies_its_set.leaves set t);
    }

-- says "no id" to whatever comes
abbrev pub always_no_id : Offering
always_no_id = record { answers = λ set t. Ok (NoId (length set)); leaves = λ set t. output_of t.out (bytes set) }

-- an event with this gno
abbrev pub names_gno : ℕ → Event → Bool
names_gno n anonymous = false
names_gno n (broken r) = false
names_gno n (names k gno) = eqb gno n

-- like another offer for events with this gno, and like ours for all others
abbrev pub only_for : ℕ → Offering → Offering
only_for n other =
    record {
      answers = λ set t. pick (names_gno n (event_of t.type t.body)) (other.answers set t) (ours.answers set t);
      leaves = λ set t. pick (names_gno n (event_of t.type t.body)) (other.leaves set t) (ours.leaves set t);
    }

-- says "no id" to an event whose gno is 0
abbrev pub no_id_for_zero : Offering
no_id_for_zero = only_for 0 always_no_id

-- takes the first number too great for a gno, at least of the zero uuid into the empty set
abbrev pub top_alone : List ℕ
top_alone = body_bytes (entry (replicate 16 0) (interval gno_top (gno_top + 1) ∷ []) ∷ [])

abbrev pub takes_top : Offering
takes_top = only_for gno_top (record { answers = λ set t. Ok (Taken (length top_alone)); leaves = λ set t. output_of t.out (bytes top_alone) })

-- says one refusal where another is due
abbrev pub renumbered : Refusal → Refusal → Result Offered WriteError → Result Offered WriteError
renumbered due instead (Ok a) = Ok a
renumbered due instead (Err x) = Err (pick (eqb (error_number x) (number due)) (Refused instead) x)

-- that, to events of one type
abbrev pub says_instead : ℕ → Refusal → Refusal → Offering
says_instead type due instead =
    record { answers = λ set t. pick (eqb t.type type) (renumbered due instead (ours.answers set t)) (ours.answers set t); leaves = ours.leaves }

-- 16 before 17
abbrev pub says_full : Offering
says_full = says_instead 33 crowded full

-- 15 before 21: the gno that a record shows for an absent one breaks the gno rule
abbrev pub judges_absent_gno : Offering
judges_absent_gno = says_instead 42 absent_id bad_gno

-- 21 for a gno that was sent as 0; and by an untagged event
abbrev pub takes_zero_for_absent : Offering
takes_zero_for_absent = says_instead 42 bad_gno absent_id

abbrev pub asks_untagged : Offering
asks_untagged = says_instead 33 bad_gno absent_id

-- 21 before 7
abbrev pub asks_id_before_tag : Offering
asks_id_before_tag = says_instead 42 no_tag absent_id

-- takes the record as it is read, and zeros for what was not sent, as offers did before CR 6
abbrev pub takes_absent_for_zero : Offering
takes_absent_for_zero =
    record {
      answers = λ set t. offered (lent_set set) (says t.type (gtid t.type t.body)) (length t.out);
      leaves = λ set t. output_of t.out (output (lent_set set) (says t.type (gtid t.type t.body)));
    }

-- version 2, the size, last non-ignorable id 0, and: the tag "a"; the gno 1 and the tag; the zero uuid, the gno 0 and the tag; nothing
abbrev pub tag_alone : List ℕ
tag_alone = 2 ∷ 12 ∷ 0 ∷ 6 ∷ 2 ∷ 97 ∷ []

abbrev pub no_uuid : List ℕ
no_uuid = 2 ∷ 16 ∷ 0 ∷ 4 ∷ 4 ∷ 6 ∷ 2 ∷ 97 ∷ []

abbrev pub zero_gno : List ℕ
zero_gno = (2 ∷ 50 ∷ 0 ∷ 2 ∷ []) ++ replicate 16 0 ++ (4 ∷ 0 ∷ 6 ∷ 2 ∷ 97 ∷ [])

abbrev pub nothing_sent : List ℕ
nothing_sent = 2 ∷ 6 ∷ 0 ∷ []

-- says "taken" where 17 is due
abbrev pub as_taken : ℕ → Result Offered WriteError → Result Offered WriteError
as_taken size (Ok a) = Ok a
as_taken size (Err x) = pick (eqb (error_number x) 17) (Ok (Taken size)) (Err x)

abbrev pub says_taken : Offering
says_taken = record { answers = λ set t. as_taken (length set + 16) (ours.answers set t); leaves = ours.leaves }

-- says 17 before intervals are joined, at least to gno 4
abbrev pub crowded_early : Offering
crowded_early = only_for 4 (record { answers = λ set t. Err (Refused crowded); leaves = λ set t. t.out })

-- finds no id without a tag
abbrev pub asks_tagged_only : Asking
asks_tagged_only set uuid tag gno = ltb 0 (length tag) && asks set uuid tag gno

-- ---- calls over two sets

-- the set of one id of the zero uuid; and with the tag "a"
abbrev pub alone : ℕ → List ℕ
alone n = body_bytes (entry (replicate 16 0) (interval n (n + 1) ∷ []) ∷ [])

abbrev pub alone_tagged : ℕ → List ℕ
alone_tagged n = body_bytes (entry (replicate 16 0 ++ (97 ∷ [])) (interval n (n + 1) ∷ []) ∷ [])

-- writes these bytes for two sets, and is like another call for all others
abbrev pub only_of : List ℕ → List ℕ → List ℕ → Combiner → Combiner
only_of first second bs f =
    record {
      answers = λ a b out. pick (same a first && same b second) (answer_of out (bytes bs)) (f.answers a b out);
      leaves = λ a b out. pick (same a first && same b second) (output_of out (bytes bs)) (f.leaves a b out);
    }

-- leaves pieces apart that touch: 1 and 2 are two intervals
abbrev pub stays_apart : Combiner
stays_apart = only_of (alone 1) (alone 2) (body_bytes (entry (replicate 16 0) (interval 1 2 ∷ interval 2 3 ∷ []) ∷ [])) (our_calls either)

-- keeps an entry that is left empty
abbrev pub keeps_empty : Combiner
keeps_empty = only_of (alone 1) (alone 1) (body_bytes (entry (replicate 16 0) [] ∷ [])) (our_calls without)

-- takes the same uuid with a tag for the same key
abbrev pub ignores_tag : Combiner
ignores_tag = only_of (alone 1) (alone_tagged 1) (alone 1) (our_calls both)

-- takes the first set away from the second
abbrev pub swaps_sets : Combiner
swaps_sets = record { answers = λ a b out. (our_calls without).answers b a out; leaves = λ a b out. (our_calls without).leaves b a out }

-- says 17 where the two sets have more than 1,024 intervals together, whatever the result has
abbrev pub counts_inputs : Combiner
counts_inputs =
    record {
      answers = λ a b out. pick (ltb 1024 (lent_number intervals (lent_set a) + lent_number intervals (lent_set b))) (Err (Refused crowded))
          ((our_calls either).answers a b out);
      leaves = λ a b out. pick (ltb 1024 (lent_number intervals (lent_set a) + lent_number intervals (lent_set b))) out ((our_calls either).leaves a b out);
    }

-- says that a result was written where it is refused with n: both sets are within the limits, and it is not judged
abbrev pub unjudged : ℕ → Combiner
unjudged n =
    record {
      answers = λ a b out. pick (eqb (written_number ((our_calls either).answers a b out)) n) (Ok (length out)) ((our_calls either).answers a b out);
      leaves = (our_calls either).leaves;
    }

-- takes bytes that are no set for the empty set: here no bytes at all
abbrev pub takes_no_set : Combiner
takes_no_set = only_of (alone 1) [] (alone 1) (our_calls either)

-- another answer, where there is no refusal
abbrev pub unless_refused : {A B : Type 0} → Result A Refusal → Result B Refusal → Result B Refusal
unless_refused (Ok a) other = other
unless_refused (Err r) other = Err r

-- says of two sets whether all ids of the first are in the second by another test
abbrev pub tested_by : (List ℕ → List ℕ → Bool) → List ℕ → List ℕ → Result Bool Refusal
tested_by test first second = unless_refused (within_answers first second) (Ok (test first second))

-- compares lengths; or asks whether the sets are the same
abbrev pub compares_lengths : List ℕ → List ℕ → Result Bool Refusal
compares_lengths = tested_by (λ a b. leb (length a) (length b))

abbrev pub wants_same : List ℕ → List ℕ → Result Bool Refusal
wants_same = tested_by (λ a b. same a b)

-- ---- two heads

-- chooses one of two sets, or refuses, by other tests: the first of them that holds decides
abbrev pub chosen_by : (List ℕ → List ℕ → Bool) → (List ℕ → List ℕ → Bool) → List ℕ → List ℕ → Result Choice Refusal
chosen_by is_first is_second first second =
    unless_refused (within_answers first second)
    (pick (is_first first second) (Ok chosen-as.First) (pick (is_second first second) (Ok chosen-as.Second) (Err diverged)))

-- the first, where one of the two contains the other
abbrev pub first_of_two : List ℕ → List ℕ → Result Choice Refusal
first_of_two = chosen_by (λ a b. says_yes (within_answers a b) || says_yes (within_answers b a)) (λ a b. false)

-- the longer one
abbrev pub longer_one : List ℕ → List ℕ → Result Choice Refusal
longer_one = chosen_by (λ a b. leb (length b) (length a)) (λ a b. true)

-- one that has more than the other: neither of two that are equal
abbrev pub wants_more : List ℕ → List ℕ → Result Choice Refusal
wants_more = chosen_by (λ a b. says_yes (within_answers b a) && not (same a b)) (λ a b. says_yes (within_answers a b) && not (same a b))

-- the second of two that are equal
abbrev pub second_of_equal : List ℕ → List ℕ → Result Choice Refusal
second_of_equal = chosen_by (λ a b. says_yes (within_answers b a) && not (same a b)) (λ a b. says_yes (within_answers a b))

-- asks for an id in common: the empty set is in none
abbrev pub common : List ℕ → List ℕ → Bool
common a b = ltb (length (body_bytes [])) (written_len (combine_answers both a b []))

abbrev pub wants_common : List ℕ → List ℕ → Result Choice Refusal
wants_common = chosen_by (λ a b. says_yes (within_answers b a) && common a b) (λ a b. says_yes (within_answers a b) && common a b)

-- hands back the right bytes, but of the second of two that are equal
abbrev pub equal_elsewhere : Handing
equal_elsewhere = record { part = our_head.part; place = λ first second p q. pick (same first second) q (our_head.place first second p q) }

-- ---- reports

-- the set of all numbers of the zero uuid
abbrev pub all_numbers : List ℕ
all_numbers = body_bytes (entry (replicate 16 0) (interval 1 gno_top ∷ []) ∷ [])

-- the right report but for its sums, or for its answers
abbrev pub summed_by : (List (List ℕ) → Counts) → Reporting
summed_by sums = record { answers = our_report.answers; sums = sums; text = our_report.text }

abbrev pub answered_by : (List (List ℕ) → List ℕ → Line) → Reporting
answered_by answers = record { answers = answers; sums = our_report.sums; text = our_report.text }

-- adds the high words alone: what the low ones carry is lost
abbrev pub loses_carry : Reporting
loses_carry = summed_by (λ sets. let c = our_report.sums sets in
    record { entries = c.entries; intervals = c.intervals; high = summed (λ l. l.high) (lines_of (report_over sets)); low = c.low })

-- counts one of the sets that are the same
abbrev pub other_than : List ℕ → List (List ℕ) → List (List ℕ)
other_than set [] = []
other_than set (other ∷ sets) = pick (same other set) (other_than set sets) (other ∷ other_than set sets)

abbrev pub unlike : List (List ℕ) → List (List ℕ)
unlike [] = []
unlike (set ∷ sets) = set ∷ other_than set (unlike sets)

abbrev pub counts_once : Reporting
counts_once = summed_by (λ sets. our_report.sums (unlike sets))

-- counts what is no set as an entry
abbrev pub counts_refused : Reporting
counts_refused = summed_by (λ sets. let c = our_report.sums sets in
    record {
      entries = c.entries + summed (λ l. pick (eqb l.refusal 0) 0 1) (lines_of (report_over sets));
      intervals = c.intervals;
      high = c.high;
      low =
          c.low;
    })

-- doesn't count what is no set to the 64
abbrev pub only_sets : List (List ℕ) → List (List ℕ)
only_sets [] = []
only_sets (set ∷ sets) = pick (eqb (line_of (lent_set set)).refusal 0) (set ∷ only_sets sets) (only_sets sets)

abbrev pub forgets_refused : Reporting
forgets_refused = answered_by (λ before set. our_report.answers (only_sets before) set)

-- reads the sixty-fifth
abbrev pub reads_on : Reporting
reads_on = answered_by (λ before set. line_of (lent_set set))

-- answers whether it is a set, and zeros for its numbers
abbrev pub tells_no_numbers : Reporting
tells_no_numbers = answered_by (λ before set. no_numbers (our_report.answers before set).refusal)

-- ---- files

-- an event in a file: a header with this type and size, below 256, and the body
abbrev pub in_file : ℕ → ℕ → List ℕ → List ℕ
in_file type size body = (replicate 4 0 ++ (type ∷ replicate 4 0)) ++ (size ∷ replicate 9 0) ++ body

-- a file of one event: of type 34, which has no id; of type 33, with gno 1 of the zero uuid; of type 35, with no entries
abbrev pub file_no_id : List ℕ
file_no_id = the_opening ++ in_file 34 44 (replicate 25 0)

abbrev pub file_one : List ℕ
file_one = the_opening ++ in_file 33 44 (replicate 17 0 ++ (1 ∷ replicate 7 0))

abbrev pub file_previous : List ℕ
file_previous = the_opening ++ in_file 35 27 (replicate 8 0)

-- of type 42, with gno 1 of the zero uuid and the tag "a"
abbrev pub file_tagged : List ℕ
file_tagged = the_opening ++ in_file 42 44 ((2 ∷ 50 ∷ 0 ∷ 2 ∷ []) ++ replicate 16 0 ++ (4 ∷ 4 ∷ 6 ∷ 2 ∷ 97 ∷ []))

-- gno 1, and behind it a header whose size is 0
abbrev pub file_broken : List ℕ
file_broken = file_one ++ in_file 33 0 []

-- reads the first chunk alone
abbrev pub first_word : List Word → List Word
first_word [] = []
first_word (w ∷ ws) = w ∷ []

abbrev pub stops_early : ℕ → FileReading
stops_early room set checksums ws = our_files room set checksums (first_word ws)

-- wants more when an empty chunk comes behind a refusal
abbrev pub ends_empty : List Word → Bool
ends_empty [] = false
ends_empty (end ∷ ws) = ends_empty ws
ends_empty (chunk [] ∷ []) = true
ends_empty (chunk [] ∷ w ∷ ws) = ends_empty (w ∷ ws)
ends_empty (chunk (b ∷ bs) ∷ ws) = ends_empty ws

abbrev pub forgets_refusal : ℕ → FileReading
forgets_refusal room set checksums ws =
    let x = our_files room set checksums ws in
    record { judged = x.judged; said = pick (ends_empty ws) said-as.MoreWanted x.said; set = x.set }

-- reads all that came but the last byte, where this one makes an event whole
abbrev pub waits_for_more : ℕ → FileReading
waits_for_more room set checksums ws =
    let now = our_files room set checksums ws in
    let before = our_files room set checksums (take (length (spelled ws) - 1) (spelled ws)) in
    pick (ltb (length before.judged) (length now.judged)) before now

-- takes a Previous-GTIDs body in the set's place
abbrev pub replaces : ℕ → List ℕ → ℕ → List ℕ → Done (List ℕ) Judged
replaces room set type body =
    pick (eqb type 35) (does-specs.tells type body (does-specs.joins room (taken_in (previous body)))) (does room set type body)

abbrev pub replaces_set : ℕ → FileReading
replaces_set room set checksums ws = read_in (hear (replaces room) (trailer checksums) (start_of set) ws)

-- goes back to the set that it began with when it refuses
abbrev pub undoes_first : ℕ → FileReading
undoes_first room set checksums ws =
    let x = our_files room set checksums ws in
    record { judged = x.judged; said = x.said; set = pick (eqb (refusal_in x.said) 0) x.set set }

-- tells no answer for the events that it walks
abbrev pub answers_nothing : ℕ → FileReading
answers_nothing room set checksums ws =
    let x = our_files room set checksums ws in
    record { judged = []; said = x.said; set = x.set }

-- skips tagged events: neither answers them nor takes them
abbrev pub passes : ℕ → List ℕ → ℕ → List ℕ → Done (List ℕ) Judged
passes room set type body = pick (eqb type 42) (did (record { type = type; body = body; told = told-as.NoId }) set) (does room set type body)

abbrev pub untagged_only : List Judged → List Judged
untagged_only [] = []
untagged_only (j ∷ js) = pick (eqb j.type 42) (untagged_only js) (j ∷ untagged_only js)

abbrev pub skips_tagged : ℕ → FileReading
skips_tagged room set checksums ws =
    let x = read_in (hear (passes room) (trailer checksums) (start_of set) ws) in
    record { judged = untagged_only x.judged; said = x.said; set = x.set }

-- takes checksums for a part of the bodies
abbrev pub ignores_trailer : ℕ → FileReading
ignores_trailer room set checksums ws = our_files room set false ws

-- takes a file that is cut off for a whole one
abbrev pub takes_cut : ℕ → FileReading
takes_cut room set checksums ws =
    let x = our_files room set checksums ws in
    record { judged = x.judged; said = pick (eqb (refusal_in x.said) 1) said-as.Ended x.said; set = x.set }
