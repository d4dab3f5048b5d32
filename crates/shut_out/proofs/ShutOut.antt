-- The wrong programs of `specs/WrongOnes.antt` do not meet the demands: whoever shows that one does shows everything.
use Prim.Native.Nat.{ℕ, zero, suc, ◌+◌, ◌≤◌}
use mathlib.Core.Path.{◌≡◌, refl, sym, ap, ◌∙◌}
use mathlib.Core.Bool.{Bool, true, false, ◌&&◌, false≢true}
use lib.Dec.{ltb}
use borrow.Author.Tests.{ltb-true}
use mathlib.Core.List.{List, [], ◌∷◌, ◌++◌}
use native.Mathlib.Omega.{arith}
use lib.ListN.{length, replicate, length-append}
use Rattle.misc.specs.Parse.{Bytes, Parse, refuse, parsed, many, bytes_at, byte_at}
use Rattle.misc.specs.Output.{bytes, output_of, answer_of}
use Rattle.misc.specs.Body.{body_limit}
use Rattle.misc.specs.Le.{le_of, le_bytes, le_at}
use Rattle.misc.specs.declared.refusal.WriteError.TheVariants.{Refused}
use Rattle.misc.specs.Refusal.{unknown_field, bad_gno}
use Rattle.misc.specs.Varlen.{trailing_ones, item_value, varlen_at, varlen_size, item_of, varlen_bytes}
use Rattle.misc.specs.Signed.{meant_by, signed_at, natural_at}
use Rattle.misc.proofs.ParseLaws.{never}
use Rattle.misc.proofs.BodyLaws.{body_limit-is}
use Rattle.misc.proofs.Bounds.{append-bytes, zeros-bytes}
use Rattle.misc.proofs.LeLaws.{length-le_bytes}
use Rattle.misc.proofs.VarlenLaws.{length-small}
use Rattle.previous_gtids_event.specs.Entry.{entry, uuid_of, tag_of}
use Rattle.packets.specs.Kept.{padded}
use Rattle.packets.specs.Tag.{is_tag, all_tag_bytes}
use Rattle.packets.proofs.Tests.{and-true}
use Rattle.packets.specs.Gno.{gno_top, interval}
use Rattle.previous_gtids_event.specs.Layout.{HeaderLaid, EntriesLaid}
use Rattle.previous_gtids_event.specs.Previous as previous-specs
use Rattle.previous_gtids_event.specs.Previous.{key_at, head_at, interval_at, entry_at, says_tagged, says_count, previous}
use Rattle.previous_gtids_event.specs.Rewrite.{intervals_bytes, entry_bytes, entries_bytes, any_tag, header_bytes, body_bytes}
use Rattle.gtid_event.specs.declared.GtidEvent.{GtidEvent}
use Rattle.gtid_event.specs.Event.{fresh, new_untagged, type_of, set_tag, with_tag}
use Rattle.gtid_event_read.specs.Untagged.{opening_at, untagged}
use Rattle.gtid_event_read.specs.Fields.{tag_at, field_at, fields_from}
use Rattle.gtid_event_read.specs.Tagged.{tagged}
use Rattle.gtid_event_read.specs.Seen.{Seen, untagged_seen}
use Rattle.gtid_event_read.specs.Read as read-specs
use Rattle.gtid_event_read.specs.Read.{seen, record_in, gtid}
use Rattle.gtid_event_write.specs.Writable.{all_zero, writable}
use Rattle.gtid_event_write.specs.Size.{payload_size}
use Rattle.gtid_event_write.specs.Layout.{field_bytes}
use Rattle.gtid_event_write.specs.Write.{event_bytes, event_output}
use Rattle.gtid_event_write.specs.Totals.{TaggedOne}
use Rattle.gtid_event_write.proofs.SizeLaws.{size-one, size-two, payload-agrees}
use Rattle.gtid_event_write.proofs.TotalsLaws.{total-is}
use Rattle.gtid_event_write.proofs.TotalsReached.{totals}
use Rattle.gtid_event.specs.Fits.{Fits}
use Rattle.gtid_event_laws.proofs.EventBack.{event-alone}
use Rattle.gtid_sets.specs.Limits.{max_entries, max_intervals, max_of_entry, judged, limits}
use Rattle.gtid_sets.specs.Lent.{form, unfit, lent_set}
use Rattle.resume_set.specs.Answers.{event_of}
use Rattle.resume_set.specs.declared.Offered.TheVariants.{NoId, Taken}
use Rattle.resume_set_laws.specs.History.{Turn, Offering, member, TakesIn, TellsHistory}
use Rattle.resume_set_laws.specs.Ours.{ours}
use Rattle.std.specs.Prelude.{Ok, Err}
use Rattle.promises.specs.Meaning.{EventReader, EventWriter, RecordLaid, RecordsMean, RecordsBack, LeastSize, EntriesMean}
use Rattle.promises.specs.UntaggedLayout.{NoTypecode, ShortLaid}
use Rattle.promises.specs.TaggedLayout.{number, the_tag, seen_in}
use Rattle.promises.proofs.Demand2.{records-mean, one-record, entries-mean}
use Rattle.promises.specs.Building.{server_versions, Unversioned, NewVersions, KeepsVersions}
use Rattle.shut_out.specs.WrongOnes.{claims_zero, forgets_versions, refuses_bodies, top_byte_two, tags_by_one, refuses_all, constant_record, counted_up}
use Rattle.shut_out.specs.WrongOnes.{made_up_count, swapped_clock, swaps_clock, equal_id, ignores_equal, writes_nothing, sizes_by_two, copies_its_set}
use Rattle.shut_out.specs.WrongOnes.{adds_only_the_first, always_no_id, no_id_for_zero, takes_top, asks_tagged_only}
use Rattle.promises.specs.Exact.{OffersExactly, AsksExactly}
use Rattle.promises.proofs.SetsExact.{offers-exactly}
use Rattle.promises.proofs.BuildingHolds.{fresh-fits}
use Rattle.promises.proofs.OneOutcome.{same-offers}

-- ---- records: one that can be written, gno 2

abbrev some : GtidEvent
some = new_untagged (replicate 16 0) 2

some_fits : Fits some
some_fits = fresh-fits (replicate 16 0) 2 2 refl (zeros-bytes 16) (omega arith) (omega arith)

some-can : writable some ≡ true
unfolding writable all_zero
some-can = refl

-- a reader that refuses all, with whatever writer
pub refuses-all-out : (write : EventWriter) → RecordsBack refuses_all write → ⊥
refuses-all-out write back =
    let (bs, wrote, read) = back some some_fits some-can in
    never read

-- a reader that always gives the same record, with whatever writer
pub constant-record-out : (write : EventWriter) → RecordsBack constant_record write → ⊥
constant-record-out write back =
    let (bs, wrote, read) = back some some_fits some-can in
    let same : new_untagged (replicate 16 0) 1 ≡ some = cc in
    let clash : ◌≡◌ {A = ℕ} 1 2 = ap (λ (e : GtidEvent). e.gno) same in
    omega arith

-- a writer that writes nothing, with whatever reader
pub writes-nothing-out : (read : EventReader) → RecordsBack read writes_nothing → ⊥
writes-nothing-out read back =
    let (bs, wrote, _) = back some some_fits some-can in
    let clash : ◌≡◌ {A = ℕ} 0 1 = cc in
    omega arith

-- a writer that gives the size two bytes: for 124 bytes of fields it declares 128, which agrees with itself, but 127 does too
sizes-by-two : (e : GtidEvent) → TaggedOne e → length (event_bytes e) ≡ 127 → LeastSize sizes_by_two → ⊥
unfolding item_of
sizes-by-two e one total least =
    let n = length (field_bytes e) in
    let small = size-one 127 (omega arith) in
    let is : payload_size n ≡ 127 = sym (total-is e one) ∙ total in
    let some : n ≡ 124 = omega (arith, payload-agrees n, ap varlen_size is) in
    let bs : List ℕ = (2 ∷ []) ++ item_of 2 (4 + n) ++ varlen_bytes 0 ++ field_bytes e in
    let size : length bs ≡ 128 = simp (length-append, length-le_bytes) (omega (arith, length-small 0 (omega arith))) in
    let declared = least e bs one.has_tag (rw (one.has_tag, one.able)) in
    let wide : declared.size ≡ 128 = declared.counts ∙ size in
    let fields : declared.fields ≡ 124 = omega (arith, declared.agrees, ap varlen_size wide, size-two 128 (omega arith) (omega arith)) in
    omega (arith, declared.least 127 (omega arith))

pub sizes-by-two-out : LeastSize sizes_by_two → ⊥
sizes-by-two-out least =
    let (e, one, total) = totals.reaches_127 in
    sizes-by-two e one total least

-- a reader that tells another count, with the writer that is ours. (Some writers would agree with it: those that write a byte more)
pub made-up-count-out : RecordsBack made_up_count event_output → ⊥
unfolding event_output gtid
made-up-count-out back =
    let (bs, wrote, read) = back some some_fits some-can in
    let is : bytes (event_bytes some) ≡ bytes bs = rw some-can at wrote in
    let these : event_bytes some ≡ bs = cc in
    let ours : gtid (type_of some) bs ≡ parsed some (length bs) = rw these at (event-alone some some_fits some-can) in
    counted (seen (type_of some) bs) (length bs) ours read
  where
    counted : (p : Parse Seen) (n : ℕ) → record_in p ≡ parsed some n → record_in (counted_up p) ≡ parsed some n → ⊥
    counted (refuse r) n e f = never e
    counted (parsed x used) n e f = let same : used ≡ n = cc in let more : used + 1 ≡ n = cc in omega arith

-- ---- readers against the layouts, with no writer

-- the body of an event of type 33 with this gno, below 256, and nothing behind it
abbrev pub body_of : ℕ → List ℕ
body_of gno = replicate 17 0 ++ (gno ∷ replicate 7 0)

pub body_of-bytes : (gno : ℕ) → Bytes (gno ∷ []) → Bytes (body_of gno)
body_of-bytes gno h = append-bytes (replicate 17 0) (gno ∷ replicate 7 0) (zeros-bytes 17) (append-bytes (gno ∷ []) (replicate 7 0) h (zeros-bytes 7))

pub small-1 : Bytes (1 ∷ [])
small-1 zero = omega arith
small-1 (suc i) = omega arith

small-3 : Bytes (3 ∷ [])
small-3 zero = omega arith
small-3 (suc i) = omega arith

-- such a body is read, and so it is laid out
abbrev pub named : ℕ → GtidEvent
named gno = fresh (replicate 16 0) gno 0 999999

read-1 : seen 33 (body_of 1) ≡ parsed (untagged_seen (named 1)) 25
unfolding seen body_limit untagged opening_at byte_at bytes_at le_at le_of
read-1 = refl

pub laid-1 : RecordLaid 33 (body_of 1) (untagged_seen (named 1)) 25
laid-1 = (records-mean 33 (body_of 1) (untagged_seen (named 1)) 25 (body_of-bytes 1 small-1)).0 read-1

-- what a reader that keeps to the layouts reads is what ours reads
same-reading : (read : EventReader) → RecordsMean read → (x : Seen) (used : ℕ) → read 33 (body_of 1) ≡ parsed x used → (x ≡ untagged_seen (named 1)) × (used ≡ 25)
same-reading read mean x used r = one-record 33 (body_of 1) x (untagged_seen (named 1)) used 25 ((mean 33 (body_of 1) x used (body_of-bytes 1 small-1)).0 r) laid-1

-- one that refuses all
pub refuses-all-unlike : RecordsMean refuses_all → ⊥
refuses-all-unlike mean = never ((mean 33 (body_of 1) (untagged_seen (named 1)) 25 (body_of-bytes 1 small-1)).1 laid-1)

-- one that always gives the same record: its typecode is 2
pub constant-record-unlike : RecordsMean constant_record → ⊥
constant-record-unlike mean =
    let (same, _) = same-reading constant_record mean (untagged_seen (new_untagged (replicate 16 0) 1)) 25 refl in
    let clash : ◌≡◌ {A = ℕ} 2 0 = ap (λ (x : Seen). x.event.lc_typecode) same in
    omega arith

-- one that tells another count
pub made-up-count-unlike : RecordsMean made_up_count → ⊥
made-up-count-unlike mean =
    let (_, count) = same-reading made_up_count mean (untagged_seen (named 1)) 26 (rw read-1) in
    omega arith

-- a list whose numbers are tested
abbrev pub below : List ℕ → Bool
below [] = true
below (b ∷ bs) = ltb b 256 && below bs

pub below-bytes : (l : List ℕ) → below l ≡ true → Bytes l
below-bytes [] h i = omega arith
below-bytes (b ∷ bs) h zero = ltb-true b 256 (and-true (ltb b 256) (below bs) h).0
below-bytes (b ∷ bs) h (suc i) = below-bytes bs (and-true (ltb b 256) (below bs) h).1 i

-- version 2, size 8, last non-ignorable id 0, tag "a", last_committed 1
abbrev clocked : List ℕ
clocked = 2 ∷ 16 ∷ 0 ∷ 6 ∷ 2 ∷ 97 ∷ 8 ∷ 4 ∷ []

abbrev clocked_seen : Seen
clocked_seen = seen_in (the_tag (97 ∷ []) ∷ number 4 1 ∷ [])

read-clocked : seen 42 clocked ≡ parsed clocked_seen 8
unfolding seen body_limit tagged byte_at bytes_at varlen_at trailing_ones item_value le_of fields_from field_at tag_at natural_at signed_at meant_by is_tag all_tag_bytes padded
read-clocked = refl

-- one that swaps last_committed and sequence_number
pub swaps-clock-unlike : RecordsMean swaps_clock → ⊥
swaps-clock-unlike mean =
    let other : Seen = record { event = swapped_clock clocked_seen.event; present = clocked_seen.present } in
    let laid = (mean 42 clocked other 8 (below-bytes clocked refl)).0 (rw read-clocked) in
    let ours = (records-mean 42 clocked other 8 (below-bytes clocked refl)).1 laid in
    let two : parsed clocked_seen 8 ≡ parsed other 8 = sym read-clocked ∙ ours in
    let same : clocked_seen ≡ other = cc in
    let clash : ◌≡◌ {A = ℕ} 1 0 = ap (λ (x : Seen). x.event.last_committed) same in
    omega arith

refuses-equal : seen 42 equal_id ≡ refuse unknown_field
unfolding seen body_limit tagged byte_at bytes_at varlen_at trailing_ones item_value le_of fields_from field_at tag_at is_tag all_tag_bytes
refuses-equal = refl

-- one that ignores an unknown id which equals the last non-ignorable one
pub ignores-equal-unlike : RecordsMean ignores_equal → ⊥
ignores-equal-unlike mean =
    let x = seen_in (the_tag (97 ∷ []) ∷ []) in
    let laid = (mean 42 equal_id x 7 (below-bytes equal_id refl)).0 refl in
    never (sym refuses-equal ∙ (records-mean 42 equal_id x 7 (below-bytes equal_id refl)).1 laid)

-- ---- readers of Previous-GTIDs bodies

read-two : previous top_byte_two ≡ parsed (entry (replicate 16 0) [] ∷ []) 33
unfolding previous body_limit le_at le_of bytes_at byte_at says_tagged says_count many entry_at head_at key_at previous-specs.tag_at varlen_at trailing_ones item_value is_tag
read-two = refl

-- one that takes a body for tagged only if its top byte is 1
pub tags-by-one-unlike : EntriesMean tags_by_one → ⊥
tags-by-one-unlike mean =
    let are = below-bytes top_byte_two refl in
    let few : length top_byte_two ≤ body_limit = omega (arith, body_limit-is) in
    let laid = (entries-mean top_byte_two _ 33 are few).0 read-two in
    never ((mean top_byte_two _ 33 are few).1 laid)

-- one that refuses every body
pub refuses-bodies-unlike : EntriesMean refuses_bodies → ⊥
refuses-bodies-unlike mean =
    let are = below-bytes top_byte_two refl in
    let few : length top_byte_two ≤ body_limit = omega (arith, body_limit-is) in
    never ((mean top_byte_two _ 33 are few).1 ((entries-mean top_byte_two _ 33 are few).0 read-two))

-- ---- building a record

-- 25 zeros: nothing follows the gno
zeros-laid : ShortLaid (replicate 25 0) (named 0) 25
unfolding le_of
zeros-laid = record {
  gno_bytes = replicate 8 0;
  unread = [];
  whole = refl;
  uuid_is = refl;
  gno_is = record { long = refl; spells = refl };
  no_typecode = NoTypecode.nothing;
  others = refl;
  uses = refl;
}

-- a new record that claims server version 0
pub claims-zero-out : NewVersions claims_zero → ⊥
claims-zero-out new =
    let same : ◌≡◌ {A = List ℕ} (0 ∷ 0 ∷ []) (999999 ∷ 999999 ∷ []) = new _ _ _ (Unversioned.short zeros-laid) (replicate 16 0) 0 in
    let clash : ◌≡◌ {A = ℕ} 0 999999 = cc in
    omega arith

-- a step that adds the tag "a", and forgets the versions
pub forgets-versions-out : KeepsVersions forgets_versions → ⊥
unfolding with_tag is_tag all_tag_bytes
forgets-versions-out keeps =
    let (x, is, same) = keeps (97 ∷ []) (claims_zero (replicate 16 0) 0) refl in
    let tagged : Ok (set_tag (97 ∷ []) (fresh (replicate 16 0) 0 2 999999)) ≡ Ok x = is in
    let this : set_tag (97 ∷ []) (fresh (replicate 16 0) 0 2 999999) ≡ x = cc in
    let two : ◌≡◌ {A = List ℕ} (999999 ∷ 999999 ∷ []) (0 ∷ 0 ∷ []) = ap server_versions this ∙ same in
    let clash : ◌≡◌ {A = ℕ} 999999 0 = cc in
    omega arith

-- ---- offers: to the empty set, ids of the zero uuid

abbrev pub none : List ℕ
none = replicate 8 0

none-taken-in : TakesIn none [] none
unfolding output_of answer_of previous body_limit le_at le_of bytes_at says_tagged says_count many limits judged max_entries max_intervals max_of_entry body_bytes any_tag
    header_bytes entries_bytes le_bytes
none-taken-in = record {
  are_bytes = zeros-bytes 8;
  used = 8;
  laid = record {
    tagged = false;
    header = none;
    entries = [];
    unread = [];
    whole = refl;
    says = HeaderLaid.plain {count = replicate 7 0} (record { long = refl; spells = refl });
    laid = EntriesLaid.none;
    uses = refl;
  };
  out = none;
  len = 8;
  accepts = refl;
  writes = refl;
}

abbrev pub offer : ℕ → ℕ → Turn
offer gno room = record { type = 33; body = body_of gno; out = replicate room 0 }

-- one that copies its set
pub copies-its-set-out : TellsHistory copies_its_set → ⊥
unfolding event_of read-specs.named seen body_limit untagged opening_at byte_at bytes_at le_at le_of output_of lent_set previous says_tagged says_count many limits
    judged max_entries max_intervals max_of_entry body_bytes any_tag header_bytes entries_bytes le_bytes
copies-its-set-out history =
    let (_, members) = history none [] none (offer 1 8 ∷ []) none-taken-in (body_of-bytes 1 small-1, tt) in
    let clash : false ≡ true = members (replicate 16 0) 1 in
    false≢true clash

-- one that adds an id to the empty set only
pub adds-only-the-first-out : TellsHistory adds_only_the_first → ⊥
unfolding event_of read-specs.named seen body_limit untagged opening_at byte_at bytes_at le_at le_of output_of lent_set previous says_tagged says_count many limits
    judged max_entries max_intervals max_of_entry body_bytes any_tag header_bytes entries_bytes le_bytes entry_bytes intervals_bytes uuid_of tag_of entry_at head_at key_at
    previous-specs.tag_at interval_at gno_top
adds-only-the-first-out history =
    let (_, members) = history none [] none (offer 1 48 ∷ offer 3 48 ∷ []) none-taken-in (body_of-bytes 1 small-1, (body_of-bytes 3 small-3, tt)) in
    let clash : false ≡ true = members (replicate 16 0) 3 in
    false≢true clash

-- one that takes the first number too great for a gno: what it leaves is no set
abbrev top : Turn
top = record { type = 33; body = replicate 17 0 ++ le_bytes 8 gno_top; out = replicate 48 0 }

pub takes-top-out : TellsHistory takes_top → ⊥
unfolding event_of read-specs.named seen body_limit untagged opening_at byte_at bytes_at le_at le_of output_of lent_set previous says_tagged says_count many limits
    judged max_entries max_intervals max_of_entry body_bytes any_tag header_bytes entries_bytes le_bytes entry_bytes intervals_bytes uuid_of tag_of entry_at head_at key_at
    previous-specs.tag_at interval_at gno_top
takes-top-out history =
    let ((s, lent), _) = history none [] none (top ∷ []) none-taken-in (below-bytes top.body refl, tt) in
    let same : unfit ≡ form s = lent in
    let clash : ◌≡◌ {A = ℕ} 0 1 = cc in
    omega arith

-- ---- offers against their cases

small-0 : Bytes (0 ∷ [])
small-0 zero = omega arith
small-0 (suc i) = omega arith

-- an offer whose answers are exactly those of the cases answers as ours
same_answer : (f : Offering) → OffersExactly f → (gno : ℕ) → Bytes (gno ∷ []) → (room : ℕ)
    → ours.answers none (offer gno room) ≡ f.answers none (offer gno room)
same_answer f exactly gno small room = (same-offers offers-exactly exactly none (offer gno room) (body_of-bytes gno small)).0

takes-1 : ours.answers none (offer 1 48) ≡ Ok (Taken 48)
unfolding event_of read-specs.named seen body_limit untagged opening_at byte_at bytes_at le_at le_of lent_set previous says_tagged says_count many limits judged
    max_entries max_intervals max_of_entry body_bytes any_tag header_bytes entries_bytes le_bytes entry_bytes intervals_bytes uuid_of tag_of gno_top
takes-1 = refl

-- one that says "no id" to all
pub always-no-id-out : OffersExactly always_no_id → ⊥
always-no-id-out exactly =
    let two : Ok (Taken 48) ≡ Ok (NoId 8) = sym takes-1 ∙ same_answer always_no_id exactly 1 small-1 48 in
    let clash : ◌≡◌ {A = ℕ} 0 1 = cc in
    omega arith

pub refuses-0 : ours.answers none (offer 0 48) ≡ Err (Refused bad_gno)
unfolding event_of read-specs.named seen body_limit untagged opening_at byte_at bytes_at le_at le_of lent_set previous says_tagged says_count many limits judged
    max_entries max_intervals max_of_entry body_bytes any_tag header_bytes entries_bytes le_bytes
refuses-0 = refl

names-zero : no_id_for_zero.answers none (offer 0 48) ≡ Ok (NoId 8)
unfolding event_of read-specs.named seen body_limit untagged opening_at byte_at bytes_at le_at le_of
names-zero = refl

-- one that says so to gno 0 only
pub no-id-for-zero-out : OffersExactly no_id_for_zero → ⊥
no-id-for-zero-out exactly =
    let two : Err (Refused bad_gno) ≡ Ok (NoId 8) = sym refuses-0 ∙ same_answer no_id_for_zero exactly 0 small-0 48 ∙ names-zero in
    let clash : ◌≡◌ {A = ℕ} 0 1 = cc in
    omega arith

-- one that asks only for ids with a tag: the set holds gno 1 of the zero uuid
one-member : member (body_bytes (entry (replicate 16 0) (interval 1 2 ∷ []) ∷ [])) (replicate 16 0) 1 ≡ true
unfolding body_limit byte_at bytes_at le_at le_of lent_set previous says_tagged says_count many limits judged max_entries max_intervals max_of_entry body_bytes any_tag
    header_bytes entries_bytes le_bytes entry_bytes intervals_bytes uuid_of tag_of entry_at head_at key_at previous-specs.tag_at interval_at gno_top
one-member = refl

pub asks-tagged-only-out : AsksExactly asks_tagged_only → ⊥
asks-tagged-only-out exactly =
    let no : false ≡ true = exactly.id (body_bytes (entry (replicate 16 0) (interval 1 2 ∷ []) ∷ [])) (replicate 16 0) [] 1 refl refl ∙ one-member in
    false≢true no
