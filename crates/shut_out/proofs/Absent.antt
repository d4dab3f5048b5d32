-- Offers to the empty set of tagged events without uuid, gno or tag, and of events with the gno 0: their numbers, and wrong offers that are shut out
-- by them; and a reader that tells by its value whether a gno was sent.
use Prim.Native.Nat.{ℕ}
use mathlib.Core.Path.{◌≡◌, refl, sym, ap, ◌∙◌}
use mathlib.Core.Bool.{true, false≢true}
use mathlib.Core.List.{List, [], ◌∷◌}
use lib.ListN.{get_or, replicate}
use borrow.Author.Tests.{eq-eqb}
use Rattle.misc.specs.declared.refusal.Refusal.{Refusal}
use Rattle.misc.specs.declared.refusal.WriteError.TheVariants.{Refused}
use Rattle.misc.specs.Refusal.{number, no_tag, bad_gno, absent_id}
use Rattle.misc.specs.Parse.{parsed, many, bytes_at, byte_at}
use Rattle.misc.specs.Body.{body_limit}
use Rattle.misc.specs.Le.{le_of, le_bytes, le_at}
use Rattle.misc.specs.Varlen.{trailing_ones, item_value, varlen_at, size_from, varlen_size, item_of, varlen_bytes}
use Rattle.misc.specs.Signed.{meant_by, signed_at, natural_at}
use Rattle.packets.specs.Gno.{gno_top}
use Rattle.packets.specs.Kept.{padded}
use Rattle.packets.specs.Tag.{is_tag, all_tag_bytes}
use Rattle.previous_gtids_event.specs.Entry.{uuid_of, tag_of}
use Rattle.previous_gtids_event.specs.Previous.{says_tagged, says_count, previous}
use Rattle.previous_gtids_event.specs.Rewrite.{intervals_bytes, entry_bytes, entries_bytes, any_tag, header_bytes, body_bytes}
use Rattle.gtid_event_read.specs.Seen.{Seen}
use Rattle.gtid_event_read.specs.Fields.{limited_at, uuid_at, tag_at, field_at, fields_from}
use Rattle.gtid_event_read.specs.Tagged.{tagged}
use Rattle.gtid_event_read.specs.Read.{seen, gtid, named}
use Rattle.gtid_sets.specs.Limits.{max_entries, max_intervals, max_of_entry, judged, limits}
use Rattle.gtid_sets.specs.Lent.{lent_set}
use Rattle.resume_set.specs.Answers.{event_of}
use Rattle.resume_set.specs.declared.Offered.TheVariants.{Taken}
use Rattle.resume_set_laws.specs.History.{Turn}
use Rattle.resume_set_laws.specs.Ours.{ours}
use Rattle.std.specs.Prelude.{Ok, Err}
use Rattle.promises.specs.TaggedLayout as fields
use Rattle.promises.specs.TaggedLayout.{the_uuid, the_tag, seen_in}
use Rattle.promises.specs.Meaning.{RecordsMean}
use Rattle.promises.specs.Exact.{OffersExactly}
use Rattle.shut_out.specs.WrongOnes.{
  present_unless_zero,
  tells_by_value,
  says_instead,
  judges_absent_gno,
  takes_zero_for_absent,
  asks_untagged,
  asks_id_before_tag,
  takes_absent_for_zero,
  tag_alone,
  no_uuid,
  zero_gno,
  nothing_sent,
}
use Rattle.promises.proofs.Demand2.{one-record, records-mean}
use Rattle.promises.proofs.SetsExact.{apart, offers-exactly}
use Rattle.promises.proofs.OneOutcome.{same-offers}
use Rattle.shut_out.proofs.ShutOut.{below, below-bytes, none, offer, refuses-0}

abbrev tag-offer : List ℕ → Turn
tag-offer body = record { type = 42; body = body; out = replicate 50 0 }

-- ---- what ours answers

-- no uuid and no gno: 21
absent-21 : ours.answers none (tag-offer tag_alone) ≡ Err (Refused absent_id)
unfolding event_of named seen body_limit tagged byte_at bytes_at varlen_at trailing_ones item_value le_at le_of fields_from field_at tag_at is_tag all_tag_bytes padded
    lent_set previous says_tagged says_count many limits judged max_entries max_intervals max_of_entry body_bytes any_tag header_bytes entries_bytes le_bytes
absent-21 = refl

-- a uuid, and the gno as 0: 15
zero-15 : ours.answers none (tag-offer zero_gno) ≡ Err (Refused bad_gno)
unfolding event_of named seen body_limit tagged byte_at bytes_at varlen_at trailing_ones item_value le_at le_of fields_from field_at limited_at uuid_at tag_at natural_at
    signed_at meant_by is_tag all_tag_bytes padded gno_top lent_set previous says_tagged says_count many limits judged max_entries max_intervals max_of_entry body_bytes
    any_tag header_bytes entries_bytes le_bytes
zero-15 = refl

-- no tag either: 7
no-tag-7 : ours.answers none (tag-offer nothing_sent) ≡ Err (Refused no_tag)
unfolding event_of named seen body_limit tagged byte_at bytes_at varlen_at trailing_ones item_value le_at le_of fields_from field_at lent_set previous says_tagged
    says_count many limits judged max_entries max_intervals max_of_entry body_bytes any_tag header_bytes entries_bytes le_bytes
no-tag-7 = refl

-- ---- wrong offers

-- one that says another refusal somewhere
instead-out : (due instead : Refusal) (t : Turn) → (due ≡ instead → ⊥) → below t.body ≡ true → ours.answers none t ≡ Err (Refused due)
    → OffersExactly (says_instead t.type due instead) → ⊥
instead-out due instead t other are says exactly =
    let same = (same-offers offers-exactly exactly none t (below-bytes t.body are)).0 in
    let two : Err (Refused due) ≡ Err (Refused instead) =
    sym says ∙ same ∙ rw (eq-eqb t.type t.type refl, says, eq-eqb (number due) (number due) refl) in
    other cc

-- one that judges the gno of an event that sent none
pub judges-absent-gno-out : OffersExactly judges_absent_gno → ⊥
judges-absent-gno-out exactly = instead-out absent_id bad_gno (tag-offer tag_alone) (λ e. apart cc) refl absent-21 exactly

-- one that takes a gno that was sent as 0 for one that was not, of a tagged event
pub takes-zero-for-absent-out : OffersExactly takes_zero_for_absent → ⊥
takes-zero-for-absent-out exactly = instead-out bad_gno absent_id (tag-offer zero_gno) (λ e. apart cc) refl zero-15 exactly

-- one that asks an untagged event for its fields
pub asks-untagged-out : OffersExactly asks_untagged → ⊥
asks-untagged-out exactly = instead-out bad_gno absent_id (offer 0 48) (λ e. apart cc) refl refuses-0 exactly

-- one that asks for the id before the tag
pub asks-id-before-tag-out : OffersExactly asks_id_before_tag → ⊥
asks-id-before-tag-out exactly = instead-out no_tag absent_id (tag-offer nothing_sent) (λ e. apart cc) refl no-tag-7 exactly

-- one that takes an absent uuid for the zero uuid, and an id with it
no-uuid-21 : ours.answers none (tag-offer no_uuid) ≡ Err (Refused absent_id)
unfolding event_of named seen body_limit tagged byte_at bytes_at varlen_at trailing_ones item_value le_at le_of fields_from field_at tag_at natural_at signed_at meant_by
    is_tag all_tag_bytes padded lent_set previous says_tagged says_count many limits judged max_entries max_intervals max_of_entry body_bytes any_tag header_bytes
    entries_bytes le_bytes
no-uuid-21 = refl

takes-zero-uuid : takes_absent_for_zero.answers none (tag-offer no_uuid) ≡ Ok (Taken 50)
unfolding gtid seen body_limit tagged byte_at bytes_at varlen_at trailing_ones item_value le_at le_of fields_from field_at tag_at natural_at signed_at meant_by is_tag
    all_tag_bytes padded gno_top lent_set previous says_tagged says_count many limits judged max_entries max_intervals max_of_entry body_bytes any_tag header_bytes
    entries_bytes entry_bytes intervals_bytes uuid_of tag_of varlen_bytes varlen_size size_from item_of le_bytes
takes-zero-uuid = refl

pub takes-absent-for-zero-out : OffersExactly takes_absent_for_zero → ⊥
takes-absent-for-zero-out exactly =
    let same = (same-offers offers-exactly exactly none (tag-offer no_uuid) (below-bytes no_uuid refl)).0 in
    let two : Err (Refused absent_id) ≡ Ok (Taken 50) = sym no-uuid-21 ∙ same ∙ takes-zero-uuid in
    apart cc

-- ---- a reader that tells by its value whether a gno was sent: here one was sent as 0

-- the uuid is zero too
abbrev zero_seen : Seen
zero_seen = seen_in (the_uuid (replicate 16 0) ∷ fields.number 2 0 ∷ the_tag (97 ∷ []) ∷ [])

read-zero : seen 42 zero_gno ≡ parsed zero_seen 25
unfolding seen body_limit tagged byte_at bytes_at varlen_at trailing_ones item_value le_of many fields_from field_at limited_at uuid_at tag_at natural_at signed_at meant_by
    is_tag all_tag_bytes padded
read-zero = refl

pub tells-by-value-unlike : RecordsMean tells_by_value → ⊥
tells-by-value-unlike mean =
    let are = below-bytes zero_gno refl in
    let other : Seen = present_unless_zero zero_seen in
    let laid = (mean 42 zero_gno other 25 are).0 (rw read-zero) in
    let (same, _) = one-record 42 zero_gno other zero_seen 25 25 laid ((records-mean 42 zero_gno zero_seen 25 are).0 read-zero) in
    false≢true (ap (λ (x : Seen). get_or x.present 2 true) same)
