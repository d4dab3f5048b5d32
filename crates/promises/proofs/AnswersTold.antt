-- The statements of `specs/Answers.antt`.
use Prim.Native.Nat.{ℕ, ◌+◌, ◌-◌, ◌*◌, ◌/◌, ◌%◌, ◌≤◌}
use mathlib.Core.Path.{◌≡◌, refl, sym, ap}
use mathlib.Core.Bool.{Bool}
use mathlib.Core.List.{List, ◌++◌}
use mathlib.Core.Logic.{inl, inr}
use native.Mathlib.Omega.{arith}
use lib.ListN.{length, drop, length-append, length-drop}
use borrow.Author.Tests.{le-leb, ne_eqb}
use Rattle.misc.specs.Refusal.{number}
use Rattle.misc.specs.Parse.{Bytes, Parse, refuse, parsed, part}
use Rattle.misc.specs.Signed.{meant_by, signed_at, natural_at}
use Rattle.misc.specs.Body.{body_limit}
use Rattle.misc.proofs.Places.{From}
use Rattle.misc.proofs.FormsRead.{form-some, form-reads, number-reads, lenenc-some, lenenc-reads}
use Rattle.previous_gtids_event.specs.Entry.{Entry, entry}
use Rattle.previous_gtids_event.specs.Layout.{EntryLaid}
use Rattle.previous_gtids_event.proofs.Reading.{uuid-of, tag-of}
use Rattle.previous_gtids_event.proofs.Laying.{entry-reads, interval-reads}
use Rattle.previous_gtids_event.proofs.RoundTrip.{header-told}
use Rattle.gtid_event.specs.declared.GtidEvent.{GtidEvent}
use Rattle.gtid_event_read.specs.Seen.{Seen}
use Rattle.gtid_event_read.specs.Read.{seen, gtid, named, gtid_read}
use Rattle.gtid_event_read.proofs.FieldRanges.{fields-shaped}
use Rattle.gtid_event_read.proofs.TaggedLaws.{tagged-parsed}
use Rattle.gtid_event_read.proofs.PresentLaws.{named-parsed}
use Rattle.gtid_event_write.specs.Write.{length_of}
use Rattle.resume_set.specs.Answers.{event_of}
use Rattle.listing.specs.EventText.{event_text}
use Rattle.listing.proofs.EventTextLaws.{id-named, event-gtid}
use Rattle.promises.specs.UntaggedLayout.{UntaggedLaid}
use Rattle.promises.specs.Meaning.{RecordLaid}
use Rattle.promises.specs.SetFaults.{NamingFault}
use Rattle.promises.specs.Answers.{IntegersTold, EventsTold, BodiesTold, ListingTold}
use Rattle.promises.proofs.Demand2.{laid-record-read, entries-mean}
use Rattle.promises.proofs.WritingExact.{write-writes}
use Rattle.promises.proofs.TaggedReads.{tagged-reads}
use Rattle.promises.proofs.Naming.{naming-refused, naming-faulty, event-named, event-anonymous}
use Rattle.promises.proofs.SetsExact.{take-in-forced}

-- a place where some bytes stand is inside
stands : (s : List ℕ) (at : ℕ) (item rest : List ℕ) → 1 ≤ length item → drop at s ≡ item ++ rest → From s at (item ++ rest)
stands s at item rest some is = record { is = is; inside = omega (arith, ap length is, length-drop at s, length-append item rest) }

even : (n : ℕ) → n * 2 % 2 ≡ 0
even n = omega arith

half : (n : ℕ) → n * 2 / 2 ≡ n
half n = omega arith

odd : (n : ℕ) → (n * 2 + 1) % 2 ≡ 1
odd n = omega arith

half-odd : (n : ℕ) → (n * 2 + 1) / 2 ≡ n
half-odd n = omega arith

pub integers-told : (s : List ℕ) (at : ℕ) (item rest : List ℕ) (there : drop at s ≡ item ++ rest) → IntegersTold s at item rest there
unfolding signed_at natural_at meant_by
integers-told s at item rest there = record {
  fixed = λ w v some number. rw (number-reads s w at v item rest number (stands s at item rest (omega (arith, number.long)) there));
  varlen = λ v form. rw (form-reads s at v item rest form (stands s at item rest (form-some form) there));
  positive = λ n form. rw (form-reads s at (n * 2) item rest form (stands s at item rest (form-some form) there), even n, half n);
  negative = λ n form. rw (form-reads s at (n * 2 + 1) item rest form (stands s at item rest (form-some form) there), odd n, half-odd n);
  natural = λ n form. rw (form-reads s at (n * 2) item rest form (stands s at item rest (form-some form) there), even n, half n);
  lenenc = λ v form. rw (lenenc-reads s at v item rest form (stands s at item rest (lenenc-some v item form) there));
}

-- what is not refused where the id is asked for is read alike
asked-alike : (type : ℕ) (body : List ℕ) → ((n : ℕ) → NamingFault type body n → ⊥) → Bytes body → gtid_read (named type body) ≡ gtid_read (seen type body)
asked-alike type body none are = go (named type body) refl
  where
    go : (p : Parse Seen) → named type body ≡ p → gtid_read (named type body) ≡ gtid_read (seen type body)
    go (refuse r) e = absurd (none (number r) (naming-faulty type body are r e))
    go (parsed x used) e = rw (e, (named-parsed type body e).0)

pub events-told : EventsTold
unfolding length_of gtid
events-told = record {
  read = λ type body x used laid. rw (laid-record-read type body x used laid);
  asked = asked-alike;
  unread = λ type body x used laid. rw (laid-record-read type body x used laid);
  length_of = λ e bs w. let (can, is) = write-writes e bs w in rw (can, is);
  named = λ type body e n. event-named type body n;
  unnamed = λ body x used laid. event-anonymous 34 body laid refl;
}

-- ---- Previous-GTIDs

entry-some : {tagged : Bool} {e : Entry} (laid : List ℕ) → EntryLaid tagged e laid → 1 ≤ length laid
entry-some laid (EntryLaid.parts uuid {bytes = tag} {count = count} {intervals = list} sixteen _ _ _) =
    omega (arith, length-append uuid (tag ++ (count ++ list)))

pub bodies-told : (body : List ℕ) (short : length body ≤ body_limit) → BodiesTold body short
unfolding body_limit
bodies-told body short = record {
  read = λ es used are laid. rw ((entries-mean body es used are short).1 laid) (refl, refl);
  header = λ tagged n laid rest are is whole. header-told body are short tagged n laid rest whole is;
  entry = λ at tagged uuid tag is laid rest sixteen this there.
      rw (
        le-leb (length body) body_limit short,
        entry-reads body tagged at (entry (uuid ++ tag) is) laid rest this (stands body at laid rest (entry-some laid this) there),
        uuid-of uuid tag sixteen,
        tag-of uuid tag sixteen,
      );
  interval = λ at start end a b rest x y is.
      rw (
        le-leb (length body) body_limit short,
        (interval-reads body at start end a b rest x y (stands body at a (b ++ rest) (omega (arith, x.long)) is)).0,
      );
}

-- ---- the listing

not-35 : (type : ℕ) {body : List ℕ} {x : Seen} {used : ℕ} → RecordLaid type body x used → type ≡ 35 → ⊥
not-35 type (RecordLaid.untagged _ (inl is) _ _) other = omega arith
not-35 type (RecordLaid.untagged _ (inr is) _ _) other = omega arith
not-35 type (RecordLaid.tagged _ is _) other = omega arith

-- the uuid of a record that is laid out has 16 bytes
plain-whole : {s : List ℕ} {e : GtidEvent} {used : ℕ} → UntaggedLaid s e used → length e.sid ≡ 16
plain-whole (inl laid) = laid.uuid_is
plain-whole (inr laid) = laid.uuid_is

whole-uuid : {type : ℕ} {s : List ℕ} {x : Seen} {used : ℕ} → RecordLaid type s x used → length x.event.sid ≡ 16
whole-uuid (RecordLaid.untagged few is laid none) = plain-whole laid
whole-uuid {s = s} {x = x} {used = used} (RecordLaid.tagged few is laid) =
    let t = tagged-parsed s (tagged-reads s x used laid) in
    rw t.is (fields-shaped t.last (part s t.start (t.size - t.start)) t.fields_read).uuid

pub listing-told : ListingTold
unfolding event_text
listing-told = record {
  alike = λ type body other. sym (event-gtid type body other);
  refused_event = λ type body n other fault.
      let (r, e, is) = naming-refused type body n fault in
      rw (ne_eqb type 35 other) (unfold event_of in rw (e, is));
  refused_body = λ body n are fault. let (r, e, is) = take-in-forced body are n fault in rw (e, is);
  named = λ type body e n. rw (ne_eqb type 35 (not-35 type n.laid), event-named type body n) (sym (id-named e (whole-uuid n.laid)));
  anonymous = λ body x used laid. rw (event-anonymous 34 body laid refl);
}
