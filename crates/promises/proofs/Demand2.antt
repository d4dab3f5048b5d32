-- Demand 2 holds of the reader and the writers that our functions promise.
use Prim.Native.Nat.{ℕ, ◌≤◌, ◌<◌}
use mathlib.Core.Path.{◌≡◌, refl, sym, ap, ◌∙◌}
use mathlib.Core.Bool.{Bool, true, false}
use mathlib.Core.List.{List, [], ◌∷◌, ◌++◌, append_assoc}
use mathlib.Core.Logic.{inl, inr}
use native.Mathlib.Omega.{arith}
use lib.ListN.{length, replicate}
use Rattle.misc.specs.Parse.{Bytes, parsed}
use Rattle.misc.specs.Body.{body_limit}
use Rattle.misc.specs.Varlen.{varlen_bytes}
use Rattle.previous_gtids_event.specs.Previous.{previous}
use Rattle.previous_gtids_event.specs.Rewrite.{body_bytes}
use Rattle.previous_gtids_event.proofs.RoundTrip.{laid-read, read-laid, read_again}
use Rattle.gtid_event.specs.declared.GtidEvent.{GtidEvent}
use Rattle.gtid_event.specs.Event.{tagged}
use Rattle.gtid_event_read.specs.Seen.{Seen, untagged_seen}
use Rattle.gtid_event_read.specs.Read.{seen, record_in, gtid}
use Rattle.gtid_event_read.proofs.ReadLaws.{seen-untagged, seen-42, seen-parsed}
use Rattle.gtid_event_write.specs.Size.{payload_size}
use Rattle.gtid_event_write.specs.Layout.{field_bytes, tagged_bytes}
use Rattle.gtid_event_write.specs.Write.{event_bytes, event_output}
use Rattle.gtid_event_write.proofs.SizeLaws.{payload-agrees, payload-least}
use Rattle.gtid_event_write.proofs.LayoutLaws.{length-tagged}
use Rattle.gtid_event_laws.proofs.EventBack.{event-alone}
use Rattle.gtid_event_laws.proofs.ReadWritable.{read_fits, read-writable}
use Rattle.promises.proofs.WritingExact.{write-writes}
use Rattle.promises.proofs.UntaggedReads.{untagged-reads}
use Rattle.promises.proofs.UntaggedAccepted.{untagged-accepted}
use Rattle.promises.proofs.TaggedReads.{tagged-reads}
use Rattle.promises.proofs.TaggedAccepted.{tagged-accepted}
use Rattle.promises.specs.UntaggedLayout.{UntaggedLaid}
use Rattle.promises.specs.Meaning.{RecordLaid, RecordsMean, RecordsBack, RecordsAgain, Declares, LeastSize, EntriesBack, EntriesMean}

-- what is read is laid out, and what is laid out is read
read-laid-record : (type : ℕ) (s : List ℕ) (x : Seen) (used : ℕ) → Bytes s → seen type s ≡ parsed x used → RecordLaid type s x used
read-laid-record type s x used are read = seen-parsed type s read
    (λ fits either e plain is.
    rw is (RecordLaid.untagged fits either (untagged-accepted s are e used plain) refl))
    (λ fits is fields. RecordLaid.tagged fits is (tagged-accepted s are x used fields))

-- an untagged event
plain-read : (type : ℕ) (s : List ℕ) (x : Seen) (used : ℕ) → length s ≤ body_limit → 33 ≤ type → type < 35 → UntaggedLaid s x.event used
    → x.present ≡ replicate 12 false → seen type s ≡ parsed x used
unfolding body_limit
plain-read type s x used fits low high laid none =
    let same : untagged_seen x.event ≡ x = ap (λ (p : List Bool). record { event = x.event; present = p }) (sym none) in
    seen-untagged type s fits low high ∙ rw (untagged-reads s x.event used laid) (ap (λ (y : Seen). parsed y used) same)

pub laid-record-read : (type : ℕ) (s : List ℕ) (x : Seen) (used : ℕ) → RecordLaid type s x used → seen type s ≡ parsed x used
unfolding body_limit
laid-record-read type s x used (RecordLaid.untagged fits (inl is) laid none) = plain-read type s x used fits (omega arith) (omega arith) laid none
laid-record-read type s x used (RecordLaid.untagged fits (inr is) laid none) = plain-read type s x used fits (omega arith) (omega arith) laid none
laid-record-read type s x used (RecordLaid.tagged fits is laid) = seen-42 type s fits is ∙ tagged-reads s x used laid

pub records-mean : RecordsMean seen
records-mean type s x used are = (read-laid-record type s x used are, laid-record-read type s x used)

-- bytes are laid out as one record only, with the same fields, of one length
pub one-record : (type : ℕ) (s : List ℕ) (x y : Seen) (used other : ℕ) → RecordLaid type s x used → RecordLaid type s y other → (x ≡ y) × (used ≡ other)
one-record type s x y used other a b =
    let p = laid-record-read type s x used a in
    let q = laid-record-read type s y other b in
    (cc, cc)

pub records-back : RecordsBack seen event_output
unfolding event_output gtid
records-back e fits can = (event_bytes e, rw can, event-alone e fits can)

pub records-again : RecordsAgain seen event_output
unfolding event_output gtid
records-again type body x used are read =
    let told : gtid type body ≡ parsed x.event used = ap record_in read in
    (read_fits body are type x.event used told, (event_bytes x.event, rw (read-writable body are type x.event used told)))

declares : (e : GtidEvent) → tagged e ≡ true → Declares (event_bytes e)
unfolding event_bytes tagged_bytes
declares e is =
    let fields = length (field_bytes e) in
    let size = payload_size fields in
    rw is (record {
      size = size;
      rest = varlen_bytes 0 ++ field_bytes e;
      laid = append_assoc ((2 ∷ []) ++ varlen_bytes size) (varlen_bytes 0) (field_bytes e);
      counts = sym (length-tagged e);
      fields = fields;
      agrees = payload-agrees fields;
      least = payload-least fields;
    })

pub least_size : LeastSize event_output
least_size e bs is w = rw (write-writes e bs w).1 (declares e is)

pub entries-back : EntriesBack previous body_bytes
entries-back body es used are read = read_again body are es used read

pub entries-mean : EntriesMean previous
unfolding body_limit
entries-mean s es used are small = (read-laid s es used are, laid-read s es used are small)
