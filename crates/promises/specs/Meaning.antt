-- Demand 2, of any reader and writer: what is written reads back from exactly its bytes, what is accepted is what the layouts say, and a
-- tagged record declares the least size that counts itself.
use Rattle.std.specs.Prelude.{ℕ, ◌≤◌, ◌≡◌, true, false, List, [], ◌∷◌, ◌++◌, ◌⊎◌, length, replicate}
use Rattle.misc.specs.Parse.{Bytes, Parse, parsed}
use Rattle.misc.specs.Output.{Output, bytes}
use Rattle.misc.specs.Body.{body_limit}
use Rattle.misc.specs.Varlen.{varlen_bytes}
use Rattle.previous_gtids_event.specs.Entry.{Entry}
use Rattle.gtid_event.specs.Event.{type_of}
use Rattle.gtid_event.specs.Event as event
use Rattle.gtid_event.specs.declared.GtidEvent.{GtidEvent}
use Rattle.gtid_event_read.specs.Seen.{Seen}
use Rattle.gtid_event_read.specs.Read.{record_in}
use Rattle.previous_gtids_event.specs.Layout.{BodyLaid}
use Rattle.gtid_event_write.specs.Writable.{writable}
use Rattle.gtid_event_write.specs.Size.{Agrees}
use Rattle.gtid_event.specs.Fits.{Fits}
use Rattle.promises.specs.UntaggedLayout.{UntaggedLaid}
use Rattle.promises.specs.TaggedLayout.{TaggedLaid}

-- ---- records

-- what a reader makes of an event's type and body: a refusal, or a record with the fields that were there, and the bytes used
abbrev pub EventReader : Type 0
EventReader = ℕ → List ℕ → Parse Seen

abbrev pub EventWriter : Type 0
EventWriter = GtidEvent → Output

-- the layouts: 33 and 34 are untagged, 42 is tagged, and a body has so many bytes at most. It is this record, with these fields, and so many bytes are
-- used. An untagged event has none of the twelve fields
pub data RecordLaid (type : ℕ) (s : List ℕ) (x : Seen) (used : ℕ) : Type 0 where
  untagged : length s ≤ body_limit → (type ≡ 33) ⊎ (type ≡ 34) → UntaggedLaid s x.event used → x.present ≡ replicate 12 false → RecordLaid type s x used
  tagged : length s ≤ body_limit → type ≡ 42 → TaggedLaid s x used → RecordLaid type s x used

-- what is accepted is laid out as the format says, and whatever is laid out so is accepted
abbrev pub RecordsMean : EventReader → Type 0
RecordsMean read = (type : ℕ) (s : List ℕ) (x : Seen) (used : ℕ) → Bytes s
    → (read type s ≡ parsed x used → RecordLaid type s x used) × (RecordLaid type s x used → read type s ≡ parsed x used)

-- a writable record is written, and comes back equal from exactly its bytes
abbrev pub RecordsBack : EventReader → EventWriter → Type 0
RecordsBack read write = (e : GtidEvent) → Fits e → writable e ≡ true
    → (bs : List ℕ) × (write e ≡ bytes bs) × (record_in (read (type_of e) bs) ≡ parsed e (length bs))

-- a record that is read can be written
abbrev pub RecordsAgain : EventReader → EventWriter → Type 0
RecordsAgain read write = (type : ℕ) (body : List ℕ) (x : Seen) (used : ℕ) → Bytes body → read type body ≡ parsed x used
    → Fits x.event × ((bs : List ℕ) × (write x.event ≡ bytes bs))

-- the bytes of a tagged record: version byte 2, a size, and the rest; the size counts all of them, and no smaller number could
pub record Declares (bs : List ℕ) : Type 0 where
  pub size : ℕ
  pub rest : List ℕ
  pub laid : bs ≡ (2 ∷ []) ++ varlen_bytes size ++ rest
  pub counts : size ≡ length bs
  pub fields : ℕ
  pub agrees : Agrees fields size
  pub least : (other : ℕ) → Agrees fields other → size ≤ other

abbrev pub LeastSize : EventWriter → Type 0
LeastSize write = (e : GtidEvent) (bs : List ℕ) → event.tagged e ≡ true → write e ≡ bytes bs → Declares bs

-- ---- Previous-GTIDs

abbrev pub EntriesReader : Type 0
EntriesReader = List ℕ → Parse (List Entry)

-- what rewriting gives reads as the same entries, from exactly its bytes
abbrev pub EntriesBack : EntriesReader → (List Entry → List ℕ) → Type 0
EntriesBack read write = (body : List ℕ) (es : List Entry) (used : ℕ) → Bytes body → read body ≡ parsed es used
    → read (write es) ≡ parsed es (length (write es))

-- what is accepted is laid out as the format says, and whatever is laid out so is accepted
abbrev pub EntriesMean : EntriesReader → Type 0
EntriesMean read = (s : List ℕ) (es : List Entry) (used : ℕ) → Bytes s → length s ≤ body_limit
    → (read s ≡ parsed es used → BodyLaid s es used) × (BodyLaid s es used → read s ≡ parsed es used)
