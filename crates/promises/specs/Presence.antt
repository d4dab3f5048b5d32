-- Which bit of a reader's answer tells of which field, by its id; and what else is said of the fields that were there (CR 6). `Value` of `TaggedLayout` has
-- the ids beside MySQL's names, and the same by these names is `bits-by-name` of proofs/FieldNames.antt.
use Rattle.std.specs.Prelude.{ℕ, ◌^◌, ◌<◌, ◌≤◌, ◌≡◌, true, List, ◌⊎◌, leb, length, Result}
use Rattle.misc.specs.Pick.{pick}
use Rattle.misc.specs.declared.refusal.Refusal.{Refusal}
use Rattle.misc.specs.Parse.{Bytes}
use Rattle.misc.specs.Body.{body_limit}
use Rattle.misc.specs.Mark.{has_bit}
use Rattle.gtid_event.specs.Event.{type_of}
use Rattle.gtid_event.specs.Fits.{Fits}
use Rattle.gtid_event.specs.declared.GtidEvent.{GtidEvent}
use Rattle.gtid_event_read.specs.Seen.{Seen}
use Rattle.gtid_event_read.specs.declared.GtidRead.{GtidRead}
use Rattle.gtid_event_read.specs.Read.{seen, gtid_read}
use Rattle.gtid_event_write.specs.Writable.{writable}
use Rattle.gtid_event_write.specs.Write.{event_bytes}
use Rattle.gtid_sets.specs.Run.{names}
use Rattle.resume_set.specs.Answers.{event_of}
use Rattle.abi.specs.Answers.{number_in}
use Rattle.abi.specs.Flat.{read_present}
use Rattle.promises.specs.TaggedLayout.{Sent, FieldsLaid, TaggedLaid}
use Rattle.promises.specs.SetFaults.{key_of}
use Rattle.promises.specs.Exact.{Exactly}

-- whether the bytes have a field with this id before the end of the fields
abbrev pub Has : ℕ → {last : ℕ} {told : List Sent} {bs : List ℕ} → FieldsLaid last told bs → Type 0
Has k FieldsLaid.end = ⊥
Has k (FieldsLaid.ignored rest form new over) = ⊥
Has k (FieldsLaid.field {id = id} form value rest) = (id ≡ k) ⊎ Has k rest

-- the bits of an answer, 0 with a refusal
abbrev pub bits_in : Result GtidRead Refusal → ℕ
bits_in r = number_in r (λ x. x.present)

pub record Presence : Type 0 where
  -- the bit of a field is set exactly if the event has it
  pub bits : (s : List ℕ) (x : Seen) (used id : ℕ) → length s ≤ body_limit → (laid : TaggedLaid s x used) → id < 12
      → Exactly (has_bit id (bits_in (gtid_read (seen 42 s))) ≡ true) (Has id laid.fields_are)
  -- there are no other bits
  pub twelve : (type : ℕ) (s : List ℕ) → Bytes s → bits_in (gtid_read (seen type s)) < 2 ^ 12
  -- the archive tells the same where there is room for the record, and else nothing
  pub archive : (type : ℕ) (s : List ℕ) (room : ℕ) → read_present (seen type s) room ≡ pick (leb 116 room) (bits_in (gtid_read (seen type s))) 0
  -- what is written is sent with its id: a record that can be written is never 21
  pub written : (e : GtidEvent) → Fits e → writable e ≡ true → event_of (type_of e) (event_bytes e) ≡ names (key_of e) e.gno
  -- an event of another type has none
  pub tagged_alone : (type : ℕ) (s : List ℕ) → (type ≡ 42 → ⊥) → bits_in (gtid_read (seen type s)) ≡ 0
