-- The twelve fields by MySQL's names: the bit of each is set exactly if the bytes have it.
use Prim.Native.Nat.{ℕ, ◌<◌, ◌≤◌}
use mathlib.Core.Path.{◌≡◌, refl, sym, ap, ◌∙◌}
use mathlib.Core.Bool.{true}
use mathlib.Core.List.{List, [], ◌∷◌}
use mathlib.Core.Logic.{◌⊎◌, inl, inr}
use native.Mathlib.Omega.{arith}
use lib.ListN.{length, get_or}
use Rattle.misc.specs.Body.{body_limit}
use Rattle.misc.specs.Mark.{has_bit}
use Rattle.gtid_event_read.specs.Seen.{Seen}
use Rattle.gtid_event_read.specs.Read.{seen, gtid_read}
use Rattle.promises.specs.TaggedLayout.{Sent, Value, FieldsLaid, TaggedLaid}
use Rattle.promises.specs.Exact.{Exactly}
use Rattle.promises.specs.Presence.{bits_in, Has}
use Rattle.promises.proofs.PresenceHolds.{presence}

pub data Field : Type 0 where
  gtid_flags : Field
  uuid : Field
  gno : Field
  tag : Field
  last_committed : Field
  sequence_number : Field
  immediate_commit_timestamp : Field
  original_commit_timestamp : Field
  transaction_length : Field
  immediate_server_version : Field
  original_server_version : Field
  commit_group_ticket : Field

-- the id of a field, and so the bit that tells of it
abbrev pub field_id : Field → ℕ
field_id Field.gtid_flags = 0
field_id Field.uuid = 1
field_id Field.gno = 2
field_id Field.tag = 3
field_id Field.last_committed = 4
field_id Field.sequence_number = 5
field_id Field.immediate_commit_timestamp = 6
field_id Field.original_commit_timestamp = 7
field_id Field.transaction_length = 8
field_id Field.immediate_server_version = 9
field_id Field.original_server_version = 10
field_id Field.commit_group_ticket = 11

-- the field that a value of the layout's table is of
abbrev pub field_of : {id : ℕ} {x : Sent} {bs : List ℕ} → Value id x bs → Field
field_of (Value.gtid_flags form low) = Field.gtid_flags
field_of (Value.uuid items size) = Field.uuid
field_of (Value.gno form) = Field.gno
field_of (Value.tag form good) = Field.tag
field_of (Value.last_committed form) = Field.last_committed
field_of (Value.sequence_number form) = Field.sequence_number
field_of (Value.immediate_commit_timestamp form) = Field.immediate_commit_timestamp
field_of (Value.original_commit_timestamp form) = Field.original_commit_timestamp
field_of (Value.transaction_length form) = Field.transaction_length
field_of (Value.immediate_server_version form low) = Field.immediate_server_version
field_of (Value.original_server_version form low) = Field.original_server_version
field_of (Value.commit_group_ticket form) = Field.commit_group_ticket

-- the names by their ids
abbrev by_id : List Field
by_id =
    Field.gtid_flags ∷ Field.uuid ∷ Field.gno ∷ Field.tag ∷ Field.last_committed ∷ Field.sequence_number
    ∷ Field.immediate_commit_timestamp ∷ Field.original_commit_timestamp ∷ Field.transaction_length
    ∷ Field.immediate_server_version ∷ Field.original_server_version ∷ Field.commit_group_ticket ∷ []

back : (f : Field) → get_or by_id (field_id f) Field.gtid_flags ≡ f
back Field.gtid_flags = refl
back Field.uuid = refl
back Field.gno = refl
back Field.tag = refl
back Field.last_committed = refl
back Field.sequence_number = refl
back Field.immediate_commit_timestamp = refl
back Field.original_commit_timestamp = refl
back Field.transaction_length = refl
back Field.immediate_server_version = refl
back Field.original_server_version = refl
back Field.commit_group_ticket = refl

low : (f : Field) → field_id f < 12
low Field.gtid_flags = omega arith
low Field.uuid = omega arith
low Field.gno = omega arith
low Field.tag = omega arith
low Field.last_committed = omega arith
low Field.sequence_number = omega arith
low Field.immediate_commit_timestamp = omega arith
low Field.original_commit_timestamp = omega arith
low Field.transaction_length = omega arith
low Field.immediate_server_version = omega arith
low Field.original_server_version = omega arith
low Field.commit_group_ticket = omega arith

value-name : {id : ℕ} {x : Sent} {bs : List ℕ} (v : Value id x bs) → field_id (field_of v) ≡ id
value-name (Value.gtid_flags form few) = refl
value-name (Value.uuid items size) = refl
value-name (Value.gno form) = refl
value-name (Value.tag form good) = refl
value-name (Value.last_committed form) = refl
value-name (Value.sequence_number form) = refl
value-name (Value.immediate_commit_timestamp form) = refl
value-name (Value.original_commit_timestamp form) = refl
value-name (Value.transaction_length form) = refl
value-name (Value.immediate_server_version form few) = refl
value-name (Value.original_server_version form few) = refl
value-name (Value.commit_group_ticket form) = refl

-- whether the bytes have it before the end of the fields
abbrev pub HasNamed : Field → {last : ℕ} {told : List Sent} {bs : List ℕ} → FieldsLaid last told bs → Type 0
HasNamed f FieldsLaid.end = ⊥
HasNamed f (FieldsLaid.ignored rest form new over) = ⊥
HasNamed f (FieldsLaid.field form value rest) = (field_of value ≡ f) ⊎ HasNamed f rest

to-name : (f : Field) {last : ℕ} {told : List Sent} {bs : List ℕ} (laid : FieldsLaid last told bs) → Has (field_id f) laid → HasNamed f laid
to-name f FieldsLaid.end h = elim h [ ]
to-name f (FieldsLaid.ignored rest form new over) h = elim h [ ]
to-name f (FieldsLaid.field form value rest) (inl is) =
    inl (sym (back (field_of value)) ∙ ap (λ (k : ℕ). get_or by_id k Field.gtid_flags) (value-name value ∙ is) ∙ back f)
to-name f (FieldsLaid.field form value rest) (inr more) = inr (to-name f rest more)

to-id : (f : Field) {last : ℕ} {told : List Sent} {bs : List ℕ} (laid : FieldsLaid last told bs) → HasNamed f laid → Has (field_id f) laid
to-id f FieldsLaid.end h = elim h [ ]
to-id f (FieldsLaid.ignored rest form new over) h = elim h [ ]
to-id f (FieldsLaid.field form value rest) (inl is) = inl (sym (value-name value) ∙ ap field_id is)
to-id f (FieldsLaid.field form value rest) (inr more) = inr (to-id f rest more)

pub bits-by-name : (s : List ℕ) (x : Seen) (used : ℕ) → length s ≤ body_limit → (laid : TaggedLaid s x used) → (f : Field)
    → Exactly (has_bit (field_id f) (bits_in (gtid_read (seen 42 s))) ≡ true) (HasNamed f laid.fields_are)
bits-by-name s x used few laid f =
    let both = presence.bits s x used (field_id f) few laid (low f) in (
      λ set. to-name f laid.fields_are (both.0 set),
      λ there. both.1 (to-id f laid.fields_are there),
    )
