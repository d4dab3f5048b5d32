-- The statements of `specs/Presence.antt` hold.
use Prim.Native.Nat.{ℕ, ◌^◌, ◌<◌, ◌≤◌}
use mathlib.Core.Path.{◌≡◌, refl, sym, ap, ◌∙◌}
use mathlib.Core.Bool.{true, false, or-true}
use mathlib.Core.List.{List}
use mathlib.Core.Logic.{inl, inr}
use native.Mathlib.Omega.{arith}
use lib.Dec.{leb, eqb}
use lib.ListN.{length, get_or}
use borrow.Author.Tests.{eqb-true, eq-eqb}
use Rattle.misc.specs.Parse.{Bytes, Parse, refuse, parsed}
use Rattle.misc.specs.Pick.{pick}
use Rattle.misc.specs.Body.{body_limit}
use Rattle.misc.specs.Mark.{has_bit}
use Rattle.packets.proofs.Tests.{split, clash}
use Rattle.gtid_event_read.specs.Seen.{Seen, bits_of}
use Rattle.gtid_event_read.specs.Read.{seen, gtid_read}
use Rattle.gtid_event_read.proofs.PresentLaws.{bit-of, bits_below}
use Rattle.gtid_event_read.proofs.ReadLaws.{seen-parsed}
use Rattle.abi.specs.Flat.{read_present}
use Rattle.promises.specs.TaggedLayout.{Sent, Value, FieldsLaid, id_of, sends, TaggedLaid}
use Rattle.promises.specs.Meaning.{RecordLaid}
use Rattle.promises.specs.Exact.{Exactly}
use Rattle.promises.specs.Presence.{Has, bits_in, Presence}
use Rattle.promises.proofs.TaggedSaid.{listed}
use Rattle.promises.proofs.Demand2.{laid-record-read, records-mean}
use Rattle.promises.proofs.Naming.{written-named}

-- what a value says has the id of its field
value-id : {id : ℕ} {x : Sent} {bs : List ℕ} (v : Value id x bs) → id_of x ≡ id
value-id (Value.gtid_flags form few) = refl
value-id (Value.uuid items size) = refl
value-id (Value.gno form) = refl
value-id (Value.tag form good) = refl
value-id (Value.last_committed form) = refl
value-id (Value.sequence_number form) = refl
value-id (Value.immediate_commit_timestamp form) = refl
value-id (Value.original_commit_timestamp form) = refl
value-id (Value.transaction_length form) = refl
value-id (Value.immediate_server_version form few) = refl
value-id (Value.original_server_version form few) = refl
value-id (Value.commit_group_ticket form) = refl

-- ---- a field is among those that were sent just if the bytes have it

sent-has : (k : ℕ) {last : ℕ} {told : List Sent} {bs : List ℕ} (laid : FieldsLaid last told bs) → sends k told ≡ true → Has k laid
sent-has k FieldsLaid.end h = clash h refl
sent-has k (FieldsLaid.ignored rest form new over) h = clash h refl
sent-has k (FieldsLaid.field {x = x} form value rest) h = split (eqb (id_of x) k)
    (λ is. inl (sym (value-id value) ∙ eqb-true (id_of x) k is))
    (λ other. inr (sent-has k rest (rw other at h)))

has-sent : (k : ℕ) {last : ℕ} {told : List Sent} {bs : List ℕ} (laid : FieldsLaid last told bs) → Has k laid → sends k told ≡ true
has-sent k FieldsLaid.end h = elim h [ ]
has-sent k (FieldsLaid.ignored rest form new over) h = elim h [ ]
has-sent k (FieldsLaid.field {x = x} form value rest) (inl is) = rw (eq-eqb (id_of x) k (value-id value ∙ is))
has-sent k (FieldsLaid.field {x = x} form value rest) (inr more) = rw (has-sent k rest more) (or-true (eqb (id_of x) k))

bits : (s : List ℕ) (x : Seen) (used id : ℕ) → length s ≤ body_limit → (laid : TaggedLaid s x used) → id < 12
    → Exactly (has_bit id (bits_in (gtid_read (seen 42 s))) ≡ true) (Has id laid.fields_are)
bits s x used id few laid low =
    let told = laid.told in
    let read : seen 42 s ≡ parsed x used = laid-record-read 42 s x used (RecordLaid.tagged few refl laid) in
    let bit : has_bit id (bits_in (gtid_read (seen 42 s))) ≡ sends id told =
    ap (λ (p : Parse Seen). has_bit id (bits_in (gtid_read p))) read ∙ bit-of id x.present
    ∙ ap (λ (y : Seen). get_or y.present id false) laid.is ∙ sym (listed told id low) in (
      λ set. sent-has id laid.fields_are (sym bit ∙ set),
      λ there. bit ∙ has-sent id laid.fields_are there,
    )

-- ---- all of them

archive : (p : Parse Seen) (room : ℕ) → read_present p room ≡ pick (leb 116 room) (bits_in (gtid_read p)) 0
archive (refuse r) room = split (leb 116 room) (λ h. rw h) (λ h. rw h)
archive (parsed x next) room = refl

laid-twelve : (type : ℕ) (s : List ℕ) (x : Seen) (used : ℕ) → RecordLaid type s x used → length x.present ≡ 12
laid-twelve type s x used (RecordLaid.untagged few is laid none) = rw none
laid-twelve type s x used (RecordLaid.tagged few is laid) = rw laid.is

twelve : (type : ℕ) (s : List ℕ) → Bytes s → bits_in (gtid_read (seen type s)) < 2 ^ 12
twelve type s are = go (seen type s) refl
  where
    go : (p : Parse Seen) → seen type s ≡ p → bits_in (gtid_read p) < 2 ^ 12
    go (refuse r) e = omega arith
    go (parsed x used) e = bits_below 12 x.present (omega (arith, laid-twelve type s x used ((records-mean type s x used are).0 e)))

tagged_alone : (type : ℕ) (s : List ℕ) → (type ≡ 42 → ⊥) → bits_in (gtid_read (seen type s)) ≡ 0
unfolding bits_of
tagged_alone type s other = go (seen type s) refl
  where
    go : (p : Parse Seen) → seen type s ≡ p → bits_in (gtid_read p) ≡ 0
    go (refuse r) e = refl
    go (parsed x used) e = seen-parsed type s e (λ _ _ v plain is. rw is) (λ _ is _. absurd (other is))

pub presence : Presence
presence = record {
  bits = bits;
  twelve = twelve;
  archive = λ type s room. archive (seen type s) room;
  written = written-named;
  tagged_alone = tagged_alone;
}
