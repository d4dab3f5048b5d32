-- A tagged record that can be written reads back equal, from exactly its bytes.
use mathlib.Core.Path.{◌≡◌, refl, sym}
use mathlib.Core.Bool.{true, not}
use mathlib.Core.List.{List, [], ◌∷◌, ◌++◌, append_assoc, append-nil}
use Prim.Native.Nat.{ℕ, ◌+◌, ◌-◌, ◌≤◌}
use native.Mathlib.Omega.{arith}
use lib.Dec.{eqb}
use lib.ListN.{length}
use lib.Seq.{length-take-le}
use borrow.Author.Tests.{eqb-true, le-leb}
use Rattle.misc.specs.Pick.{pick}
use Rattle.misc.specs.Parse.{parsed}
use Rattle.misc.specs.Varlen.{varlen_bytes}
use Rattle.misc.proofs.VarlenLaws.{length-varlen_bytes, length-small}
use Rattle.misc.proofs.Places.{from-part}
use Rattle.packets.proofs.Tests.{split}
use Rattle.gtid_event.specs.Event as event
use Rattle.gtid_event.specs.declared.GtidEvent.{GtidEvent}
use Rattle.gtid_event.proofs.BuiltLaws.{same-event}
use Rattle.gtid_event_read.specs.declared.Fields.{Fields}
use Rattle.gtid_event_read.specs.Seen.{Seen}
use Rattle.gtid_event_read.specs.Fields.{no_fields, with_number, with_uuid, with_tag_bytes, fields_of}
use Rattle.gtid_event_read.specs.Tagged.{record_of, tagged}
use Rattle.gtid_event_write.specs.Writable.{tag_of, writable}
use Rattle.gtid_event_write.specs.Size.{payload_size}
use Rattle.gtid_event_write.specs.Layout.{identity_bytes, clock_bytes, rest_bytes, field_bytes, tagged_bytes}
use Rattle.gtid_event.specs.Fits.{Fits}
use Rattle.gtid_event_laws.proofs.Stands.{Stands, at_front, each, stands-within, stands_from, byte-stands, varlen-stands}
use Rattle.gtid_event_laws.proofs.WritableLaws.{TaggedFacts, tagged-facts}
use Rattle.gtid_event_write.proofs.SizeLaws.{payload-agrees}
use Rattle.gtid_event_write.proofs.LayoutLaws.{length-tagged}
use Rattle.gtid_event_write.proofs.TotalsLaws.{total-most}
use Rattle.gtid_event_laws.proofs.FieldsBack.{Run, plain, limited, doubled, one, ◌then◌, perhaps, number-field, uuid-field, tag-field, optional}
use Rattle.gtid_event_laws.proofs.FieldsBack.{run-read}

-- ---- the fields, and what is there once they are read

abbrev identified : GtidEvent → Fields → Fields
identified e f = with_tag_bytes (with_number 2 (with_uuid (with_number 0 f e.flags) e.sid) e.gno) (tag_of e)

abbrev timed : GtidEvent → Fields → Fields
timed e f =
    perhaps 7 e.original_commit_timestamp (eqb e.original_commit_timestamp e.immediate_commit_timestamp)
    (with_number 6 (with_number 5 (with_number 4 f e.last_committed) e.sequence_number) e.immediate_commit_timestamp)

abbrev closed : GtidEvent → Fields → Fields
closed e f =
    perhaps 11 e.commit_group_ticket (eqb e.commit_group_ticket 0)
    (perhaps 10 e.original_server_version (eqb e.original_server_version e.immediate_server_version)
    (with_number 9 (with_number 8 f e.tx_length) e.immediate_server_version))

-- all of a record's fields
abbrev all_read : GtidEvent → Fields
all_read e = closed e (timed e (identified e no_fields))

-- what is seen of it then
abbrev pub all_seen : GtidEvent → Seen
all_seen e = record { event = e; present = (all_read e).present }

-- an original that is left out where it equals the immediate
original-back : (original immediate : ℕ) → pick (not (eqb original immediate)) (pick (eqb original immediate) 0 original) immediate ≡ original
original-back original immediate =
    split (eqb original immediate) (λ same. rw same (sym (eqb-true original immediate same))) (λ other. rw other)

-- a number that is left out where it is 0
zero-back : (v : ℕ) → pick (eqb v 0) 0 v ≡ v
zero-back v = split (eqb v 0) (λ none. rw none (sym (eqb-true v 0 none))) (λ other. rw other)

module _ (e : GtidEvent) (fits : Fits e) (facts : TaggedFacts e) where
  tag-length : length (tag_of e) ≡ e.tag_len
  tag-length =
      let size = fits.tag_size in
      let most = facts.tests.tag in
      length-take-le e.tag_len e.tag (omega arith)

  identity-run : Run no_fields (identity_bytes e) (identified e no_fields)
  unfolding identity_bytes
  identity-run =
      let flags = fits.flags_fit in
      one (number-field 0 (omega arith) (limited (omega arith) (omega arith)))
      then one (uuid-field e.sid fits.sid_size fits.sid_fits)
      then one (number-field 2 (omega arith) (doubled facts.tests.gno))
      then one (tag-field (tag_of e) e.tag_len (sym tag-length) facts.tests.valid)

  clock-run : Run (identified e no_fields) (clock_bytes e) (timed e (identified e no_fields))
  unfolding clock_bytes
  clock-run =
      one (number-field 4 (omega arith) (doubled facts.tests.last))
      then one (number-field 5 (omega arith) (doubled facts.tests.sequence))
      then one (number-field 6 (omega arith) (plain fits.immediate_fits))
      then optional 7 e.original_commit_timestamp e.immediate_commit_timestamp refl
      (number-field 7 (omega arith) (plain fits.original_fits))

  rest-run : Run (timed e (identified e no_fields)) (rest_bytes e) (all_read e)
  unfolding rest_bytes
  rest-run =
      let version = fits.version_fits in
      let original = fits.original_version_fits in
      one (number-field 8 (omega arith) (plain fits.length_fits))
      then one (number-field 9 (omega arith) (limited (omega arith) (omega arith)))
      then optional 10 e.original_server_version e.immediate_server_version refl
      (number-field 10 (omega arith) (limited (omega arith) (omega arith)))
      then optional 11 e.commit_group_ticket 0 refl (number-field 11 (omega arith) (plain fits.ticket_fits))

  fields_read : fields_of 0 (field_bytes e) ≡ parsed (all_read e) (length (field_bytes e))
  unfolding field_bytes
  fields_read = run-read (identity-run then clock-run then rest-run) 0 (length (field_bytes e)) [] (omega arith)

  record_is : record_of (all_read e) ≡ e
  record_is =
      same-event (record_of (all_read e)) e refl refl refl facts.tag-padded tag-length (sym facts.tests.typecode) refl refl refl
      (original-back e.original_commit_timestamp e.immediate_commit_timestamp) refl refl
      (original-back e.original_server_version e.immediate_server_version) (zero-back e.commit_group_ticket)

-- ---- the whole

module _ (e : GtidEvent) (fits : Fits e) (facts : TaggedFacts e) where
  tagged-stands : {s : List ℕ} → Stands (tagged_bytes e) s 0 → tagged s ≡ parsed (all_seen e) (length (tagged_bytes e))
  unfolding tagged
  tagged-stands {s} st =
      let size = payload_size (length (field_bytes e)) in
      let whole : size ≡ length (tagged_bytes e) = sym (length-tagged e) in
      let most : size ≤ 156 = total-most e fits facts.tests in
      let within = stands-within st in
      let (version, (count, (last, (fields, _)))) =
      each ((2 ∷ []) ∷ varlen_bytes size ∷ varlen_bytes 0 ∷ field_bytes e ∷ []) st (unfold tagged_bytes in simp (append_assoc, append-nil)) in
      let start = 0 + 1 + length (varlen_bytes size) + length (varlen_bytes 0) in
      let sum : size ≡ start + length (field_bytes e) =
      omega (arith, payload-agrees (length (field_bytes e)), length-varlen_bytes size, length-small 0 (omega arith)) in
      rw (
        byte-stands 2 version,
        varlen-stands size (omega arith) count,
        varlen-stands 0 (omega arith) last,
        le-leb start size (omega arith),
        le-leb size (length s) (omega arith),
        from-part s start (field_bytes e) fields.after (stands_from fields) (size - start) (omega arith),
        fields_read e fits facts,
        record_is e fits facts,
        whole,
      )

-- Written, it reads back equal, and its bytes are those used, whatever follows them.
pub tagged-back : (e : GtidEvent) → Fits e → writable e ≡ true → event.tagged e ≡ true → (rest : List ℕ)
    → tagged (tagged_bytes e ++ rest) ≡ parsed (all_seen e) (length (tagged_bytes e))
tagged-back e fits w is rest = tagged-stands e fits (tagged-facts e fits w is) (at_front (tagged_bytes e) rest)
