-- Demand 1, "given exactly when": every public function that can refuse, by its name, and once where some promise the same. Its answer is the right
-- side of the function's own promise, and it refuses with a number exactly where the case of that number holds. From this follows that no two cases with
-- different numbers hold at once, so that the tables say which of several faults counts, and that a call accepts exactly where no case holds (`one-case`
-- and `accepted` of proofs/OneOutcome.antt).
use Rattle.std.specs.Prelude.{ℕ, ◌+◌, ◌*◌, ◌≤◌, ◌≡◌, Bool, true, false, List, ◌++◌, length, drop, Result, Ok, Err}
use Rattle.std.specs.Borrow.{Bor}
use Rattle.misc.specs.declared.refusal.Refusal.{Refusal}
use Rattle.misc.specs.declared.refusal.WriteError.{WriteError}
use Rattle.misc.specs.Refusal.{number, error_number, error_needed}
use Rattle.misc.specs.Parse.{Bytes, refusal_in, read_of}
use Rattle.misc.specs.Body.{of_body}
use Rattle.misc.specs.Le.{le_at}
use Rattle.misc.specs.Varlen.{varlen_at}
use Rattle.misc.specs.Signed.{signed_at, natural_at}
use Rattle.misc.specs.Lenenc.{lenenc_at}
use Rattle.misc.specs.Output.{bytes, answer_of, written_number, written_len}
use Rattle.previous_gtids_event.specs.Entry.{Entry}
use Rattle.packets.specs.Tag.{none_or_tag}
use Rattle.previous_gtids_event.specs.Previous.{interval_at, entry_at, previous}
use Rattle.previous_gtids_event.specs.Rewrite.{rewritten}
use Rattle.previous_gtids_event.specs.Answers.{previous_read, header_read, entry_read, interval_read}
use Rattle.previous_gtids_reader.specs.declared.Cursor.{Cursor}
use Rattle.previous_gtids_reader.specs.Held.{begun}
use Rattle.previous_gtids_reader.specs.Steps.{start_of, step_of, step_after}
use Rattle.gtid_event.specs.Event.{with_tag, new_tagged}
use Rattle.gtid_event.specs.declared.GtidEvent.{GtidEvent}
use Rattle.gtid_event_read.specs.Seen.{Seen}
use Rattle.gtid_event_read.specs.Read.{seen, gtid, named, gtid_read}
use Rattle.gtid_event_write.specs.Writable.{writable}
use Rattle.gtid_event_write.specs.Write.{event_bytes, event_output, length_of}
use Rattle.gtid_sets.specs.Lent.{lent_set, SetLaid}
use Rattle.set_check.specs.Check.{checked_of}
use Rattle.set_join.specs.Answers.{contained, take_in_answers}
use Rattle.resume_set.specs.Answers.{set_read}
use Rattle.resume_set.specs.declared.Offered.{Offered}
use Rattle.listing.specs.SetText.{set_text, listed_set}
use Rattle.abi.specs.Answers.{entry_in}
use Rattle.abi.specs.Flat.{flat, flat_read, read_output, read_used, write_output}
use Rattle.resume_set_laws.specs.History.{Turn, Offering, member}
use Rattle.promises.specs.Meaning.{RecordLaid}
use Rattle.promises.specs.Faults.{EventFault}
use Rattle.promises.specs.BodyFaults.{EntryFault, BodyFault}
use Rattle.promises.specs.PlainFaults.{FixedFault, VarlenFault, NaturalFault, LenencFault, OfBody, HeadedFault, NumberFault, TagFault, RecordFault}
use Rattle.promises.specs.PlainFaults.{ShortFault, WriteFault}
use Rattle.promises.specs.SetFaults.{SetFault, NamingFault, RewrittenAs, TakeInFault, TakenInAs, OfferFault, OfferAnswer}

-- either holds just if the other does
abbrev pub Exactly : Type 0 → Type 0 → Type 0
Exactly A B = (A → B) × (B → A)

-- a refusal's number that is answered, 0 for none
abbrev pub RefusesExactly : ℕ → (ℕ → Type 0) → Type 0
RefusesExactly refusal Fault = (n : ℕ) → Exactly ((refusal ≡ n) × (n ≡ 0 → ⊥)) (Fault n)

-- the same with the length that it names
abbrev pub NumbersExactly : ℕ → ℕ → (ℕ → ℕ → Type 0) → Type 0
NumbersExactly refusal needed Fault = (n len : ℕ) → Exactly ((refusal ≡ n) × (needed ≡ len) × (n ≡ 0 → ⊥)) (Fault n len)

-- of a call that writes
abbrev pub WritesExactly : Result ℕ WriteError → (ℕ → ℕ → Type 0) → Type 0
WritesExactly wrote Fault = NumbersExactly (written_number wrote) (written_len wrote) Fault

-- a number that a refusal has; and one with a length that a writer's error has
abbrev pub IsRefusal : ℕ → Type 0
IsRefusal n = (r : Refusal) × (number r ≡ n)

abbrev pub IsError : ℕ → ℕ → Type 0
IsError n len = (x : WriteError) × (error_number x ≡ n) × (error_needed x ≡ len)

-- ---- misc

pub record IntegersExact : Type 0 where
  -- `read_u32_le`, `read_u56_le` and `read_u64_le`
  pub fixed : (w : ℕ) → 1 ≤ w → (s : List ℕ) (at : ℕ) → RefusesExactly (refusal_in (read_of (le_at w s at))) (FixedFault w (drop at s))
  pub read_varlen_uint : (s : List ℕ) (at : ℕ) → Bytes s → RefusesExactly (refusal_in (read_of (varlen_at s at))) (VarlenFault (drop at s))
  pub read_varlen_int : (s : List ℕ) (at : ℕ) → Bytes s → RefusesExactly (refusal_in (read_of (signed_at s at))) (VarlenFault (drop at s))
  pub read_varlen_natural : (s : List ℕ) (at : ℕ) → Bytes s → RefusesExactly (refusal_in (read_of (natural_at s at))) (NaturalFault (drop at s))
  pub read_lenenc_int : (s : List ℕ) (at : ℕ) → Bytes s → RefusesExactly (refusal_in (read_of (lenenc_at s at))) (LenencFault (drop at s))
  -- whatever has its bytes to write, whatever it is given: `write_bytes`, `write_u32_le`, `write_u56_le`, `write_u64_le`, `write_varlen_uint`,
  -- `write_varlen_int`, `write_lenenc_int`; `list` and `list_input` of listing, `write` of report; `gtid_list`
  pub write : (bs out : List ℕ) → WritesExactly (answer_of out (bytes bs)) (ShortFault bs (length out))

-- ---- gtid_event, gtid_event_read, gtid_event_write

pub record EventsExact : Type 0 where
  pub with_tag : (tag : List ℕ) (e : GtidEvent) → RefusesExactly (refusal_in (with_tag tag e)) (TagFault tag)
  pub new_tagged : (sid tag : List ℕ) (gno : ℕ) → RefusesExactly (refusal_in (new_tagged sid tag gno)) (TagFault tag)
  pub read : (type : ℕ) (body : List ℕ) → Bytes body → RefusesExactly (refusal_in (gtid_read (seen type body))) (EventFault type body)
  pub read_named : (type : ℕ) (body : List ℕ) → Bytes body → RefusesExactly (refusal_in (gtid_read (named type body))) (NamingFault type body)
  pub write : (e : GtidEvent) (out : List ℕ)
      → WritesExactly (answer_of out (event_output e)) (WriteFault (RecordFault e) (λ bs. (writable e ≡ true) × (bs ≡ event_bytes e)) (length out))
  pub length : (e : GtidEvent) → RefusesExactly (refusal_in (length_of e)) (RecordFault e)

-- ---- previous_gtids_event

pub record BodiesExact : Type 0 where
  pub read : (body : List ℕ) → Bytes body → RefusesExactly (refusal_in (previous_read (previous body))) (BodyFault body)
  pub header_of : (body : List ℕ) → RefusesExactly (refusal_in (header_read (of_body body (le_at 8 body 0)))) (OfBody body (FixedFault 8 body))
  pub entry_at : (body : List ℕ) (at : ℕ) (tagged : Bool) → Bytes body
      → RefusesExactly (refusal_in (entry_read (of_body body (entry_at tagged body at)))) (OfBody body (EntryFault tagged (drop at body)))
  pub interval_at : (body : List ℕ) (first index : ℕ)
      → RefusesExactly (refusal_in (interval_read (of_body body (interval_at body (first + 16 * index)))))
      (OfBody body (FixedFault 16 (drop (first + 16 * index) body)))
  pub rewrite : (body out : List ℕ) → Bytes body
      → WritesExactly (answer_of out (rewritten (previous body)))
      (WriteFault (BodyFault body) (RewrittenAs body) (length out))

-- ---- previous_gtids_reader: a step's number comes from the body, whatever made its cursor

pub record ReaderExact : Type 0 where
  pub start : (body : List ℕ) → RefusesExactly (refusal_in (start_of body)) (OfBody body (FixedFault 8 body))
  pub try_new : (body : Bor (List ℕ)) → RefusesExactly (refusal_in (begun body (start_of body.now))) (OfBody body.now (FixedFault 8 body.now))
  -- `next`, which holds its body, promises the same
  pub step_at : (body : List ℕ) (c : Cursor) → Bytes body
      → RefusesExactly (refusal_in (step_of body c)) (OfBody body (HeadedFault c.left c.at body))
  pub entry_number : (body : List ℕ) (index : ℕ) → Bytes body
      → RefusesExactly (refusal_in (step_after body index)) (OfBody body (NumberFault index body))

-- ---- set_check, resume_set and listing

pub record SetsExact : Type 0 where
  pub check : (set : List ℕ) → RefusesExactly (refusal_in (checked_of (lent_set set))) (SetFault set)
  pub check_set : (set : List ℕ) → RefusesExactly (refusal_in (set_read (lent_set set))) (SetFault set)
  pub contains : (set uuid tag : List ℕ) (gno : ℕ) → RefusesExactly (refusal_in (contained (lent_set set) uuid tag gno)) (SetFault set)
  pub take_in : (body out : List ℕ) → Bytes body
      → WritesExactly (take_in_answers body out) (WriteFault (TakeInFault body) (TakenInAs body) (length out))
  pub list_set : (word set out : List ℕ)
      → WritesExactly (answer_of out (listed_set word (lent_set set)))
      (WriteFault (SetFault set) (λ bs. (s : List Entry) × SetLaid set s × (bs ≡ set_text word s)) (length out))

-- ---- `offer`, and any in its place: every answer, and what it leaves in the output, exactly where its case holds

abbrev pub OffersExactly : Offering → Type 0
OffersExactly f = (set : List ℕ) (t : Turn) (a : Result Offered WriteError) (l : List ℕ) → Bytes t.body
    → Exactly ((f.answers set t ≡ a) × (f.leaves set t ≡ l)) (OfferAnswer set t.type t.body t.out a l)

-- whatever is wrong with one has an answer: the number and the length are an error's
abbrev pub OfferFaultsAnswered : Type 0
OfferFaultsAnswered = (set : List ℕ) (type : ℕ) (body : List ℕ) (room n len : ℕ) → OfferFault set type body room n len → IsError n len

-- ---- `contains`, and any in its place: of a set's bytes, the parts of an id and its number it says whether the id is a member, and of anything else no

abbrev pub Asking : Type 0
Asking = List ℕ → List ℕ → List ℕ → ℕ → Bool

pub record AsksExactly (ask : Asking) : Type 0 where
  pub id : (set uuid tag : List ℕ) (gno : ℕ) → length uuid ≡ 16 → none_or_tag tag ≡ true → ask set uuid tag gno ≡ member set (uuid ++ tag) gno
  pub no_uuid : (set uuid tag : List ℕ) (gno : ℕ) → (length uuid ≡ 16 → ⊥) → ask set uuid tag gno ≡ false
  pub no_tag : (set uuid tag : List ℕ) (gno : ℕ) → none_or_tag tag ≡ false → ask set uuid tag gno ≡ false

-- the one that `contains` promises; a refusal says no
abbrev pub says_yes : Result Bool Refusal → Bool
says_yes (Ok b) = b
says_yes (Err x) = false

abbrev pub asks : Asking
asks set uuid tag gno = says_yes (contained (lent_set set) uuid tag gno)

-- ---- the archive's calls (crate abi)

-- a record in 116 bytes that is to be written
pub data FlatFault (fields : List ℕ) : ℕ → Type 0 where
  -- 12: it has another length, or isn't writable
  other_size : (length fields ≡ 116 → ⊥) → FlatFault fields 12
  bad_record : {n : ℕ} → length fields ≡ 116 → RecordFault (flat_read fields) n → FlatFault fields n

-- `gtid_read_varlen_uint`, `gtid_check_set`, `gtid_contains`, `gtid_take_in`, `gtid_read_previous` and `gtid_rewrite` promise the right sides of the calls
-- that they are named for (the first at the place 0), and so what is said of those holds of them; so does `gtid_offer`, in numbers (`SetsTold`)
pub record ArchiveExact : Type 0 where
  pub gtid_read_entry : (body : List ℕ) (at : ℕ) → Bytes body
      → RefusesExactly (refusal_in (entry_read (entry_in body at))) (OfBody body (HeadedFault 1 at body))
  -- a record that is read into 116 bytes, also by `gtid_read_present`: what is answered for 13 in the place of the bytes used is the length that is needed
  pub gtid_read : (type : ℕ) (body out : List ℕ) → Bytes body
      → NumbersExactly (written_number (answer_of out (read_output (gtid type body)))) (read_used (gtid type body) (length out))
      (WriteFault (EventFault type body) (λ bs. (x : Seen) × (used : ℕ) × RecordLaid type body x used × (bs ≡ flat x.event)) (length out))
  pub gtid_write : (fields out : List ℕ)
      → WritesExactly (answer_of out (write_output fields))
      (WriteFault (FlatFault fields) (λ bs. (length fields ≡ 116) × (writable (flat_read fields) ≡ true) × (bs ≡ event_bytes (flat_read fields))) (length out))
