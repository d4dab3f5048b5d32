-- The statements of `specs/Exact.antt` for the archive's calls.
use Prim.Native.Nat.{ℕ}
use mathlib.Core.Path.{◌≡◌, refl, sym, ◌∙◌}
use mathlib.Core.Bool.{true}
use mathlib.Core.List.{List}
use lib.Dec.{eqb, leb}
use lib.ListN.{length}
use borrow.Author.Tests.{eqb-true, eqb-false, eq-eqb, ne_eqb}
use Rattle.misc.specs.declared.refusal.Refusal.{Refusal}
use Rattle.misc.specs.Refusal.{number, not_writable}
use Rattle.misc.specs.Parse.{Bytes, Parse, refuse, parsed, refusal_in}
use Rattle.misc.specs.Output.{refused, bytes, answer_of, written_number, written_len}
use Rattle.packets.proofs.Tests.{split}
use Rattle.previous_gtids_event.specs.Answers.{entry_read}
use Rattle.gtid_event.specs.declared.GtidEvent.{GtidEvent}
use Rattle.gtid_event_read.specs.Seen.{Seen}
use Rattle.gtid_event_read.specs.Read.{gtid}
use Rattle.gtid_event_read.proofs.ReadLaws.{gtid-parsed, gtid-refused}
use Rattle.gtid_event_write.specs.Writable.{writable}
use Rattle.gtid_event_write.specs.Write.{event_bytes, event_output}
use Rattle.gtid_event_laws.proofs.ReadWritable.{read_fits}
use Rattle.abi.specs.Answers.{entry_in}
use Rattle.abi.specs.Flat.{flat, flat_read, read_output, read_used, write_output}
use Rattle.abi.proofs.FlatLaws.{length-flat}
use Rattle.promises.specs.Meaning.{RecordLaid}
use Rattle.promises.specs.Faults.{EventFault}
use Rattle.promises.specs.PlainFaults.{OfBody, HeadedFault, WriteFault}
use Rattle.promises.specs.Exact.{RefusesExactly, NumbersExactly, FlatFault, ArchiveExact}
use Rattle.promises.proofs.Forces.{WriterRefuses}
use Rattle.promises.proofs.Exactly.{answers-exactly, writes-exactly}
use Rattle.promises.proofs.Demand2.{laid-record-read, records-mean}
use Rattle.promises.proofs.EventExact.{event-refused, event-faulty}
use Rattle.promises.proofs.WritingExact.{write-given, write-forced, write-writes, write-written}
use Rattle.promises.proofs.SetsExact.{apart}
use Rattle.promises.proofs.BodiesExact.{headed-exact}

-- ---- a record that is read

module _ (type : ℕ) (body out : List ℕ) (are : Bytes body) where
  abbrev Flat : List ℕ → Type 0
  Flat bs = (x : Seen) × (used : ℕ) × RecordLaid type body x used × (bs ≡ flat x.event)

  read-given : (r : Refusal) → read_output (gtid type body) ≡ refused r → EventFault type body (number r)
  read-given r = go (gtid type body) refl
    where
      go : (p : Parse GtidEvent) → gtid type body ≡ p → read_output p ≡ refused r → EventFault type body (number r)
      go (refuse x) read e = let same : x ≡ r = cc in event-faulty type body are r (gtid-refused type body (rw same at read))
      go (parsed event used) read e = apart cc

  read-forced : (n : ℕ) → EventFault type body n → WriterRefuses (read_output (gtid type body)) n
  read-forced n fault = let (r, e, is) = event-refused type body n fault in (r, unfold gtid in rw e, is)

  read-writes : (bs : List ℕ) → read_output (gtid type body) ≡ bytes bs → Flat bs
  read-writes bs = go (gtid type body) refl
    where
      go : (p : Parse GtidEvent) → gtid type body ≡ p → read_output p ≡ bytes bs → Flat bs
      go (refuse x) read e = apart cc
      go (parsed event used) read e =
          let (x, told, same) = gtid-parsed type body read in
          (x, used, (records-mean type body x used are).0 told, rw same at (let is : bs ≡ flat event = cc in is))

  read-written : (bs : List ℕ) → Flat bs → read_output (gtid type body) ≡ bytes bs
  unfolding gtid
  read-written bs (x, used, laid, is) = rw (laid-record-read type body x used laid, is)

  -- where it refuses, it answers 0 or the needed length in the place of the bytes used
  used-is : (p : Parse GtidEvent) → gtid type body ≡ p → (written_number (answer_of out (read_output p)) ≡ 0 → ⊥)
      → read_used p (length out) ≡ written_len (answer_of out (read_output p))
  unfolding answer_of
  used-is (refuse r) read some = refl
  used-is (parsed e used) read some =
      let fits = read_fits body are type e used read in
      let size : length (flat e) ≡ 116 = length-flat e fits.sid_size fits.tag_size in
      split (leb 116 (length out))
      (λ room. absurd (some (rw (size, room))))
      (λ over. rw (size, over))

  read-exact : NumbersExactly (written_number (answer_of out (read_output (gtid type body)))) (read_used (gtid type body) (length out))
      (WriteFault (EventFault type body) Flat (length out))
  read-exact n len =
      let both = writes-exactly (read_output (gtid type body)) out (EventFault type body) Flat read-given read-forced read-writes read-written n len in
      let used : (written_number (answer_of out (read_output (gtid type body))) ≡ 0 → ⊥)
      → read_used (gtid type body) (length out) ≡ written_len (answer_of out (read_output (gtid type body))) =
      used-is (gtid type body) refl in (
        λ (is, long, some). both.0 (is, sym (used (λ zero. some (sym is ∙ zero))) ∙ long, some),
        λ fault.
            let (is, long, some) = both.1 fault in
            (is, used (λ zero. some (sym is ∙ zero)) ∙ long, some),
      )

-- ---- a record that is written

module _ (fields : List ℕ) where
  abbrev Event : List ℕ → Type 0
  Event bs = (length fields ≡ 116) × (writable (flat_read fields) ≡ true) × (bs ≡ event_bytes (flat_read fields))

  other-size : (length fields ≡ 116 → ⊥) → write_output fields ≡ refused not_writable
  unfolding write_output
  other-size other = rw (ne_eqb (length fields) 116 other)

  this-size : length fields ≡ 116 → write_output fields ≡ event_output (flat_read fields)
  unfolding write_output
  this-size is = rw (eq-eqb (length fields) 116 is)

  flat-given : (r : Refusal) → write_output fields ≡ refused r → FlatFault fields (number r)
  flat-given r e = split (eqb (length fields) 116)
      (λ is.
      let size = eqb-true (length fields) 116 is in
      FlatFault.bad_record size (write-given (flat_read fields) r (sym (this-size size) ∙ e)))
      (λ isnt.
      let other = eqb-false (length fields) 116 isnt in
      let two : refused not_writable ≡ refused r = sym (other-size other) ∙ e in
      let same : not_writable ≡ r = cc in
      rw (← same) (FlatFault.other_size other))

  flat-forced : (n : ℕ) → FlatFault fields n → WriterRefuses (write_output fields) n
  flat-forced n (FlatFault.other_size other) = (not_writable, other-size other, refl)
  flat-forced n (FlatFault.bad_record size fault) =
      let (r, e, is) = write-forced (flat_read fields) n fault in
      (r, this-size size ∙ e, is)

  flat-writes : (bs : List ℕ) → write_output fields ≡ bytes bs → Event bs
  flat-writes bs e = split (eqb (length fields) 116)
      (λ is.
      let size = eqb-true (length fields) 116 is in
      let (can, these) = write-writes (flat_read fields) bs (sym (this-size size) ∙ e) in
      (size, can, these))
      (λ isnt.
      let two : refused not_writable ≡ bytes bs = sym (other-size (eqb-false (length fields) 116 isnt)) ∙ e in
      apart cc)

  flat-written : (bs : List ℕ) → Event bs → write_output fields ≡ bytes bs
  flat-written bs (size, can, these) = this-size size ∙ write-written (flat_read fields) bs (can, these)

-- ---- an entry at a place

read-entry-exact : (body : List ℕ) (at : ℕ) → Bytes body → RefusesExactly (refusal_in (entry_read (entry_in body at))) (OfBody body (HeadedFault 1 at body))
unfolding entry_in
read-entry-exact body at are = answers-exactly _ _ _ (headed-exact 1 body at are)

pub archive-exact : ArchiveExact
archive-exact = record {
  gtid_read_entry = read-entry-exact;
  gtid_read = read-exact;
  gtid_write = λ fields out. writes-exactly (write_output fields) out (FlatFault fields) (Event fields) (flat-given fields) (flat-forced fields)
      (flat-writes fields) (flat-written fields);
}
