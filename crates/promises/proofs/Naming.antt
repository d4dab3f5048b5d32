-- An event whose id is asked for is refused with a number exactly where a case of that number holds; else it names its id, or none.
use Prim.Native.Nat.{ℕ}
use mathlib.Core.Path.{◌≡◌, refl}
use mathlib.Core.Bool.{true, false}
use mathlib.Core.List.{List}
use lib.Dec.{eqb}
use borrow.Author.Tests.{eqb-true, eq-eqb, ne_eqb}
use Rattle.misc.specs.Refusal.{absent_id}
use Rattle.misc.specs.Parse.{Bytes, parsed, refusal_in}
use Rattle.misc.proofs.ParseLaws.{pick-either}
use Rattle.packets.proofs.Tests.{split, clash}
use Rattle.gtid_event.specs.Event.{tagged, type_of}
use Rattle.gtid_event.specs.Fits.{Fits}
use Rattle.gtid_event.specs.declared.GtidEvent.{GtidEvent}
use Rattle.gtid_event_read.specs.Seen.{Seen}
use Rattle.gtid_event_read.specs.Read.{sends_id, named, gtid_read}
use Rattle.gtid_event_read.proofs.PresentLaws.{named-refused, named-parsed}
use Rattle.gtid_event_write.specs.Writable.{writable}
use Rattle.gtid_event_write.specs.Write.{event_bytes}
use Rattle.gtid_event_laws.proofs.EventBack as event-laws
use Rattle.gtid_sets.specs.Run.{anonymous, names}
use Rattle.resume_set.specs.Answers.{event_of}
use Rattle.promises.specs.Meaning.{RecordLaid}
use Rattle.promises.specs.SetFaults.{key_of, sent_id, NamingFault, Names}
use Rattle.promises.specs.Exact.{RefusesExactly}
use Rattle.promises.proofs.Gives.{Gives}
use Rattle.promises.proofs.Forces.{Refuses, is-refused, same-refused}
use Rattle.promises.proofs.Exactly.{reads-exactly, answers-exactly}
use Rattle.promises.proofs.Demand2.{laid-record-read, records-mean}
use Rattle.promises.proofs.EventExact.{event-refused, event-faulty}

-- a record that is written
pub written-named : (e : GtidEvent) → Fits e → writable e ≡ true → event_of (type_of e) (event_bytes e) ≡ names (key_of e) e.gno
unfolding event_of
written-named e fits can =
    let read = event-laws.event-named e fits can in
    split (tagged e) (λ is. rw (read, is)) (λ is. rw (read, is))

-- ---- what is asked for

module _ (type : ℕ) (x : Seen) where
  sends : (type ≡ 42 → sent_id x.present ≡ true) → sends_id type x ≡ true
  sends both = split (eqb type 42) (λ is. rw (is, both (eqb-true type 42 is))) (λ other. rw other)

  sent-both : sends_id type x ≡ true → type ≡ 42 → sent_id x.present ≡ true
  sent-both h is = rw (eq-eqb type 42 is) at h

  lacking : sends_id type x ≡ false → (type ≡ 42) × (sent_id x.present ≡ false)
  lacking h = pick-either (eqb type 42) h (λ is f. (eqb-true type 42 is, f)) (λ _ f. clash refl f)

-- ---- the cases

module _ (type : ℕ) (body : List ℕ) where
  pub naming-refused : (n : ℕ) → NamingFault type body n → Refuses (named type body) n
  unfolding named
  naming-refused n (NamingFault.own fault) = same-refused (event-refused type body n fault) (λ r e. rw e)
  naming-refused n (NamingFault.no_id {x = x} {used = used} laid is none) =
      is-refused absent_id (rw (laid-record-read type body x used laid, eq-eqb type 42 is, none))

  module _ (are : Bytes body) where
    pub naming-faulty : Gives (NamingFault type body) (named type body)
    naming-faulty r e = named-refused type body e
        (λ broken. NamingFault.own (event-faulty type body are r broken))
        (λ x used read none this.
        let laid = (records-mean type body x used are).0 read in
        let (is, lacks) = lacking type x none in
        rw this (NamingFault.no_id laid is lacks))

    pub naming-exact : RefusesExactly (refusal_in (gtid_read (named type body))) (NamingFault type body)
    naming-exact = answers-exactly _ _ _ (reads-exactly (NamingFault type body) (named type body) naming-faulty naming-refused)

    -- what is not refused is laid out, and if it is tagged was sent with its id
    pub named-laid : (x : Seen) (used : ℕ) → named type body ≡ parsed x used
        → RecordLaid type body x used × (type ≡ 42 → sent_id x.present ≡ true)
    named-laid x used read =
        let (told, sent) = named-parsed type body read in
        ((records-mean type body x used are).0 told, sent-both type x sent)

  -- ---- the id

  names-read : {e : GtidEvent} (n : Names type body e) → named type body ≡ parsed (record { event = e; present = n.present }) n.used
  unfolding named
  names-read {e} n =
      let x : Seen = record { event = e; present = n.present } in
      let sent : sends_id type x ≡ true = sends type x n.sent in
      rw (laid-record-read type body x n.used n.laid, sent)

  pub event-named : {e : GtidEvent} → Names type body e → event_of type body ≡ names (key_of e) e.gno
  unfolding event_of
  event-named n = rw (names-read n, ne_eqb type 34 n.named)

  pub event-anonymous : {x : Seen} {used : ℕ} → RecordLaid type body x used → type ≡ 34 → event_of type body ≡ anonymous
  unfolding event_of named
  event-anonymous {x} {used} laid is = let read = laid-record-read type body x used laid in rw (read, is)
