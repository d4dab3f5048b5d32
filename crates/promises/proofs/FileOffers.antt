-- What an event of a file is told that is offered (`offered` of `EventsJudged`): each answer by its case, both ways.
use Prim.Native.Nat.{ℕ, ◌≤◌}
use mathlib.Core.Path.{◌≡◌, refl}
use mathlib.Core.List.{List}
use lib.Dec.{eqb, leb}
use lib.ListN.{length}
use borrow.Author.Tests.{leb-true, le-leb, eqb-true, eqb-false, ne_eqb}
use Rattle.misc.specs.Parse.{Bytes, Parse, refuse, parsed}
use Rattle.packets.proofs.Tests.{split}
use Rattle.previous_gtids_event.specs.Entry.{Entry}
use Rattle.previous_gtids_event.specs.Rewrite.{body_bytes}
use Rattle.gtid_event.specs.declared.GtidEvent.{GtidEvent}
use Rattle.gtid_event_read.specs.Seen.{Seen}
use Rattle.gtid_event_read.specs.Read.{record_in, named}
use Rattle.gtid_sets.specs.Run.{names, answer, after}
use Rattle.gtid_sets.specs.Lent.{Lent, form, unfit, lent_set, SetLaid}
use Rattle.gtid_sets.proofs.LentLaws.{lent_is, is-lent}
use Rattle.gtid_sets.proofs.RunLaws.{answer-cases}
use Rattle.resume_set.specs.Answers.{says, event_of}
use Rattle.binlog.specs.Run.{did}
use Rattle.binlog_reader.specs.Does.{fitted, offered_as, offers, acts}
use Rattle.binlog_reader.specs.declared.Told.{Told}
use Rattle.binlog_reader.specs.declared.Told.TheVariants.{NoId, AlreadyThere, Taken}
use Rattle.promises.specs.SetFaults.{key_of, Names, Accepts}
use Rattle.promises.specs.Exact.{Exactly}
use Rattle.promises.specs.Files.{AcceptedAs}
use Rattle.promises.proofs.Naming.{named-laid, event-named, event-anonymous}
use Rattle.promises.proofs.SetsExact.{apart}

module _ (room : ℕ) (set : List ℕ) (type : ℕ) (body : List ℕ) (are : Bytes body) where
  -- a case forces what the event is told
  told : {t : Told} {kept : List ℕ} → AcceptedAs set type body room t kept → offers room (lent_set set) (event_of type body) ≡ did t kept
  told (AcceptedAs.accepted {s = s} laid (Accepts.no_id event is) fits) = rw (is-lent set s laid, event-anonymous type body event is, le-leb _ _ fits)
  told (AcceptedAs.accepted {s = s} laid (Accepts.already n good there) fits) =
      rw (is-lent set s laid, event-named type body n, good, there, le-leb _ _ fits)
  told (AcceptedAs.accepted {s = s} laid (Accepts.taken n good new within) fits) =
      rw (is-lent set s laid, event-named type body n, good, new, within, le-leb _ _ fits)

  -- and what it is told has its case
  module _ (t : Told) (kept : List ℕ) where
    fitting : (u : List Entry) (x : Told) → (length (body_bytes u) ≤ room → AcceptedAs set type body room x (body_bytes u))
        → fitted room x (body_bytes u) ≡ did t kept → AcceptedAs set type body room t kept
    fitting u x is h = split (leb (length (body_bytes u)) room)
        (λ fits.
        let same : did x (body_bytes u) ≡ did t kept = rw fits at h in
        let told_is : x ≡ t = cc in
        let kept-is : body_bytes u ≡ kept = cc in
        rw (← told_is, ← kept-is) (is (leb-true _ _ fits)))
        (λ over. apart (let clash = rw over at h in cc))

    module _ {s : List Entry} (laid : SetLaid set s) where
      named-found : {e : GtidEvent} → Names type body e
          → offered_as room (answer s (names (key_of e) e.gno)) (body_bytes (after s (names (key_of e) e.gno))) ≡ did t kept
          → AcceptedAs set type body room t kept
      named-found {e} n h = answer-cases s (key_of e) e.gno
          (λ bad is. apart (let clash = rw is at h in cc))
          (λ good there is. fitting s AlreadyThere (AcceptedAs.accepted laid (Accepts.already n good there)) (rw is at h))
          (λ good new within is. fitting _ Taken (AcceptedAs.accepted laid (Accepts.taken n good new within)) (rw is at h))
          (λ r _ good new breaking is. apart (let clash = rw is at h in cc))

      event-found : (p : Parse Seen) → named type body ≡ p
          → offered_as room (answer s (says type (record_in p))) (body_bytes (after s (says type (record_in p)))) ≡ did t kept
          → AcceptedAs set type body room t kept
      event-found (refuse r) read h = apart cc
      event-found (parsed x used) read h =
          let (laid_out, sent) = named-laid type body are x used read in
          split (eqb type 34)
          (λ is. fitting s NoId (AcceptedAs.accepted laid (Accepts.no_id laid_out (eqb-true type 34 is))) (rw is at h))
          (λ other. named-found {e = x.event}
          (record { present = x.present; used = used; laid = laid_out; named = eqb-false type 34 other; sent = sent }) (rw other at h))

    found : (l : Lent) → lent_set set ≡ l → offers room l (event_of type body) ≡ did t kept → AcceptedAs set type body room t kept
    unfolding event_of
    found unfit lent h = apart cc
    found (form s) lent h = event-found (lent_is set s lent) (named type body) refl h

  pub acts-offered : (t : Told) (kept : List ℕ) → (type ≡ 35 → ⊥) → Exactly (acts room set type body ≡ did t kept) (AcceptedAs set type body room t kept)
  unfolding acts
  acts-offered t kept other = rw (ne_eqb type 35 other) (found t kept (lent_set set) refl, told)
