-- What an event of a file is refused for, and what joining a body gives (`EventsJudged` of `specs/Files.antt`).
use Prim.Native.Nat.{ℕ}
use mathlib.Core.Path.{◌≡◌, refl, sym, ap, ◌∙◌}
use mathlib.Core.List.{List}
use native.Mathlib.Omega.{arith}
use lib.Dec.{leb, eqb}
use lib.ListN.{length, replicate, length-replicate}
use borrow.Author.Tests.{eqb-true, eqb-false, eq-eqb, ne_eqb}
use Rattle.misc.specs.declared.refusal.WriteError.{WriteError}
use Rattle.misc.specs.Refusal.{error_number, error_needed}
use Rattle.misc.specs.Parse.{Bytes}
use Rattle.misc.proofs.ParseLaws.{pick-either}
use Rattle.packets.proofs.Tests.{split}
use Rattle.previous_gtids_event.specs.Rewrite.{body_bytes}
use Rattle.gtid_sets.specs.Run as run
use Rattle.gtid_sets.specs.Run.{Event, Answer, no_id, already, taken, answer, after}
use Rattle.gtid_sets.specs.Lent.{Lent, form, unfit, lent_set}
use Rattle.resume_set.specs.Answers as answers
use Rattle.resume_set.specs.Answers.{event_of}
use Rattle.resume_set.specs.declared.Offered.{Offered}
use Rattle.resume_set_laws.specs.History.{Turn}
use Rattle.resume_set_laws.specs.Ours.{ours}
use Rattle.binlog.specs.Stop.{Stop, stop, stop_number}
use Rattle.binlog.specs.Run.{Done, did, fails}
use Rattle.binlog_reader.specs.Does.{offered_as, offers, acts}
use Rattle.binlog_reader.specs.declared.Told.{Told}
use Rattle.binlog_reader.specs.declared.Told.TheVariants.{Joined}
use Rattle.std.specs.Prelude.{Result, Ok, Err}
use Rattle.promises.specs.SetFaults.{OfferFault, OfferAnswer}
use Rattle.promises.specs.Exact.{Exactly}
use Rattle.promises.specs.Files.{JoinedAs, ActFault, EventsJudged}
use Rattle.promises.proofs.SetsExact.{fault-forced, offers-exactly}
use Rattle.promises.proofs.FileOffers.{acts-offered}
use Rattle.promises.proofs.FileJoins.{same_stop, stop-number, join-writes, joins-refused, joins-did}

-- ---- offering

-- the number and the length of a refusal, both 0 for none: of what an event does, and of what an offer answers
abbrev done_numbers : Done (List ℕ) Told → ℕ × ℕ
done_numbers (did t bs) = (0, 0)
done_numbers (fails r n) = (stop_number r, n)

abbrev offer_numbers : Result Offered WriteError → ℕ × ℕ
offer_numbers (Ok a) = (0, 0)
offer_numbers (Err x) = (error_number x, error_needed x)

alike : (room : ℕ) (a : Answer) (bs : List ℕ) → done_numbers (offered_as room a bs) ≡ offer_numbers (answers.offered_as a (length bs) room)
alike room no_id bs = split (leb (length bs) room) (λ h. rw h) (λ h. rw h)
alike room already bs = split (leb (length bs) room) (λ h. rw h) (λ h. rw h)
alike room taken bs = split (leb (length bs) room) (λ h. rw h) (λ h. rw h)
alike room (run.refused r) bs = rw (stop-number r)

offers-alike : (room : ℕ) (l : Lent) (e : Event) → done_numbers (offers room l e) ≡ offer_numbers (answers.offered l e room)
offers-alike room unfit e = refl
offers-alike room (form s) e = alike room (answer s e) (body_bytes (after s e))

-- a refusal is known by its numbers
was-refused : (d : Done (List ℕ) Told) (r : Stop) (len : ℕ) → done_numbers d ≡ (stop_number r, len) → d ≡ fails r len
was-refused (did t bs) (stop m) len e = absurd (omega (arith, ap (λ (p : ℕ × ℕ). p.0) e))
was-refused (fails x n) r len e = rw (same_stop x r (ap (λ (p : ℕ × ℕ). p.0) e), ap (λ (p : ℕ × ℕ). p.1) e)

-- and has a fault
answer-fault : (set : List ℕ) (type : ℕ) (body out : List ℕ) (a : Result Offered WriteError) (l : List ℕ) (r : Stop) (len : ℕ)
    → OfferAnswer set type body out a l → offer_numbers a ≡ (stop_number r, len) → OfferFault set type body (length out) (stop_number r) len
answer-fault set type body out a l r len (OfferAnswer.refused fault) e = rw (ap (λ (p : ℕ × ℕ). p.0) e, ap (λ (p : ℕ × ℕ). p.1) e) at fault
answer-fault set type body out a l (stop m) len (OfferAnswer.accepted laid accepts room) e = absurd (omega (arith, ap (λ (p : ℕ × ℕ). p.0) e))

module _ (set : List ℕ) (type : ℕ) (body : List ℕ) (are : Bytes body) where
  -- with an output of any bytes
  offers-with : (out : List ℕ) (r : Stop) (len : ℕ)
      → Exactly (offers (length out) (lent_set set) (event_of type body) ≡ fails r len) (OfferFault set type body (length out) (stop_number r) len)
  offers-with out r len = (given, forced)
    where
      turn : Turn
      turn = record { type = type; body = body; out = out }

      given : offers (length out) (lent_set set) (event_of type body) ≡ fails r len → OfferFault set type body (length out) (stop_number r) len
      given h = answer-fault set type body out _ _ r len ((offers-exactly set turn (ours.answers set turn) (ours.leaves set turn) are).0 (refl, refl))
          (sym (offers-alike (length out) (lent_set set) (event_of type body)) ∙ ap done_numbers h)

      forced : OfferFault set type body (length out) (stop_number r) len → offers (length out) (lent_set set) (event_of type body) ≡ fails r len
      forced fault =
          let told = fault-forced set type body out (stop_number r) len fault in
          was-refused (offers (length out) (lent_set set) (event_of type body)) r len
          (offers-alike (length out) (lent_set set) (event_of type body) ∙ ap offer_numbers told.answers.0 ∙ rw (told.number_is, told.needed_is))

  offers-refused : (room : ℕ) (r : Stop) (len : ℕ)
      → Exactly (offers room (lent_set set) (event_of type body) ≡ fails r len) (OfferFault set type body room (stop_number r) len)
  offers-refused room r len = rw (length-replicate {A = ℕ} room 0) at (offers-with (replicate room 0) r len)

  -- ---- by the event's type

  acts-refused : (room : ℕ) (r : Stop) (len : ℕ) → Exactly (acts room set type body ≡ fails r len) (ActFault set type body room (stop_number r) len)
  unfolding acts
  acts-refused room r len = (
    λ h. pick-either (eqb type 35) h
        (λ is f. ActFault.joining (eqb-true type 35 is) ((joins-refused set body are room r len).0 f))
        (λ is f. ActFault.offering (eqb-false type 35 is) ((offers-refused room r len).0 f)),
    forced,
  )
    where
      forced : ActFault set type body room (stop_number r) len → acts room set type body ≡ fails r len
      forced (ActFault.joining is fault) = rw (eq-eqb type 35 is) ((joins-refused set body are room r len).1 fault)
      forced (ActFault.offering other fault) = rw (ne_eqb type 35 other) ((offers-refused room r len).1 fault)

acts-joined : (room : ℕ) (set body after : List ℕ) → Bytes body → Exactly (acts room set 35 body ≡ did Joined after) (JoinedAs set body room after)
unfolding acts
acts-joined room set body after are = joins-did set body are room after

pub events-judged : (set body : List ℕ) (room : ℕ) → Bytes body → EventsJudged set body room
events-judged set body room are = record {
  refused = λ type r len. acts-refused set type body are room r len;
  joined = λ after. acts-joined room set body after are;
  offered = λ type t after other. acts-offered room set type body are t after other;
  join_in = join-writes set body are;
}
