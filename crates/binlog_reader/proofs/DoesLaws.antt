-- An offer that fails: its error is what the event does, and the output stays as it was.
use Prim.Native.Nat.{ℕ}
use mathlib.Core.Path.{◌≡◌, refl, sym}
use mathlib.Core.List.{List}
use lib.Dec.{leb}
use lib.ListN.{length}
use borrow.Author.Tests.{ne_eqb}
use Rattle.std.specs.Prelude.{Err}
use Rattle.misc.specs.declared.refusal.WriteError.{WriteError}
use Rattle.misc.specs.declared.refusal.WriteError.TheVariants.{Refused, NoRoom}
use Rattle.misc.specs.Refusal.{not_a_set}
use Rattle.misc.specs.Output.{bytes, output_of}
use Rattle.misc.proofs.ParseLaws.{ok-err}
use Rattle.packets.proofs.Tests.{split}
use Rattle.gtid_sets.specs.Run as run
use Rattle.gtid_sets.specs.Run.{Event, Answer, no_id, already, taken, answer, after}
use Rattle.gtid_sets.specs.Lent.{Lent, form, unfit, lent_set}
use Rattle.previous_gtids_event.specs.Rewrite.{body_bytes}
use Rattle.set_join.specs.Answers as joins
use Rattle.set_join.specs.Answers.{output_as}
use Rattle.resume_set.specs.Answers as answers
use Rattle.resume_set.specs.Answers.{event_of, offer_answers, offer_leaves}
use Rattle.resume_set.specs.declared.Offered.{Offered}
use Rattle.resume_set.specs.declared.Offered.TheVariants as offered
use Rattle.binlog_reader.specs.Does.{fitted, offered_as, offers, acts, ActedIs}
use Rattle.binlog_reader.specs.declared.Told.{Told}
use Rattle.binlog_reader.specs.declared.Told.TheVariants.{NoId, AlreadyThere, Taken}

-- an output, as it was lent and as it is then
module _ (out out' : List ℕ) (x : WriteError) where
  no-room : (t : Told) (made : ℕ → Offered) (bs : List ℕ) → Err x ≡ answers.fitting made (length bs) (length out) → out' ≡ output_of out (bytes bs)
      → ActedIs (fitted (length out) t bs) out out' (Err x)
  unfolding output_of
  no-room t made bs is e = split (leb (length bs) (length out))
      (λ room. absurd (ok-err (sym (rw room at is))))
      (λ room. let same : x ≡ NoRoom (length bs) = cc in rw same (record { is = rw room; fit = tt; leaves = rw (e, room) }))

  refused-as : (a : Answer) (bs : List ℕ) → Err x ≡ answers.offered_as a (length bs) (length out) → out' ≡ output_of out (output_as a bs)
      → ActedIs (offered_as (length out) a bs) out out' (Err x)
  unfolding output_of
  refused-as no_id bs is e = no-room NoId offered.NoId bs is e
  refused-as already bs is e = no-room AlreadyThere offered.AlreadyThere bs is e
  refused-as taken bs is e = no-room Taken offered.Taken bs is e
  refused-as (run.refused r) bs is e = let same : x ≡ Refused r = cc in rw same (record { is = refl; fit = tt; leaves = e })

  fails-in : (l : Lent) (e : Event) → Err x ≡ answers.offered l e (length out) → out' ≡ output_of out (joins.output l e)
      → ActedIs (offers (length out) l e) out out' (Err x)
  unfolding output_of
  fails-in unfit e is w = let same : x ≡ Refused not_a_set = cc in rw same (record { is = refl; fit = tt; leaves = w })
  fails-in (form s) e is w = refused-as (answer s e) (body_bytes (after s e)) is w

  pub offer-fails : (set body : List ℕ) (type : ℕ) → (type ≡ 35 → ⊥) → Err x ≡ offer_answers set type body out → out' ≡ offer_leaves set type body out
      → ActedIs (acts (length out) set type body) out out' (Err x)
  unfolding acts
  offer-fails set body type h is w = rw (ne_eqb type 35 h) (fails-in (lent_set set) (event_of type body) is w)
