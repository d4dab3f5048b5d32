-- What was done to a set by an event that wasn't refused: the answer names the event, and the set after it has room.
use Prim.Native.Nat.{ℕ, ◌≤◌}
use mathlib.Core.Path.{◌≡◌}
use mathlib.Core.List.{List}
use native.Mathlib.Omega.{arith}
use lib.Dec.{leb, eqb}
use lib.ListN.{length}
use borrow.Author.Tests.{leb-true}
use Rattle.misc.specs.Output as output
use Rattle.misc.specs.Output.{Output}
use Rattle.misc.proofs.ParseLaws.{pick-either}
use Rattle.previous_gtids_event.specs.Previous.{previous}
use Rattle.previous_gtids_event.specs.Rewrite.{body_bytes}
use Rattle.gtid_sets.specs.Run.{Event, Answer, no_id, already, taken, refused, answer, after}
use Rattle.gtid_sets.specs.Lent.{Lent, form, unfit, lent_set}
use Rattle.resume_set.specs.Answers.{event_of}
use Rattle.set_join.specs.JoinIn.{joined_in}
use Rattle.binlog.specs.Run.{Done, did, fails}
use Rattle.binlog_reader.specs.Does.{Judged, fitted, offered_as, offers, joins, tells, acts, does}
use Rattle.binlog_reader.specs.declared.Told.{Told}
use Rattle.binlog_reader.specs.declared.Told.TheVariants.{NoId, AlreadyThere, Taken, Joined}

-- a refusal is nothing that was done
pub never-did {ℓ} : {X : Type ℓ} {S A : Type 0} {r : _} {n : ℕ} {a : A} {s : S} → fails r n ≡ did a s → X
never-did e = absurd (let z : ◌≡◌ {A = ℕ} 0 1 = cc in omega arith)

-- ---- what was told, and the set after it

pub fitted-did : (room : ℕ) (t : Told) (bs : List ℕ) (u : Told) (next : List ℕ) → fitted room t bs ≡ did u next
    → (t ≡ u) × (bs ≡ next) × (length next ≤ room)
fitted-did room t bs u next e =
    pick-either (leb (length bs) room) e
    (λ h f.
    let same : bs ≡ next = cc in
    (cc, same, rw (← same) (leb-true (length bs) room h)))
    (λ h f. never-did f)

fits-offered : (room : ℕ) (a : Answer) (bs : List ℕ) (u : Told) (next : List ℕ) → offered_as room a bs ≡ did u next → length next ≤ room
fits-offered room no_id bs u next e = (fitted-did room NoId bs u next e).2
fits-offered room already bs u next e = (fitted-did room AlreadyThere bs u next e).2
fits-offered room taken bs u next e = (fitted-did room Taken bs u next e).2
fits-offered room (refused r) bs u next e = never-did e

fits-offers : (room : ℕ) (l : Lent) (e : Event) (u : Told) (next : List ℕ) → offers room l e ≡ did u next → length next ≤ room
fits-offers room unfit e u next h = never-did h
fits-offers room (form s) e u next h = fits-offered room (answer s e) (body_bytes (after s e)) u next h

fits-joins : (room : ℕ) (o : Output) (u : Told) (next : List ℕ) → joins room o ≡ did u next → length next ≤ room
fits-joins room (output.refused r) u next h = never-did h
fits-joins room (output.bytes bs) u next h = (fitted-did room Joined bs u next h).2

fits-acts : (room : ℕ) (set : List ℕ) (type : ℕ) (body : List ℕ) (u : Told) (next : List ℕ) → acts room set type body ≡ did u next → length next ≤ room
unfolding acts
fits-acts room set type body u next e =
    pick-either (eqb type 35) e
    (λ h f. fits-joins room (joined_in (lent_set set) (previous body)) u next f)
    (λ h f. fits-offers room (lent_set set) (event_of type body) u next f)

-- ---- the answer names the event

-- what an answer says of the event that it is for
pub record DidAs (room : ℕ) (set : List ℕ) (type : ℕ) (body : List ℕ) (j : Judged) (next : List ℕ) : Type 0 where
  pub acted : acts room set type body ≡ did j.told next
  pub is-type : j.type ≡ type
  pub is_body : j.body ≡ body
  pub fits : length next ≤ room

tells-did : (type : ℕ) (body : List ℕ) (d : Done (List ℕ) Told) (j : Judged) (next : List ℕ) → tells type body d ≡ did j next
    → (d ≡ did j.told next) × (j.type ≡ type) × (j.body ≡ body)
tells-did type body (did t set) j next e =
    let is : record { type = type; body = body; told = t } ≡ j = cc in
    let same : set ≡ next = cc in
    (rw (← is, same), rw (← is), rw (← is))
tells-did type body (fails r n) j next e = never-did e

pub did-as : (room : ℕ) (set : List ℕ) (type : ℕ) (body : List ℕ) (j : Judged) (next : List ℕ) → does room set type body ≡ did j next
    → DidAs room set type body j next
did-as room set type body j next e =
    let (a, y, b) = tells-did type body (acts room set type body) j next e in
    record { acted = a; is-type = y; is_body = b; fits = fits-acts room set type body j.told next a }
