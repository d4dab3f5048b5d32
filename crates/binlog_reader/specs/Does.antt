-- What an event does to the bytes of the set that is kept: types 33, 34 and 42 are offered, type 35 is joined.
use Rattle.std.specs.Prelude.{ℕ, ◌≤◌, ◌≡◌, List, ◌++◌, length, take, drop, leb, eqb, Result, Ok, Err, IfOk}
use Rattle.misc.specs.Pick.{pick}
use Rattle.misc.specs.declared.refusal.WriteError.{WriteError}
use Rattle.misc.specs.Refusal.{not_a_set, error_number, error_needed}
use Rattle.misc.specs.Output as output
use Rattle.misc.specs.Output.{Output}
use Rattle.previous_gtids_event.specs.Previous.{previous}
use Rattle.previous_gtids_event.specs.Rewrite.{body_bytes}
use Rattle.gtid_sets.specs.Run.{Event, Answer, no_id, already, taken, refused, answer, after}
use Rattle.gtid_sets.specs.Lent.{Lent, form, unfit, lent_set}
use Rattle.resume_set.specs.Answers.{event_of}
use Rattle.set_join.specs.JoinIn.{joined_in}
use Rattle.resume_set.specs.declared.Offered.{Offered}
use Rattle.resume_set.specs.declared.Offered.TheVariants as offered
use Rattle.binlog.specs.Stop.{numbered, stop_for, no_room}
use Rattle.binlog.specs.Run.{Done, did, fails}
use Rattle.binlog_reader.specs.declared.Told.{Told}
use Rattle.binlog_reader.specs.declared.Told.TheVariants.{NoId, AlreadyThere, Taken, Joined}
use Rattle.binlog_reader.specs.declared.Acted.{Acted}

-- an event that was offered or joined: its type, its body, and what it was told
pub record Judged : Type 0 where
  pub type : ℕ
  pub body : List ℕ
  pub told : Told

-- what it is told, with the set after it, where there is room for that; else 13 and the length that is needed
abbrev pub fitted : ℕ → Told → List ℕ → Done (List ℕ) Told
fitted room t bs = pick (leb (length bs) room) (did t bs) (fails no_room (length bs))

abbrev pub offered_as : ℕ → Answer → List ℕ → Done (List ℕ) Told
offered_as room no_id bs = fitted room NoId bs
offered_as room already bs = fitted room AlreadyThere bs
offered_as room taken bs = fitted room Taken bs
offered_as room (refused r) bs = fails (stop_for r) 0

abbrev pub offers : ℕ → Lent → Event → Done (List ℕ) Told
offers room unfit e = fails (stop_for not_a_set) 0
offers room (form s) e = offered_as room (answer s e) (body_bytes (after s e))

abbrev pub joins : ℕ → Output → Done (List ℕ) Told
joins room (output.refused r) = fails (stop_for r) 0
joins room (output.bytes bs) = fitted room Joined bs

abbrev pub tells : ℕ → List ℕ → Done (List ℕ) Told → Done (List ℕ) Judged
tells type body (did t set) = did (record { type = type; body = body; told = t }) set
tells type body (fails r n) = fails r n

-- where there is room for so many bytes
unfoldable pub acts : ℕ → List ℕ → ℕ → List ℕ → Done (List ℕ) Told
acts room set type body =
    pick (eqb type 35) (joins room (joined_in (lent_set set) (previous body))) (offers room (lent_set set) (event_of type body))

abbrev pub does : ℕ → List ℕ → ℕ → List ℕ → Done (List ℕ) Judged
does room set type body = tells type body (acts room set type body)

-- ---- inside

-- an offer's answer
abbrev pub acted_as : Offered → Acted
acted_as (offered.NoId n) = record { told = NoId; len = n }
acted_as (offered.AlreadyThere n) = record { told = AlreadyThere; len = n }
acted_as (offered.Taken n) = record { told = Taken; len = n }

-- what was answered and written, as what an event does
abbrev pub done_of : Result Acted WriteError → List ℕ → Done (List ℕ) Told
done_of (Ok a) out = did a.told (take a.len out)
done_of (Err e) out = fails (numbered (error_number e)) (error_needed e)

abbrev pub left_in : List ℕ → Done (List ℕ) Told → List ℕ
left_in before (did t bs) = bs ++ drop (length bs) before
left_in before (fails r n) = before

-- lent the output `before`
pub record ActedIs (wanted : Done (List ℕ) Told) (before out : List ℕ) (r : Result Acted WriteError) : Type 0 where
  pub is : done_of r out ≡ wanted
  pub fit : IfOk r (λ a. a.len ≤ length out)
  pub leaves : out ≡ left_in before wanted
