-- What the calls over a set and an event answer, and what they write.
use Rattle.std.specs.Prelude.{ℕ, List, ◌++◌, length, take, leb, eqb, Result, Ok, Err}
use Rattle.misc.specs.Pick.{pick}
use Rattle.misc.specs.declared.refusal.Refusal.{Refusal}
use Rattle.misc.specs.declared.refusal.WriteError.{WriteError}
use Rattle.misc.specs.declared.refusal.WriteError.TheVariants.{Refused, NoRoom}
use Rattle.misc.specs.Refusal.{not_a_set}
use Rattle.misc.specs.Parse.{Parse, refuse, parsed}
use Rattle.misc.specs.Output.{output_of}
use Rattle.previous_gtids_event.specs.Entry.{Entry}
use Rattle.previous_gtids_event.specs.Rewrite.{body_bytes}
use Rattle.gtid_event.specs.declared.GtidEvent.{GtidEvent}
use Rattle.gtid_event_read.specs.Read.{record_in, named}
use Rattle.gtid_sets.specs.Limits.{intervals}
use Rattle.gtid_sets.specs.Run as run
use Rattle.gtid_sets.specs.Run.{Event, anonymous, broken, names, Answer, no_id, already, taken, answer, after}
use Rattle.gtid_sets.specs.Lent.{Lent, form, unfit, lent_set}
use Rattle.set_join.specs.Answers.{output}
use Rattle.resume_set.specs.declared.SetRead.{SetRead}
use Rattle.resume_set.specs.declared.Offered.{Offered}
use Rattle.resume_set.specs.declared.Offered.TheVariants.{NoId, AlreadyThere, Taken}

-- ---- `check_set`

abbrev pub set_read : Lent → Result SetRead Refusal
set_read unfit = Err not_a_set
set_read (form s) = Ok (record { entries = length s; intervals = intervals s })

-- ---- `offer`

-- what a record says, by its event's type
abbrev pub says : ℕ → Parse GtidEvent → Event
says type (refuse r) = broken r
says type (parsed e next) = pick (eqb type 34) anonymous (names (e.sid ++ take e.tag_len e.tag) e.gno)

-- what a GTID event says: a tagged one that was sent without its uuid or its gno is refused
unfoldable pub event_of : ℕ → List ℕ → Event
event_of type body = says type (record_in (named type body))

-- where a set of so many bytes has room, its case; else 13 and the needed length
abbrev pub fitting : (ℕ → Offered) → ℕ → ℕ → Result Offered WriteError
fitting case size room = pick (leb size room) (Ok (case size)) (Err (NoRoom size))

-- which case stands for which answer, where the set after the event has so many bytes and the output so many
abbrev pub offered_as : Answer → ℕ → ℕ → Result Offered WriteError
offered_as no_id size room = fitting NoId size room
offered_as already size room = fitting AlreadyThere size room
offered_as taken size room = fitting Taken size room
offered_as (run.refused r) size room = Err (Refused r)

-- the answer to an event; what is written is `output` of set_join
abbrev pub offered_of : List Entry → Event → ℕ → Result Offered WriteError
offered_of s e room = offered_as (answer s e) (length (body_bytes (after s e))) room

-- the same for bytes that may be no set
abbrev pub offered : Lent → Event → ℕ → Result Offered WriteError
offered unfit e room = Err (Refused not_a_set)
offered (form s) e room = offered_of s e room

-- what it answers, lent a set, a type with its body and an output, and what it leaves in the output
abbrev pub offer_answers : List ℕ → ℕ → List ℕ → List ℕ → Result Offered WriteError
offer_answers set type body out = offered (lent_set set) (event_of type body) (length out)

abbrev pub offer_leaves : List ℕ → ℕ → List ℕ → List ℕ → List ℕ
offer_leaves set type body out = output_of out (output (lent_set set) (event_of type body))
