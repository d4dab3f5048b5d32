-- What is asked of a set and joined to it without an event: an id, or a Previous-GTIDs body.
use Rattle.std.specs.Prelude.{ℕ, Bool, false, ◌&&◌, List, ◌++◌, length, eqb, Result, Ok, Err}
use Rattle.misc.specs.Pick.{pick}
use Rattle.misc.specs.declared.refusal.Refusal.{Refusal}
use Rattle.misc.specs.declared.refusal.WriteError.{WriteError}
use Rattle.misc.specs.Refusal.{not_a_set, bad_gno}
use Rattle.misc.specs.Parse.{Parse, refuse, parsed}
use Rattle.misc.specs.Output.{Output, refused, bytes, output_of, answer_of}
use Rattle.packets.specs.Gno.{is_gno}
use Rattle.packets.specs.Key.{Key}
use Rattle.packets.specs.Tag.{none_or_tag}
use Rattle.previous_gtids_event.specs.Entry.{Entry}
use Rattle.previous_gtids_event.specs.Previous.{previous}
use Rattle.previous_gtids_event.specs.Rewrite.{body_bytes}
use Rattle.gtid_sets.specs.Set.{has}
use Rattle.gtid_sets.specs.TakeIn.{lawful, taken_set}
use Rattle.gtid_sets.specs.Limits.{Judged, fine, breaks, limits}
use Rattle.gtid_sets.specs.Run as run
use Rattle.gtid_sets.specs.Run.{Event, names, Answer, no_id, already, taken, answer, after}
use Rattle.gtid_sets.specs.Lent.{Lent, form, unfit}
use Rattle.set_join.specs.declared.Joined.{Joined}

-- ---- `contains`

-- whether these are the parts of an id, and the set has it
abbrev pub asked : List Entry → List ℕ → List ℕ → ℕ → Bool
asked s uuid tag gno = eqb (length uuid) 16 && ((none_or_tag tag && is_gno gno) && has s (uuid ++ tag) gno)

abbrev pub contained : Lent → List ℕ → List ℕ → ℕ → Result Bool Refusal
contained unfit uuid tag gno = Err not_a_set
contained (form s) uuid tag gno = Ok (asked s uuid tag gno)

-- ---- `take_in`

-- a set as it is saved, if it is within the limits
abbrev pub saved_if : Judged → List ℕ → Output
saved_if fine bs = bytes bs
saved_if (breaks r) bs = refused r

abbrev pub saved : List Entry → Output
saved s = saved_if (limits s) (body_bytes s)

-- what is taken in from what was read: the gno rule is judged before the limits, and these on the result
abbrev pub taken_in : Parse (List Entry) → Output
taken_in (refuse r) = refused r
taken_in (parsed es next) = pick (lawful es) (saved (taken_set es)) (refused bad_gno)

-- what it answers, lent a body and an output, and what it leaves in the output
abbrev pub take_in_answers : List ℕ → List ℕ → Result ℕ WriteError
take_in_answers body out = answer_of out (taken_in (previous body))

abbrev pub take_in_leaves : List ℕ → List ℕ → List ℕ
take_in_leaves body out = output_of out (taken_in (previous body))

-- ---- `join_id`

-- what is written of a set after an event: in all three cases that are no refusal the set
abbrev pub output_as : Answer → List ℕ → Output
output_as no_id bs = bytes bs
output_as already bs = bytes bs
output_as taken bs = bytes bs
output_as (run.refused r) bs = refused r

abbrev pub output_for : List Entry → Event → Output
output_for s e = output_as (answer s e) (body_bytes (after s e))

-- the same for bytes that may be no set
abbrev pub output : Lent → Event → Output
output unfit e = refused not_a_set
output (form s) e = output_for s e

-- whether it has the id already
abbrev pub held : Lent → Key → ℕ → Bool
held unfit k n = false
held (form s) k n = is_gno n && has s k n

-- what it answers for an id, lent an output
abbrev pub joined_id : Lent → Key → ℕ → List ℕ → Joined
joined_id x k n out = record { already = held x k n; wrote = answer_of out (output x (names k n)) }
