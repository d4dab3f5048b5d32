-- What joining a Previous-GTIDs body to a set comes to.
use Rattle.std.specs.Prelude.{ℕ, List, Result}
use Rattle.misc.specs.Pick.{pick}
use Rattle.misc.specs.declared.refusal.WriteError.{WriteError}
use Rattle.misc.specs.Refusal.{not_a_set, bad_gno}
use Rattle.misc.specs.Parse.{Parse, refuse, parsed}
use Rattle.misc.specs.Output.{Output, refused, output_of, answer_of}
use Rattle.previous_gtids_event.specs.Entry.{Entry}
use Rattle.previous_gtids_event.specs.Previous.{previous}
use Rattle.gtid_sets.specs.TakeIn.{lawful, union}
use Rattle.gtid_sets.specs.Lent.{Lent, form, unfit, lent_set}
use Rattle.set_join.specs.Answers.{saved}

-- the set with all ids of a body too: the body's own refusals, then the gno rule on all of it, then the limits, on the result alone
abbrev pub joined_read : List Entry → Parse (List Entry) → Output
joined_read s (refuse r) = refused r
joined_read s (parsed es next) = pick (lawful es) (saved (union es s)) (refused bad_gno)

-- the same for bytes that may be no set
abbrev pub joined_in : Lent → Parse (List Entry) → Output
joined_in unfit p = refused not_a_set
joined_in (form s) p = joined_read s p

-- what it answers, lent a set, a body and an output, and what it leaves in the output
abbrev pub join_answers : List ℕ → List ℕ → List ℕ → Result ℕ WriteError
join_answers set body out = answer_of out (joined_in (lent_set set) (previous body))

abbrev pub join_leaves : List ℕ → List ℕ → List ℕ → List ℕ
join_leaves set body out = output_of out (joined_in (lent_set set) (previous body))
