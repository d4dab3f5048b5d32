-- The offer that `resume_set::offer` promises: what its two equations say.
use Rattle.resume_set.specs.Answers.{offer_answers, offer_leaves}
use Rattle.resume_set_laws.specs.History.{Offering}

abbrev pub ours : Offering
ours = record { answers = λ set t. offer_answers set t.type t.body t.out; leaves = λ set t. offer_leaves set t.type t.body t.out }
