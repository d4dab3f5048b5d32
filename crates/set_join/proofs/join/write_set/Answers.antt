-- `set_join::join::write_set` meets its contract.
use mathlib.Core.Path.{ap, ◌∙◌}
use Rattle.gtid_sets.specs.Limits.{judged_as}
use Rattle.set_check.specs.SetOf.{set_of}
use Rattle.misc.proofs.ParseLaws.{handed-on}
use Rattle.set_join.proofs.AnswerLaws.{counts-judged, saved-fine, saved-refused, within}
use Rattle.misc.proofs.Clauses.{both}
use Rattle.set_join.proofs.join.write_set.Goals as goal

pub returns-in_err-judge : goal.returns-in_err-judge
returns-in_err-judge c =
    let a = c.args in
    let judged = c.in_err-judge.ensures ∙ ap judged_as (counts-judged _ _ c.requires.1) in
    let refused = saved-refused (set_of a.set.now) a.out.now judged in
    both (handed-on _ c.from_residual.ensures ∙ refused.0, refused.1)

pub returns : goal.returns
returns c =
    let a = c.args in
    let judged = c.in_ok-judge.ensures ∙ ap judged_as (counts-judged _ _ c.requires.1) in
    both (saved-fine (set_of a.set.now) a.set.now a.out.now _ _ c.requires.0 c.write_bytes.ensures.value c.write_bytes.ensures.out_after
    (within _ a.out.now judged))
