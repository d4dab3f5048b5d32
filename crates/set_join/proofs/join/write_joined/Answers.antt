-- `set_join::join::write_joined` meets its contract.
use mathlib.Core.List.{◌++◌}
use mathlib.Core.Path.{ap, ◌∙◌}
use Rattle.gtid_sets.specs.Set.{join}
use Rattle.gtid_sets.specs.Limits.{judged_as}
use Rattle.set_check.specs.SetOf.{set_of}
use Rattle.misc.proofs.ParseLaws.{handed-on}
use Rattle.set_join.proofs.AnswerLaws.{plan-judged, saved-refused, joined-short, joined-fits}
use Rattle.misc.proofs.Clauses.{both}
use Rattle.set_join.proofs.join.write_joined.Goals as goal

pub returns-in_err-judge : goal.returns-in_err-judge
returns-in_err-judge c =
    let a = c.args in
    let p = c.requires in
    let judged = c.in_err-judge.ensures ∙ ap judged_as (plan-judged _ _ _ _ _ _ p.0 p.1 _ c.over.ensures.0) in
    let refused = saved-refused (join (a.key.uuid.now ++ a.key.tag.now) a.span.start a.span.end (set_of a.set.now)) a.out.now judged in
    both (handed-on _ c.from_residual.ensures ∙ refused.0, refused.1)

pub returns-then-out-plan : goal.returns-then-out-plan
returns-then-out-plan c =
    let a = c.args in
    let p = c.requires in
    let judged = c.in_ok-judge.ensures ∙ ap judged_as (plan-judged _ _ _ _ _ _ p.0 p.1 _ c.over.ensures.0) in
    both (joined-short _ a.out.now judged a.plan.len p.0.len_is c.if-out-plan.true)

pub returns : goal.returns
returns c =
    let a = c.args in
    let p = c.requires in
    let judged = c.in_ok-judge.ensures ∙ ap judged_as (plan-judged _ _ _ _ _ _ p.0 p.1 _ c.over.ensures.0) in
    both (joined-fits _ a.out.now judged a.plan.len p.0.len_is _ _ _ c.if-out-plan.false p.0.bytes c.put_joined.ensures)
