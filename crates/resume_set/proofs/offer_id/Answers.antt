use mathlib.Core.Path.{sym, ap, ◌∙◌}
use Rattle.misc.proofs.ParseLaws.{handed-on}
use Rattle.resume_set.proofs.AnswerLaws.{told_as, case_of, id-offered}
use Rattle.resume_set.proofs.offer_id.Goals as goal

pub returns-in_err-len-clause-value : goal.returns-in_err-len-clause-value
returns-in_err-len-clause-value c =
    let a = c.args in
    handed-on _ c.from_residual.ensures ∙ ap (told_as (case_of c.join_id-joined.result.already)) (sym c.in_err-len.was)
    ∙ id-offered a.set.now a.event a.out.now _ c.join_id-joined.ensures.value

pub returns-then-joined-clause-value : goal.returns-then-joined-clause-value
returns-then-joined-clause-value c =
    let a = c.args in
    rw (c.in_ok-len.was, c.if-joined.true) at (id-offered a.set.now a.event a.out.now _ c.join_id-joined.ensures.value)

pub returns-clause-value : goal.returns-clause-value
returns-clause-value c =
    let a = c.args in
    rw (c.in_ok-len.was, c.if-joined.false) at (id-offered a.set.now a.event a.out.now _ c.join_id-joined.ensures.value)
