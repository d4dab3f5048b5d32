use Rattle.misc.proofs.ParseLaws.{handed-on}
use Rattle.misc.proofs.Clauses.{both}
use Rattle.resume_set.proofs.AnswerLaws.{offer-none}
use Rattle.resume_set.proofs.offer_none.Goals as goal

pub returns-in_err-len : goal.returns-in_err-len
returns-in_err-len c =
    let e = c.in_err-len.ensures in
    rw (handed-on _ c.from_residual-in_err-len.ensures) (both (offer-none c.args.set.now c.args.out.now c.in_ok-check.ensures e.value e.out_after))

pub returns : goal.returns
returns c =
    let e = c.in_ok-len.ensures in
    both (offer-none c.args.set.now c.args.out.now c.in_ok-check.ensures e.value e.out_after)
