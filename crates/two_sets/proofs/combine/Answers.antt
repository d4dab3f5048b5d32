use Rattle.misc.proofs.ParseLaws.{handed-on}
use Rattle.misc.proofs.Clauses.{both}
use Rattle.two_sets.proofs.AnswerLaws.{combine-unfit}
use Rattle.two_sets.proofs.combine.Goals as goal

pub returns-in_err-from : goal.returns-in_err-from
returns-in_err-from g c =
    rw (handed-on _ c.from_residual.ensures)
    (both (combine-unfit c.args.first.now c.args.second.now _ c.in_err-from.ensures g.O.Operation.op c.args.out.now))
