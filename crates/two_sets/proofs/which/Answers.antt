use Rattle.two_sets.proofs.AnswerLaws.{first-has, second-has, neither-has}
use Rattle.two_sets.proofs.which.Goals as goal

pub returns-then-not-own : goal.returns-then-not-own
returns-then-not-own c = first-has c.args.first.now c.args.second.now _ c.in_ok-from.ensures _ c.own_ids-own.ensures c.if-not-own.true

pub returns-then-not-own-2 : goal.returns-then-not-own-2
returns-then-not-own-2 c =
    second-has c.args.first.now c.args.second.now _ c.in_ok-from.ensures _ c.own_ids-own.ensures c.if-not-own.false c.if-not-own-2.true

pub returns : goal.returns
returns c = neither-has c.args.first.now c.args.second.now _ c.in_ok-from.ensures _ c.own_ids-own.ensures c.if-not-own.false c.if-not-own-2.false
