use Rattle.two_sets.proofs.AnswerLaws.{both-lent}
use Rattle.two_sets.proofs.begin.Goals as goal

pub returns : goal.returns
returns c = rw (c.entries_of.ensures, c.entries_of-2.ensures) (both-lent c.args.first.now c.args.second.now _ c.in_ok-one.ensures _ c.in_ok-two.ensures)
