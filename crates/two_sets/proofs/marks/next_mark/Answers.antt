use Rattle.two_sets.proofs.MarkLaws.{same-test, turns-test, passing-turn, passing-found}
use Rattle.two_sets.proofs.marks.next_mark.Goals as goal

pub returns-then-keeps_now : goal.returns-then-keeps_now
returns-then-keeps_now g c =
    let a = c.args in
    let l = c.loop-left in
    passing-found g.O.Operation.op a.first.now a.second.now a.sides l.left l.invariant _ c.step-next.ensures _ _ c.keeps_now.ensures
    c.keeps_now-in-loop-left.ensures (turns-test _ _ c.if-keeps_now.true)

pub loop-left-preserved : goal.loop-left-preserved
loop-left-preserved g c =
    let a = c.args in
    let l = c.loop-left in
    passing-turn g.O.Operation.op a.first.now a.second.now a.sides l.left l.invariant _ c.step-next.ensures _ _ c.keeps_now.ensures
    c.keeps_now-in-loop-left.ensures (same-test _ _ c.if-keeps_now.false)
