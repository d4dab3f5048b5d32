use mathlib.Core.Path.{◌∙◌}
use Rattle.two_sets.proofs.DifferLaws.{walking-turn, walking-all}
use Rattle.two_sets.proofs.differ.own_ids.Goals as goal

pub loop-left-preserved : goal.loop-left-preserved
loop-left-preserved c =
    let l = c.loop-left in
    let a = c.args in
    walking-turn a.first.now a.second.now a.from a.seen l.left l.own l.invariant _ c.next_pair-pair.ensures _ c.own_marks-own.ensures

pub returns : goal.returns
returns c =
    let l = c.loop-left in
    let a = c.args in
    c.besides.ensures ∙ walking-all a.first.now a.second.now a.from a.seen l.left l.own l.invariant c.loop-left-test.false
