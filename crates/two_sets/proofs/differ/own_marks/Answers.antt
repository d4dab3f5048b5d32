use mathlib.Core.Path.{sym, ◌∙◌}
use Rattle.two_sets.proofs.DifferLaws.{seeing-none, seeing-turn, seeing-both, seeing-all}
use Rattle.two_sets.proofs.differ.own_marks.Goals as goal

pub loop-left-init : goal.loop-left-init
loop-left-init c = seeing-none c.args.first.now c.args.second.now c.args.sides c.args.seen c.requires.sides_are c.requires.shut

pub returns-then-both : goal.returns-then-both
returns-then-both c =
    let l = c.loop-left in
    let a = c.args in
    seeing-both a.first.now a.second.now a.sides a.seen _ _
    (seeing-turn a.first.now a.second.now a.sides a.seen l.left l.own l.invariant _ c.step.ensures _ _ c.is_open-one.ensures c.is_open-two.ensures
    _ c.besides-own.ensures)
    (sym c.if-both.ensures)

pub loop-left-preserved : goal.loop-left-preserved
loop-left-preserved c =
    let l = c.loop-left in
    let a = c.args in
    seeing-turn a.first.now a.second.now a.sides a.seen l.left l.own l.invariant _ c.step.ensures _ _ c.is_open-one.ensures c.is_open-two.ensures
    _ c.besides-own.ensures

pub returns : goal.returns
returns c =
    let l = c.loop-left in
    let a = c.args in
    c.besides.ensures ∙ seeing-all a.first.now a.second.now a.sides a.seen l.left l.own l.invariant c.loop-left-test.false
