-- `two_sets::marks::step` meets its contract.
use native.Mathlib.Omega.{arith}
use Rattle.two_sets.proofs.MarkLaws.{pass-one, pass-two, step_is}
use Rattle.two_sets.proofs.marks.step.Goals as goal

pub passed-requires : goal.passed-requires
passed-requires c = λ h. let w = pass-one c.args.first.now c.args.second.now c.args.sides c.requires.sides_are c.requires.sides_nonzero _ _
    c.mark_at-m.ensures c.mark_at-n.ensures h in
    (w, omega (arith, c.requires.sides_are.first.there))

pub passed-requires-2 : goal.passed-requires-2
passed-requires-2 c = λ h. let w = pass-two c.args.first.now c.args.second.now c.args.sides c.requires.sides_are c.requires.sides_nonzero _ _
    c.mark_at-m.ensures c.mark_at-n.ensures h in
    (w, omega (arith, c.requires.sides_are.second.there))

pub returns : goal.returns
returns c = step_is c.args.first.now c.args.second.now c.args.sides c.requires.sides_are c.requires.sides_nonzero
    c.mark_at-m.result c.mark_at-n.result c.mark_at-m.ensures c.mark_at-n.ensures
    c.passed.result c.passed-2.result c.passed.ensures c.passed-2.ensures
    c.min.result c.min.ensures
