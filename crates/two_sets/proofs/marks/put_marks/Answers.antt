-- `two_sets::marks::put_marks` meets its contract.
use native.Mathlib.Omega.{arith}
use Rattle.two_sets.proofs.MarkLaws.{only-first, only-second, marks-are}
use Rattle.two_sets.proofs.marks.put_marks.Goals as goal

pub returns-then-sides-eq0 : goal.returns-then-sides-eq0
returns-then-sides-eq0 g c = let e = only-first g.O.Operation.op g.met.O.Operation.none c.args.first.now c.args.second.now c.args.sides _
    c.if-sides-eq0.true c.keeps.ensures in
    marks-are e (omega arith) c.put_alone.ensures

pub returns-then-sides-eq0-2 : goal.returns-then-sides-eq0-2
returns-then-sides-eq0-2 g c = let e = only-second g.O.Operation.op g.met.O.Operation.none c.args.first.now c.args.second.now c.args.sides _
    c.if-sides-eq0-2.true c.keeps-then-sides-eq0-2.ensures in
    marks-are e (omega arith) c.put_alone-then-sides-eq0-2.ensures
