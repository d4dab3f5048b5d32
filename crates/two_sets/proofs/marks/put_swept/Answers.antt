use mathlib.Core.Path.{◌∙◌}
use Rattle.misc.proofs.OutputLaws.{put-placed}
use Rattle.two_sets.proofs.MarkLaws.{putting-turn, putting-all}
use Rattle.two_sets.proofs.marks.put_swept.Goals as goal

pub loop-next-preserved : goal.loop-next-preserved
loop-next-preserved g c =
    let a = c.args in
    let l = c.loop-next in (
      c.put_u64_le.auto.out ∙ l.invariant.0,
      putting-turn g.O.Operation.op a.first.now a.second.now a.sides a.out.now a.at l.left l.out l.count l.invariant.1 _ c.in-Some.ensures _ _
          (put-placed (c.put_u64_le.ensures.value, c.put_u64_le.ensures.out_after)),
    )

pub returns : goal.returns
returns g c =
    let a = c.args in
    let l = c.loop-next in
    putting-all g.O.Operation.op a.first.now a.second.now a.sides a.out.now a.at l.left l.out l.count l.invariant.1 c.in_default.ensures
