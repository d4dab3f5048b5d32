use mathlib.Core.Path.{◌∙◌}
use Rattle.two_sets.proofs.MarkLaws.{none_left}
use Rattle.two_sets.proofs.WriteLaws.{making-turn, making-all}
use Rattle.two_sets.proofs.write.put_combined.Goals as goal

as_made_is_where_fits : {A B : Type 0} → A × B → record { made_is : A; where_fits : B }
as_made_is_where_fits p = record { made_is = p.0; where_fits = p.1 }

pub loop-left-preserved : goal.loop-left-preserved
loop-left-preserved g c =
    let a = c.args in
    let l = c.loop-left in
    let put = c.put_entry-marks.ensures in (
      c.put_entry-marks.auto.out ∙ l.invariant.0,
      rw c.grown-made.ensures
          (making-turn g.O.Operation.op a.first.now a.second.now a.tags a.out.now _ l.left l.out l.made l.invariant.1 _ c.next_pair-pair.ensures
          g.met.O.Operation.none _ put.value.0 put.value.1 _ put.where_fits),
    )

pub returns : goal.returns
returns g c =
    let a = c.args in
    let l = c.loop-left in
    let z = none_left l.left.first.left l.left.second.left c.loop-left-test.false in
    as_made_is_where_fits (making-all g.O.Operation.op a.first.now a.second.now a.tags a.out.now _ l.left l.out l.made l.invariant.1 z.0 z.1)
