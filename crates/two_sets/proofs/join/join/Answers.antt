use mathlib.Core.Path.{sym}
use lib.Seq.{length-take-le}
use Rattle.misc.proofs.Clauses.{both}
use Rattle.set_join.proofs.TakenLaws.{used-inside}
use Rattle.two_sets.proofs.JoinLaws.{join-both}
use Rattle.two_sets.proofs.join.join.Goals as goal

pub slice_bounds-other-end : goal.slice_bounds-other-end
slice_bounds-other-end c = sym (length-take-le _ _ (used-inside c.args.body.now c.args.out.now c.in-Ok.ensures))

pub returns : goal.returns
returns c =
    let wrote = c.write_combined.ensures in
    both (join-both c.args.set.now c.args.body.now c.args.out.now c.in-Ok.ensures _ c.in-Ok-begin.ensures (wrote.value, wrote.out_after))
