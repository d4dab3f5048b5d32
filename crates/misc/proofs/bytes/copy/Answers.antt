use mathlib.Core.Path.{refl, ◌∙◌}
use native.Mathlib.Omega.{arith}
use lib.ListN.{length-set, drop_of_length-le}
use Rattle.misc.proofs.OutputLaws.{written_none, copy-turn}
use Rattle.misc.proofs.bytes.copy.Goals as goal

pub loop-i-init : goal.loop-i-init
loop-i-init c = (refl, refl)

pub loop-i-preserved : goal.loop-i-preserved
loop-i-preserved c = let w = c.loop-i in
    (simp length-set w.invariant.0, copy-turn w.out _ w.i (omega arith) ∙ w.invariant.1)

pub returns : goal.returns
returns c = let w = c.loop-i in
    let source = c.args.source.now in
    let done = drop_of_length-le source {i = w.i} (omega arith) in
    written_none w.out w.i ∙ rw done at w.invariant.1
