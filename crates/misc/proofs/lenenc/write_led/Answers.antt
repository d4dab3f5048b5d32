-- `misc::lenenc::write_led` meets its contract.
-- Assumes nothing.
use Rattle.misc.proofs.LeLaws.{length-le_bytes}
use Rattle.misc.proofs.OutputLaws.{written-cons, output-fits, output-short}
use Rattle.misc.specs.Le.{le_bytes}
use lib.ListN.{length-set}
use mathlib.Core.List.{◌∷◌}
use Prim.Native.Nat.{◌+◌}
use mathlib.Core.Path.{◌∙◌}
use native.Mathlib.Omega.{arith}
use Rattle.misc.proofs.Clauses.{both}
use Rattle.misc.proofs.lenenc.write_led.Goals as goal

pub returns-then-out-needed : goal.returns-then-out-needed
returns-then-out-needed c = both (let a = c.args in
    output-short a.out.now (a.lead ∷ le_bytes a.n a.value) (a.n + 1) (omega (arith, length-le_bytes a.n a.value)) c.if-out-needed.true)

pub scatter-requires : goal.scatter-requires
scatter-requires c = simp length-set (omega arith)

pub shape_of-out : goal.shape_of-out
shape_of-out c = c.scatter.auto.out ∙ simp length-set

pub returns : goal.returns
returns c = both (let a = c.args in
    let size = length-le_bytes a.n a.value in
    output-fits (omega (arith, size))
    (record { holds = c.scatter.ensures ∙ written-cons a.out.now 0 a.lead (le_bytes a.n a.value); ends = omega (arith, size) }))
