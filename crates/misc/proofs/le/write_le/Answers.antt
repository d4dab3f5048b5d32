-- `misc::le::write_le` meets its contract.
-- Assumes nothing.
use Rattle.misc.proofs.LeLaws.{length-le_bytes}
use Rattle.misc.proofs.OutputLaws.{output-fits, output-short}
use mathlib.Core.Path.{sym}
use Rattle.misc.specs.Le.{le_bytes}
use native.Mathlib.Omega.{arith}
use Rattle.misc.proofs.Clauses.{both}
use Rattle.misc.proofs.le.write_le.Goals as goal

pub returns-then-out-n : goal.returns-then-out-n
returns-then-out-n c = both (let a = c.args in
    output-short a.out.now (le_bytes a.n a.value) a.n (sym (length-le_bytes a.n a.value)) c.if-out-n.true)

pub returns : goal.returns
returns c = both (let a = c.args in
    output-fits (omega (arith, length-le_bytes a.n a.value))
    (record { holds = c.scatter.ensures; ends = omega (arith, length-le_bytes a.n a.value) }))
