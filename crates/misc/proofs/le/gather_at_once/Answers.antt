-- `misc::le::gather_at_once` meets its contract.
-- Assumes nothing.
use Rattle.misc.proofs.LeLaws.{loaded-low}
use Rattle.misc.specs.Parse.{Bytes}
use native.Mathlib.Omega.{arith}
use Rattle.misc.proofs.le.gather_at_once.Goals as goal

pub returns : goal.returns
returns c = let a = c.args in
    let bytes : Bytes a.s.now = λ i. (c.type_inv.s i).fits in
    loaded-low a.s.now a.at a.n c.gather_eight.result bytes (omega arith) c.gather_eight.ensures
