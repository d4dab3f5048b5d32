-- `misc::varlen::trailing_ones` meets its contract.
-- Assumes nothing.
use native.Mathlib.Omega.{arith}
use Rattle.misc.proofs.VarlenLaws.{flipped, trailing_ones-le}
use Rattle.misc.proofs.varlen.trailing_ones.Goals as goal

pub overflow_cast-result : goal.overflow_cast-result
overflow_cast-result c = omega (arith, flipped 8 c.args.b (omega arith), trailing_ones-le 8 c.args.b)

pub returns : goal.returns
returns c = let e = flipped 8 c.args.b (omega arith) in
    (e, omega (arith, e, trailing_ones-le 8 c.args.b))
