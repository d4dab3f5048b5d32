-- `misc::put::put_byte` meets its contract.
use mathlib.Core.List.{[], ◌∷◌}
use native.Mathlib.Omega.{arith}
use Rattle.misc.proofs.OutputLaws.{put-short, byte_put}
use Rattle.misc.proofs.Clauses.{both}
use Rattle.misc.proofs.put.put_byte.Goals as goal

pub returns-then-out-at : goal.returns-then-out-at
returns-then-out-at c = both (let a = c.args in put-short a.out.now (a.b ∷ []) a.at (omega (arith, c.if-out-at.true)))

pub returns : goal.returns
returns c = both (let a = c.args in byte_put a.out.now a.at a.b (omega (arith, c.if-out-at.false)))
