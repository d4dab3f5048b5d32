-- `misc::le::read_le` meets its contract.
use Rattle.misc.proofs.LeLaws.{le-refused, le_read}
use native.Mathlib.Omega.{arith}
use Rattle.misc.proofs.le.read_le.Goals as goal

pub returns-then-s-at-clause-value : goal.returns-then-s-at-clause-value
returns-then-s-at-clause-value c = le-refused _ _ _ (omega arith)

pub returns-then-s-at-2-clause-value : goal.returns-then-s-at-2-clause-value
returns-then-s-at-2-clause-value c = le-refused _ _ _ (omega arith)

pub returns-clause-value : goal.returns-clause-value
returns-clause-value c = le_read _ _ _ (omega arith) c.gather.ensures.0
