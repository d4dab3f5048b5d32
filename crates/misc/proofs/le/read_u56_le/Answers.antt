-- `misc::le::read_u56_le` meets its contract.
use Rattle.misc.proofs.LeLaws.{le-refused, le_read}
use native.Mathlib.Omega.{arith}
use Rattle.misc.proofs.le.read_u56_le.Goals as goal

pub returns-then-left_at-lt7-clause-value : goal.returns-then-left_at-lt7-clause-value
returns-then-left_at-lt7-clause-value c = le-refused 7 _ _ (omega arith)

pub returns-clause-value : goal.returns-clause-value
returns-clause-value c = le_read 7 _ _ (omega arith) c.gather_at_once.ensures.0
