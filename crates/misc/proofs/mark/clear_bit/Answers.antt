-- `misc::mark::clear_bit` meets its contract.
use mathlib.Core.Path.{sym}
use Rattle.misc.proofs.MarkLaws.{none-above, others-clear}
use Rattle.misc.proofs.mark.clear_bit.Goals as goal

pub returns-in-Some : goal.returns-in-Some
returns-in-Some c = others-clear _ _ c.ranges.x.fits _ c.in-Some.ensures

pub returns-in-None : goal.returns-in-None
returns-in-None c = sym (none-above _ _ c.ranges.x.fits c.in-None.ensures).1
