-- `misc::mark::has_bit` meets its contract.
use mathlib.Core.Path.{sym}
use Rattle.misc.proofs.MarkLaws.{none-above, mask-tests}
use Rattle.misc.proofs.mark.has_bit.Goals as goal

pub returns-in-Some : goal.returns-in-Some
returns-in-Some c = mask-tests _ _ c.ranges.x.fits _ c.in-Some.ensures

pub returns-in-None : goal.returns-in-None
returns-in-None c = sym (none-above _ _ c.ranges.x.fits c.in-None.ensures).0
