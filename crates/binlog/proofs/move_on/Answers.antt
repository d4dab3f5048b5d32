-- `binlog::move_on` meets its contract.
use Rattle.binlog.proofs.PhaseLaws.{opening-fit, skip-fit}
use Rattle.binlog.proofs.move_on.Goals as goal

pub returns-in-Opening : goal.returns-in-Opening
returns-in-Opening c = rw c.in-Opening.is (c.open_on.ensures.moves _ _ (opening-fit _ c.in-Opening.is c.requires.0).1)

pub returns-in-Skip : goal.returns-in-Skip
returns-in-Skip c = rw c.in-Skip.is (c.skip_on.ensures.moves _ _ (skip-fit _ c.in-Skip.is c.requires.0).1)
