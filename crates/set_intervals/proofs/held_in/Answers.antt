-- `set_intervals::held_in` meets its contract.
use Rattle.set_intervals.proofs.held_in.Goals as goal

pub returns : goal.returns
returns c = rw (← c.earlier_in-before.ensures) c.held_behind.ensures
