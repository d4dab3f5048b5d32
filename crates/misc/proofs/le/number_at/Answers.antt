-- `misc::le::number_at` meets its contract.
use mathlib.Core.Path.{sym, ◌∙◌}
use Rattle.misc.specs.Le.{number_at}
use Rattle.misc.proofs.ParseLaws.{or-ok, or-err}
use Rattle.misc.proofs.le.number_at.Goals as goal

pub returns-in-Ok : goal.returns-in-Ok
unfolding number_at
returns-in-Ok c = or-ok 0 _ (sym c.in-Ok.is ∙ c.read_u64_le.ensures)

pub returns-in-Err : goal.returns-in-Err
unfolding number_at
returns-in-Err c = or-err 0 _ (sym c.in-Err.is ∙ c.read_u64_le.ensures)
