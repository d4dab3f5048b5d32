-- `abi::flat::four_at` meets its contract.
use Rattle.misc.specs.Le.{le_at}
use Rattle.misc.proofs.ParseLaws.{read-ok, read-err}
use Rattle.abi.specs.Flat.{four_at}
use Rattle.abi.proofs.flat.four_at.Goals as goal

pub returns-in-Ok : goal.returns-in-Ok
unfolding four_at
returns-in-Ok c = rw (read-ok (le_at 4 c.args.s.now c.args.at) c.in-Ok.ensures.value)

pub returns-in-Err : goal.returns-in-Err
unfolding four_at
returns-in-Err c = rw (read-err (le_at 4 c.args.s.now c.args.at) c.in-Err.ensures.value)
