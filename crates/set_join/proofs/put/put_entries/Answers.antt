-- `set_join::put::put_entries` meets its contract.
use Rattle.misc.proofs.PutLaws.{puts-fit}
use Rattle.set_join.proofs.PutLaws.{run-plain}
use Rattle.set_join.proofs.put.put_entries.Goals as goal

pub returns : goal.returns
returns c =
    let a = c.args in
    run-plain a.widen a.set.now a.run c.if-widen.false (puts-fit c.bytes.ensures)
