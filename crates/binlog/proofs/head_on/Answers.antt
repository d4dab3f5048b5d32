-- `binlog::head_on` meets its contract.
use Rattle.binlog.proofs.HeldLaws.{head_more, head-whole}
use native.Mathlib.Omega.{arith}
use Rattle.binlog.proofs.head_on.Goals as goal

pub returns-then-have-used-lt-HEADER : goal.returns-then-have-used-lt-HEADER
returns-then-have-used-lt-HEADER c =
    head_more _ _ (omega arith) (omega arith) _ _ _ _ c.fill.auto.work (omega arith) (omega arith) c.fill.ensures (omega arith)

pub returns-in-Ok : goal.returns-in-Ok
returns-in-Ok c =
    head-whole _ _ (omega arith) (omega arith) _ _ _ _ c.fill.auto.work (omega arith) (omega arith) c.fill.ensures _ (omega arith) c.in-Ok.ensures

pub returns-in-Err : goal.returns-in-Err
returns-in-Err c = rw c.from-phase.ensures
    (head-whole _ _ (omega arith) (omega arith) _ _ _ _ c.fill.auto.work (omega arith) (omega arith) c.fill.ensures _ (omega arith) c.in-Err.ensures)
