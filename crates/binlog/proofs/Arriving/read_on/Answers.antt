-- `binlog::Arriving::read_on` meets its contract.
use Rattle.binlog.proofs.HeldLaws.{read_more, read_whole}
use native.Mathlib.Omega.{arith}
use Rattle.binlog.proofs.Arriving.read_on.Goals as goal

pub returns-then-used-self : goal.returns-then-used-self
returns-then-used-self c =
    read_more _ _ (omega arith) (omega arith) _ _ _ _ c.fill.auto.work (omega arith) (omega arith) c.fill.ensures _ _ (omega arith) (omega arith)

pub returns : goal.returns
returns c = let size = rw c.trailer_len.ensures.0 at c.saturating_sub-body.ensures in
    rw size (read_whole _ _ (omega arith) (omega arith) _ _ _ _ c.fill.auto.work (omega arith) (omega arith) c.fill.ensures _ _ (omega arith))
