-- `misc::signed::meant_by` meets its contract.
-- Assumes nothing.
use Prim.Native.Nat.{◌/◌, ◌^◌, ◌<◌}
use native.Mathlib.Omega.{arith}
use Rattle.misc.proofs.SignedLaws.{turned-half, meant-even, meant-odd}
use Rattle.misc.proofs.signed.meant_by.Goals as goal

pub returns-then-sent-eq0 : goal.returns-then-sent-eq0
returns-then-sent-eq0 c = meant-even c.args.sent (omega arith) c.if-sent-eq0.true

pub overflow_sub-result : goal.overflow_sub-result
overflow_sub-result c = let half : c.args.sent / 2 < 2 ^ 63 = omega arith in
    rw (turned-half (c.args.sent / 2) half) (record { sfits = half })

pub returns : goal.returns
returns c = meant-odd c.args.sent (omega arith) c.if-sent-eq0.false
