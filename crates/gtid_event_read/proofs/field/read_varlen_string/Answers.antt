-- `gtid_event_read::field::read_varlen_string` meets its contract.
-- Assumes nothing.
use native.Mathlib.Nat.{add-sub_cancel_left}
use native.Mathlib.Omega.{arith}
use Rattle.misc.specs.Varlen.{varlen_at}
use Rattle.misc.proofs.Forward.{varlen-forward}
use Rattle.misc.proofs.ParseLaws.{handed-on, read-ok, read-err, bytes-here, bytes-gone}
use Rattle.gtid_event_read.proofs.field.read_varlen_string.Goals as goal

pub returns-in_err-len : goal.returns-in_err-len
returns-in_err-len c = rw (handed-on _ c.from_residual.ensures) (rw (read-err (varlen_at c.args.s.now c.args.at) c.in_err-len.ensures))

pub returns-then-left_at-len : goal.returns-then-left_at-len
returns-then-left_at-len c = rw (read-ok (varlen_at c.args.s.now c.args.at) c.in_ok-len.ensures) (bytes-gone _ _ _ (omega arith))

pub slice_bounds-value-end : goal.slice_bounds-value-end
slice_bounds-value-end c =
    let here = varlen-forward c.args.s.now c.args.at (read-ok _ c.in_ok-len.ensures) in
    omega arith

pub returns : goal.returns
returns c =
    let len = c.in_ok-len.len in
    let ahead = varlen-forward c.args.s.now c.args.at (read-ok _ c.in_ok-len.ensures) in
    rw (read-ok (varlen_at c.args.s.now c.args.at) c.in_ok-len.ensures, add-sub_cancel_left len.next len.value)
    (bytes-here len.value c.args.s.now len.next (omega arith))
