-- `gtid_event_read::untagged::read_pair` meets its contract.
-- Assumes nothing.
use mathlib.Core.Path.{sym, ◌∙◌}
use native.Mathlib.Omega.{arith}
use Rattle.misc.specs.Le.{le_at}
use Rattle.misc.specs.Mark.{clear_bit}
use Rattle.misc.proofs.ParseLaws.{handed-on, read-ok, read-err}
use Rattle.gtid_event_read.specs.Untagged.{pair_at}
use Rattle.gtid_event_read.proofs.UntaggedLaws.{left_there, pair-both, pair_one}
use Rattle.gtid_event_read.proofs.untagged.read_pair.Goals as goal

pub returns-in_err-first-clause-value : goal.returns-in_err-first-clause-value
unfolding pair_at
returns-in_err-first-clause-value g c =
    let a = c.args in
    handed-on _ c.from_residual.ensures
    ∙ rw (left_there g.row.WIDTH a.s.now a.at _ _ (omega arith), read-err (le_at g.row.WIDTH a.s.now a.at) c.in_err-first.ensures.value)

pub returns-in_err-original-clause-value : goal.returns-in_err-original-clause-value
returns-in_err-original-clause-value g c =
    let w = g.row.WIDTH in
    let s = c.args.s.now in
    let first = c.in_ok-first in
    handed-on _ c.from_residual-in_err-original.ensures
    ∙ rw (
      left_there w s c.args.at _ _ (omega arith),
      pair-both w s c.args.at (read-ok _ first.ensures.value) (sym c.has_bit.ensures ∙ c.if-has_bit.true),
      read-err (le_at w s first.first.next) c.in_err-original.ensures.value,
    )

pub returns-then-has_bit-clause-value : goal.returns-then-has_bit-clause-value
returns-then-has_bit-clause-value g c =
    let w = g.row.WIDTH in
    let s = c.args.s.now in
    let first = c.in_ok-first in
    rw (
      left_there w s c.args.at _ _ (omega arith),
      pair-both w s c.args.at (read-ok _ first.ensures.value) (sym c.has_bit.ensures ∙ c.if-has_bit.true),
      read-ok (le_at w s first.first.next) c.in_ok-original.ensures.value,
      c.clear_bit.ensures,
    )

pub returns-then-has_bit-clause-bound : goal.returns-then-has_bit-clause-bound
unfolding clear_bit
returns-then-has_bit-clause-bound g c = (omega (arith, c.clear_bit.ensures, c.in_ok-first.ensures.bound), c.in_ok-original.ensures.bound)

pub returns-clause-value : goal.returns-clause-value
returns-clause-value g c =
    rw (
      left_there g.row.WIDTH c.args.s.now c.args.at _ _ (omega arith),
      pair_one g.row.WIDTH c.args.s.now c.args.at (read-ok _ c.in_ok-first.ensures.value) (sym c.has_bit.ensures ∙ c.if-has_bit.false),
    )
