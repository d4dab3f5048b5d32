-- `previous_gtids_event::read::whole_at` meets its contract.
use native.Mathlib.Omega.{arith}
use mathlib.Core.Path.{sym, ap, ◌∙◌}
use Rattle.misc.proofs.ParseLaws.{handed-on, answered-err}
use Rattle.previous_gtids_event.specs.Inside.{head_told, whole_read}
use Rattle.previous_gtids_event.proofs.Reading.{entry-headless, head-inside, whole-cut, whole-answer, whole-told, whole-places}
use Rattle.previous_gtids_event.proofs.read.whole_at.Goals as goal

pub returns-in_err-head-clause-value : goal.returns-in_err-head-clause-value
returns-in_err-head-clause-value c = handed-on _ c.from_residual.ensures
    ∙ ap whole_read (sym (entry-headless _ _ _ (answered-err head_told _ c.in_err-head.ensures)))

pub returns-then-room-head-clause-value : goal.returns-then-room-head-clause-value
returns-then-room-head-clause-value c = let inside = head-inside _ _ _ _ c.in_ok-head.ensures in
    ap whole_read (sym (whole-cut _ _ _ _ c.in_ok-head.ensures (omega (arith, inside))))

pub returns : goal.returns
returns c = let inside = head-inside _ _ _ _ c.in_ok-head.ensures in
    let whole = whole-answer c.args.tagged c.args.body.now c.args.at _ c.in_ok-head.ensures (omega (arith, inside)) in
    record { value = whole; places = whole-places (whole-told _ _ _ _ whole) }
