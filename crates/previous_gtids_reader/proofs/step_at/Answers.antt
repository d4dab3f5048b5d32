-- `previous_gtids_reader::step_at` meets its contract.
use mathlib.Core.Path.{sym, ◌∙◌}
use Rattle.misc.proofs.ParseLaws.{handed-on}
use Rattle.previous_gtids_reader.proofs.StepLaws.{step-unbegun, step_end, step-refused, step-read}
use Rattle.previous_gtids_reader.proofs.step_at.Goals as goal

pub returns-in_err-tagged : goal.returns-in_err-tagged
returns-in_err-tagged c = handed-on _ c.from_residual.ensures ∙ step-unbegun _ c.in_err-tagged.ensures c.args.cursor

pub returns-then-cursor-eq0 : goal.returns-then-cursor-eq0
returns-then-cursor-eq0 c = sym (step_end _ _ c.in_ok-tagged.ensures c.args.cursor c.if-cursor-eq0.true)

pub returns-in_err-entry : goal.returns-in_err-entry
returns-in_err-entry c = handed-on _ c.from_residual-in_err-entry.ensures
    ∙ step-refused _ _ c.in_ok-tagged.ensures c.args.cursor c.if-cursor-eq0.false c.in_err-entry.ensures

pub returns : goal.returns
returns c = step-read _ _ c.in_ok-tagged.ensures c.args.cursor c.if-cursor-eq0.false _ c.in_ok-entry.ensures
