-- `previous_gtids_event::read::interval_at` meets its contract.
use native.Mathlib.Omega.{arith}
use mathlib.Core.Path.{◌∙◌}
use Rattle.misc.proofs.ParseLaws.{handed-on, read-ok, read-err}
use Rattle.previous_gtids_event.specs.Answers.{interval_told}
use Rattle.previous_gtids_event.proofs.Reading.{too-long, body-refused, body-read, interval-gone, interval-startless, interval-endless, interval-whole}
use Rattle.previous_gtids_event.proofs.read.interval_at.Goals as goal

pub returns-then-body-gt-MAX_BODY : goal.returns-then-body-gt-MAX_BODY
returns-then-body-gt-MAX_BODY c = too-long interval_told _ _ (omega arith)

pub returns-then-whole-index : goal.returns-then-whole-index
returns-then-whole-index c = body-refused interval_told _ _ (omega arith) (interval-gone _ _ (omega arith))

pub returns-in_err-start : goal.returns-in_err-start
returns-in_err-start c = handed-on _ c.from_residual.ensures
    ∙ body-refused interval_told _ _ (omega arith) (interval-startless _ _ (read-err _ c.in_err-start.ensures))

pub returns-in_err-end : goal.returns-in_err-end
returns-in_err-end c = handed-on _ c.from_residual-in_err-end.ensures
    ∙ body-refused interval_told _ _ (omega arith)
    (interval-endless _ _ (read-ok _ c.in_ok-start.ensures) (read-err _ c.in_err-end.ensures))

pub returns : goal.returns
returns c = body-read interval_told _ _ (omega arith) (interval-whole _ _ (read-ok _ c.in_ok-start.ensures) (read-ok _ c.in_ok-end.ensures))
