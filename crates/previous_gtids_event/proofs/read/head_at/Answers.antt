-- `previous_gtids_event::read::head_at` meets its contract.
use native.Mathlib.Omega.{arith}
use mathlib.Core.Path.{sym, ap, ◌∙◌}
use Rattle.misc.proofs.ParseLaws.{handed-on, answered-err, read-ok, read-err}
use Rattle.previous_gtids_event.specs.Inside.{tag_told, head_read}
use Rattle.previous_gtids_event.proofs.Reading.{head-gone, head-untagged, count-refused, head-answer}
use Rattle.previous_gtids_event.proofs.read.head_at.Goals as goal

pub returns-then-left_at-lt-UUID_LEN : goal.returns-then-left_at-lt-UUID_LEN
returns-then-left_at-lt-UUID_LEN c = ap head_read (sym (head-gone _ _ _ (omega arith)))

pub returns-in_err-tag : goal.returns-in_err-tag
returns-in_err-tag c = handed-on _ c.from_residual.ensures
    ∙ ap head_read (sym (head-untagged _ _ _ (omega arith) (answered-err tag_told _ c.in_err-tag.ensures)))

pub returns-in_err-count : goal.returns-in_err-count
returns-in_err-count c = handed-on _ c.from_residual-in_err-count.ensures
    ∙ ap head_read (sym (count-refused _ _ _ (omega arith) _ c.in_ok-tag.ensures (read-err _ c.in_err-count.ensures)))

pub returns : goal.returns
returns c = head-answer _ _ _ (omega arith) _ c.in_ok-tag.ensures (read-ok _ c.in_ok-count.ensures)
