-- `previous_gtids_event::read::tag_at` meets its contract.
use native.Mathlib.Omega.{arith}
use native.Mathlib.Nat.{add-sub_cancel_left}
use mathlib.Core.Path.{sym, ap, ◌∙◌}
use Rattle.misc.proofs.Forward.{varlen-forward}
use Rattle.misc.proofs.ParseLaws.{handed-on, read-ok, read-err}
use Rattle.previous_gtids_event.specs.Inside.{tag_read}
use Rattle.previous_gtids_event.proofs.Reading.{untagged, tag-unsized, tag-cut, tag-bad, tag-answer}
use Rattle.previous_gtids_event.proofs.read.tag_at.Goals as goal

pub returns-then-not-tagged : goal.returns-then-not-tagged
returns-then-not-tagged c = ap tag_read (sym (untagged _ _ _ c.if-not-tagged.true))

pub returns-in_err-size : goal.returns-in_err-size
returns-in_err-size c = handed-on _ c.from_residual.ensures
    ∙ ap tag_read (sym (tag-unsized _ _ _ c.if-not-tagged.false (read-err _ c.in_err-size.ensures)))

pub returns-then-left_at-len : goal.returns-then-left_at-len
returns-then-left_at-len c = let size = read-ok _ c.in_ok-size.ensures in
    ap tag_read (sym (tag-cut _ _ _ c.if-not-tagged.false _ _ size (omega (arith, varlen-forward _ _ size))))

pub slice_bounds-none_or_tag-end : goal.slice_bounds-none_or_tag-end
slice_bounds-none_or_tag-end c = omega (arith, varlen-forward _ _ (read-ok _ c.in_ok-size.ensures))

pub returns-then-none_or_tag : goal.returns-then-none_or_tag
returns-then-none_or_tag c = let size = read-ok _ c.in_ok-size.ensures in
    tag-answer _ _ _ c.if-not-tagged.false _ _ size (omega (arith, varlen-forward _ _ size))
    (rw add-sub_cancel_left at (sym c.none_or_tag.ensures ∙ c.if-none_or_tag.true))

pub returns : goal.returns
returns c = let size = read-ok _ c.in_ok-size.ensures in
    ap tag_read (sym (tag-bad _ _ _ c.if-not-tagged.false _ _ size (omega (arith, varlen-forward _ _ size))
    (rw add-sub_cancel_left at (sym c.none_or_tag.ensures ∙ c.if-none_or_tag.false))))
