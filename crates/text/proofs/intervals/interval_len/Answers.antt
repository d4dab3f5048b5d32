-- `text::intervals::interval_len` meets its contract.
use mathlib.Core.Path.{sym, ◌∙◌}
use native.Mathlib.Omega.{arith}
use Rattle.text.proofs.IntervalTextLaws.{one-length, more-length}
use Rattle.text.proofs.intervals.interval_len.Goals as goal

pub returns-then-is_next : goal.returns-then-is_next
returns-then-is_next c = let a = c.args in
    (one-length a.start a.end _ c.decimal_len-len.ensures.0 (sym c.is_next.ensures ∙ c.if-is_next.true), omega arith)

pub returns : goal.returns
returns c = let a = c.args in
    let n = c.decimal_len-len.ensures.0 in
    let m = rw c.saturating_sub.ensures at c.decimal_len.ensures.0 in
    (more-length a.start a.end _ n (sym c.is_next.ensures ∙ c.if-is_next.false) _ m, omega arith)
