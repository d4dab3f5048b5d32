-- `text::intervals::fill_last` meets its contract.
use mathlib.Core.Path.{sym, ◌∙◌}
use native.Mathlib.Omega.{arith}
use borrow.Author.Rules.{rules}
use Rattle.std.proofs.lemmas.Fmt.{length-decimal-le}
use Rattle.text.proofs.FillLaws.{before-none}
use Rattle.text.proofs.DigitLaws.{decimal-before, decimal-most}
use Rattle.text.proofs.IntervalTextLaws.{no_last, last-put}
use Rattle.text.proofs.intervals.fill_last.Goals as goal

pub returns-then-is_next : goal.returns-then-is_next
returns-then-is_next c = let a = c.args in
    rw (no_last a.start a.end (sym c.is_next.ensures ∙ c.if-is_next.true)) (before-none a.text.now 42)

pub write_digits-first-requires : goal.write_digits-first-requires
write_digits-first-requires c = search (rules, length-decimal-le 20)

pub overflow_sub-first : goal.overflow_sub-first
overflow_sub-first c = search (rules, length-decimal-le 20)

pub returns : goal.returns
returns c = let a = c.args in
    let put = decimal-before c.saturating_sub.result (search rules) c.write_digits-first.ensures.start c.write_digits-first.ensures.written in
    last-put a.start a.end (sym c.is_next.ensures ∙ c.if-is_next.false) c.saturating_sub.result c.saturating_sub.ensures put
    (omega (arith, put.begins, decimal-most c.saturating_sub.result)) (omega (arith, put.begins))
