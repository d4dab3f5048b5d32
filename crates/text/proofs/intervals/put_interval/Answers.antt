-- `text::intervals::put_interval` meets its contract.
use Prim.Native.Nat.{◌<◌}
use mathlib.Core.Path.{refl}
use native.Mathlib.Omega.{arith}
use borrow.Author.Rules.{rules}
use Rattle.std.proofs.lemmas.Fmt.{length-decimal-le}
use Rattle.text.proofs.FillLaws.{before-all}
use Rattle.text.proofs.DigitLaws.{decimal-before, decimal-most}
use Rattle.text.proofs.IntervalTextLaws.{last-most, interval-put}
use Rattle.text.proofs.intervals.put_interval.Goals as goal

pub write_digits-first-requires : goal.write_digits-first-requires
write_digits-first-requires c = let a = c.args in
    let last = c.fill_last-last.ensures.begins in
    (omega (arith, length-decimal-le 20, last, last-most a.start a.end), omega arith)

pub overflow_sub-first : goal.overflow_sub-first
overflow_sub-first c = let a = c.args in
    omega (arith, length-decimal-le 20, c.fill_last-last.ensures.begins, last-most a.start a.end, c.write_digits-first.ensures.start)

pub returns : goal.returns
returns c = let a = c.args in
    let last = c.fill_last-last.ensures in
    let first = decimal-before a.start (search rules) c.write_digits-first.ensures.start c.write_digits-first.ensures.written in
    let some : 0 < c.write_digits-first.result = omega (arith, last.begins, last-most a.start a.end, first.begins, decimal-most a.start) in
    let whole = interval-put a.start a.end last first some (omega (arith, last.begins, first.begins)) in
    rw (before-all whole refl) at c.bytes.ensures
