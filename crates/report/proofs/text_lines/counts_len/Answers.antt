-- `report::text_lines::counts_len` meets its contract.
use mathlib.Core.Path.{refl}
use native.Mathlib.Omega.{arith}
use Rattle.report.specs.Text.{set_word}
use Rattle.report.proofs.TextLaws.{counts-long}
use Rattle.report.proofs.text_lines.counts_len.Goals as goal

pub returns : goal.returns
returns c = let e = c.decimal_len.ensures in
    let i = c.decimal_len-2.ensures in
    let h = c.decimal_len-3.ensures in
    let l = c.decimal_len-4.ensures in
    (counts-long set_word c.args.counts refl _ _ _ _ e.0 i.0 h.0 l.0, omega (arith, e.1, i.1, h.1, l.1))
