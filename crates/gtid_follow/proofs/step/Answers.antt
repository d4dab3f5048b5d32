-- `gtid_follow::step` meets its contract, by what a step of the reader leaves.
use mathlib.Core.Path.{sym, ◌∙◌}
use native.Mathlib.Omega.{arith}
use Rattle.packets.proofs.Tests.{and-true}
use Rattle.gtid_follow.proofs.StepLaws.{rest-fits, turn-fits, turn-uses}
use Rattle.gtid_follow.proofs.LineLaws.{lined-within}
use Rattle.gtid_follow.proofs.step.Goals as goal

pub line_of-lines-requires-clause-stands_in : goal.line_of-lines-requires-clause-stands_in
line_of-lines-requires-clause-stands_in c = let a = c.args in
    let fits = c.requires.fits in
    (rest-fits a.walk.reader a.work.now a.set.now _ a.chunk.now a.walk.used _ _ fits.answered fits.kept c.requires.used_in_bounds.0
    c.step-fed.ensures.value c.step-fed.ensures.front).stands

pub overflow_add-next : goal.overflow_add-next
overflow_add-next c = let a = c.args in
    let fits = c.requires.fits in
    let fed = rest-fits a.walk.reader a.work.now a.set.now _ a.chunk.now a.walk.used _ _ fits.answered fits.kept c.requires.used_in_bounds.0
    c.step-fed.ensures.value c.step-fed.ensures.front in
    record { fits = omega (arith, fed.used) }

pub returns-clause-fits_2 : goal.returns-clause-fits_2
returns-clause-fits_2 c = let a = c.args in
    let fits = c.requires.fits in
    let fed = rest-fits a.walk.reader a.work.now a.set.now _ a.chunk.now a.walk.used _ _ fits.answered fits.kept c.requires.used_in_bounds.0
    c.step-fed.ensures.value c.step-fed.ensures.front in
    let short = lined-within c.step-fed.result.said c.step-fed.new.work a.walk.lines a.text.now c.line_of-lines.result
    c.line_of-lines.new.text c.line_of-lines.ensures fits.lines in
    turn-fits _ _ _ c.after.ensures (record { kept = fed.kept; lines = short; answered = fed.answered })

pub returns-clause-used_in_bounds_2 : goal.returns-clause-used_in_bounds_2
returns-clause-used_in_bounds_2 c = let a = c.args in
    let fits = c.requires.fits in
    let fed = rest-fits a.walk.reader a.work.now a.set.now _ a.chunk.now a.walk.used _ _ fits.answered fits.kept c.requires.used_in_bounds.0
    c.step-fed.ensures.value c.step-fed.ensures.front in
    turn-uses _ _ _ c.after.ensures (omega (arith, fed.used)) (λ on. omega (arith, fed.some (sym c.goes_on.ensures ∙ (and-true _ _ on).0)))
