use Prim.Native.Nat.{suc, ◌+◌, ◌-◌}
use native.Mathlib.Omega.{arith}
use mathlib.Core.Path.{◌≡◌, refl, sym, ap, ◌∙◌}
use Rattle.std.specs.Prelude.{Ok}
use Rattle.misc.proofs.ParseLaws.{handed-on}
use Rattle.previous_gtids_reader.proofs.StepLaws.{never-begun, ahead-still, ahead_none, begun-err, reader-start, reader-turn}
use Rattle.previous_gtids_reader.proofs.entry_number.Goals as goal

pub returns-in_err-reader : goal.returns-in_err-reader
returns-in_err-reader c = handed-on _ c.from_residual.ensures ∙ never-begun _ _ (begun-err _ _ c.in_err-reader.ensures)

pub loop-init : goal.loop-init
loop-init c = let all : c.args.index - 0 ≡ c.args.index = omega arith in
    rw all (reader-start _ _ c.in_ok-reader.ensures)

pub returns-in_err-step : goal.returns-in_err-step
returns-in_err-step c = handed-on _ c.from_residual-in_err-step.ensures
    ∙ ahead-still _ _ _ c.loop.reader.cursor c.loop.invariant _ c.in_err-step.ensures refl

pub returns-in-None : goal.returns-in-None
returns-in-None c = ahead-still _ _ _ c.loop.reader.cursor c.loop.invariant _ (sym (ap Ok c.in-None.is) ∙ c.in_ok-step.ensures) refl

pub loop-preserved : goal.loop-preserved
loop-preserved c = let one : c.args.index - c.loop.counter ≡ suc (c.args.index - (c.loop.counter + 1)) = omega arith in
    reader-turn _ _ _ c.loop.reader c.loop.invariant one (sym (ap Ok c.in-Some.is) ∙ c.in_ok-step.ensures) c.moved-reader.ensures

pub returns-in_err-step-2 : goal.returns-in_err-step-2
returns-in_err-step-2 c = handed-on _ c.from_residual-in_err-step-2.ensures
    ∙ ahead_none _ _ _ c.loop.reader.cursor c.loop.invariant (omega arith) _ c.in_err-step-2.ensures

pub returns : goal.returns
returns c = ahead_none _ _ _ c.loop.reader.cursor c.loop.invariant (omega arith) _ c.in_ok-step-2.ensures
