use Rattle.report.proofs.IdLaws.{totalling-none, next-gapped, totalling-turn}
use native.Mathlib.Omega.{arith}
use mathlib.Core.Path.{◌∙◌}
use Rattle.report.proofs.ids.ids_in.Goals as goal

pub loop-left-init : goal.loop-left-init
loop-left-init c = totalling-none c.args.set.now c.args.from c.requires.cursor_is c.requires.left_le_max_entries

pub size_at-requires-clause-first_value : goal.size_at-requires-clause-first_value
size_at-requires-clause-first_value c = next-gapped _ _ _ _ c.loop-left.invariant (omega arith) _ c.entry_here-place.ensures

pub loop-left-preserved : goal.loop-left-preserved
loop-left-preserved c =
    rw c.beyond-left.ensures
    (totalling-turn _ _ _ _ c.loop-left.invariant (omega arith) _ c.entry_here-place.ensures _ (c.from-ids.ensures ∙ c.size_at.ensures.0))
