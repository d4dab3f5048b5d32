-- `set_join::take_in::join_entry` meets its contract.
use Prim.Native.Nat.{◌+◌, ◌-◌}
use mathlib.Core.Path.{◌≡◌, ◌∙◌}
use native.Mathlib.Omega.{arith}
use Rattle.gtid_sets.proofs.KeyLaws.{good-key}
use Rattle.set_join.proofs.FoldLaws.{joining-room, joining-next, joining-turn}
use Rattle.set_join.proofs.take_in.join_entry.Goals as goal

pub join_interval-set-requires-clause-end_value : goal.join_interval-set-requires-clause-end_value
join_interval-set-requires-clause-end_value c =
    joining-next _ _ _ _ _ _ _ c.loop.invariant.joining (omega arith) _ _ c.number_at.ensures c.number_at-in-loop.ensures

pub join_interval-set-requires-clause-room : goal.join_interval-set-requires-clause-room
join_interval-set-requires-clause-room c =
    let l = c.loop in
    let is = l.invariant in
    joining-room _ _ _ _ _ _ _ is.joining (omega arith) l.spare (omega (arith, is.kept, is.spare_kept, c.requires.room.alike))
    (omega (arith, is.kept, c.requires.room.small))

pub loop-preserved : goal.loop-preserved
loop-preserved c =
    let a = c.args in
    let e = c.requires.entry_is in
    let l = c.loop in
    let call = c.join_interval-set in
    let less : a.entry.intervals - (l.counter + 1) ≡ a.entry.intervals - l.counter - 1 = omega arith in
    record {
      kept = call.auto.held ∙ l.invariant.kept;
      spare_kept = call.auto.spare ∙ l.invariant.spare_kept;
      joining = rw less (joining-turn _ _ _ _ _ _ _ l.invariant.joining (omega arith) _ _ c.number_at.ensures c.number_at-in-loop.ensures
          (good-key a.entry.uuid _ e.uuid e.rule) _ _ call.auto.held call.ensures.held_is_2 call.ensures.result_after);
    }
