-- `set_join::take_in::join_interval` meets its contract.
use mathlib.Core.Path.{sym}
use native.Mathlib.Omega.{arith}
use lib.ListN.{take}
use lib.Seq.{length-take-le}
use Rattle.gtid_sets.proofs.LimitLaws.{crowds-most}
use Rattle.set_join.specs.TakeIn.{held_set}
use Rattle.set_join.proofs.JoinLaws.{set-small}
use Rattle.set_join.proofs.FoldLaws.{plan-fits, interval-joined}
use Rattle.set_join.proofs.take_in.join_interval.Goals as goal

as_held_is_2_result_after : {A B : Type 0} → A × B → record { held_is_2 : A; result_after : B }
as_held_is_2_result_after p = record { held_is_2 = p.0; result_after = p.1 }

pub slice_bounds-write_bytes-end : goal.slice_bounds-write_bytes-end
slice_bounds-write_bytes-end c =
    let fits = plan-fits _ _ _ _ _ _ _ c.requires.held_is c.requires.uuid_len.0 c.requires.uuid_len.2 c.requires.room _ c.plan_join-plan.ensures in
    omega (arith, fits, c.put_joined.auto.out, c.requires.room.alike)

pub slice_bounds-write_bytes-end-2 : goal.slice_bounds-write_bytes-end-2
slice_bounds-write_bytes-end-2 c =
    let fits = plan-fits _ _ _ _ _ _ _ c.requires.held_is c.requires.uuid_len.0 c.requires.uuid_len.2 c.requires.room _ c.plan_join-plan.ensures in
    sym (length-take-le _ _ (omega (arith, fits, c.put_joined.auto.out, c.requires.room.alike)))

pub overflow_add-result : goal.overflow_add-result
overflow_add-result c =
    let a = c.args in
    let h = c.requires.held_is in
    let small = set-small (take a.is.len a.held.now) a.is.tagged a.is.entries h.set in
    record { fits = omega (arith, c.over-2.ensures.1, h.counted.crowd, crowds-most (held_set a.held.now a.is), h.set.count, small) }

pub returns : goal.returns
returns c =
    as_held_is_2_result_after
    (interval-joined _ _ _ _ _ _ _ c.requires.held_is c.requires.uuid_len.0
    c.requires.uuid_len.2 c.requires.room c.plan_join-plan.result c.plan_join-plan.ensures c.requires.end_value _ _ c.put_joined.ensures _
    c.write_bytes.ensures.out_after _ _ c.over.ensures.0 c.over-2.ensures.0)
