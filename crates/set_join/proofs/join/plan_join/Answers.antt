-- `set_join::join::plan_join` meets its contract.
use Prim.Native.Nat.{◌*◌, ◌^◌, ◌≤◌}
use mathlib.Core.Path.{refl, sym}
use native.Mathlib.Omega.{arith}
use Rattle.set_join.proofs.JoinLaws.{Small, set-small, taken-inside, plan-is}
use Rattle.set_join.proofs.join.plan_join.Goals as goal

pub overflow_sub-held : goal.overflow_sub-held
overflow_sub-held c = taken-inside _ _ _ _ _ c.find-found.ensures _ _ _ c.splice_in-splice.ensures

pub overflow_add-len-5 : goal.overflow_add-len-5
overflow_add-len-5 c =
    let small : Small c.args.set.now c.args.is.entries = set-small c.args.set.now c.args.is.tagged c.args.is.entries c.requires.set.0 in
    let f = c.find-found.ensures in
    let few : 16 * c.find-found.result.own.count ≤ 2 ^ 40 = omega (arith, f.end, f.inside, small.long) in
    record {
      fits = omega (arith, c.requires.uuid_len.1, c.gained.ensures.1, c.gained-2.ensures.1, few, f.order, f.end, f.inside, small);
    }

pub overflow_add-result : goal.overflow_add-result
overflow_add-result c =
    let small : Small c.args.set.now c.args.is.entries = set-small c.args.set.now c.args.is.tagged c.args.is.entries c.requires.set.0 in
    record { fits = omega (arith, c.gained-3.ensures.1, small) }

pub overflow_sub-result : goal.overflow_sub-result
overflow_sub-result c =
    let taken = taken-inside _ _ _ _ _ c.find-found.ensures _ _ _ c.splice_in-splice.ensures in
    omega (arith, c.find-found.ensures.total (λ n. n) refl, c.requires.set.1, taken)

pub overflow_add-result-2 : goal.overflow_add-result-2
overflow_add-result-2 c =
    let small : Small c.args.set.now c.args.is.entries = set-small c.args.set.now c.args.is.tagged c.args.is.entries c.requires.set.0 in
    record { fits = omega (arith, small, c.requires.set.1) }

pub returns : goal.returns
returns c =
    let a = c.args in
    plan-is a.set.now a.is.tagged a.is.entries c.requires.set.0 a.key.uuid.now a.key.tag.now c.requires.uuid_len.0 c.requires.uuid_len.1 a.span.start a.span.end
    c.find-found.result c.find-found.ensures c.splice_in-splice.result c.splice_in-splice.ensures c.requires.start_lt_end
    (λ i. (c.type_inv.set i).fits) _ _ a.is.intervals (omega (arith, c.gained.ensures.0, c.gained-2.ensures.0)) (omega (arith, c.gained-3.ensures.0)) (sym c.requires.set.1)
