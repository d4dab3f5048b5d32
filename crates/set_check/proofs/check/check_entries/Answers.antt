-- `set_check::check::check_entries` meets its contract.
use Prim.Native.Nat.{◌+◌, ◌<◌, ◌≤◌}
use mathlib.Core.Path.{◌≡◌, refl}
use native.Mathlib.Omega.{arith}
use lib.ListN.{length}
use Rattle.std.specs.Cmp.{booleans_Decides}
use Rattle.std.proofs.lemmas.Bool.{not-true, not-false}
use Rattle.packets.proofs.Tests.{clash}
use Rattle.gtid_sets.proofs.LimitLaws.{max_intervals-is}
use Rattle.set_check.specs.Check.{low_key, EntryIs}
use Rattle.set_check.proofs.CheckLaws.{walked_none, walked-not, walked_next, walked-short, walked_many, walked-untagged, walked_whole}
use Rattle.set_check.proofs.RestLaws.{head-lies}
use Rattle.set_check.proofs.EntryPlaces.{Lies}
use Rattle.set_check.proofs.check.check_entries.Goals as goal
use Rattle.set_check.proofs.check.check_entries.Goals.{
  then-rest-set-via-then-rest-set,
  then-rest-set-via-else-rest-set+then-used-gt-MAX_INTERVALS,
  then-rest-set-via-else-rest-set+else-used-gt-MAX_INTERVALS+then-rest-any,
}

pub loop-init : goal.loop-init
loop-init c = record {
  counts = omega arith;
  inside = c.requires;
  small = omega arith;
  low = tt;
  walked = walked_none c.args.set.now c.args.from;
}

pub returns-in_err-entry : goal.returns-in_err-entry
returns-in_err-entry c =
    let l = c.loop in
    let a = c.args in
    rw c.from_residual.ensures
    (walked-not a.set.now a.from l.rest _ l.used l.any l.invariant.walked (omega (arith, l.invariant.counts)) c.in_err-entry.ensures)

pub loop-preserved : goal.loop-preserved
loop-preserved c =
    let l = c.loop in
    let a = c.args in
    let entry : EntryIs a.set.now l.rest (low_key a.set.now l.low) c.in_ok-entry.entry = c.in_ok-entry.ensures in
    let h = entry.head in
    let parts : Lies l.rest.at c.in_ok-entry.entry = head-lies _ _ _ h in
    let some : 0 < l.rest.left = omega (arith, l.invariant.counts) in
    let there : l.rest.at + 16 ≤ length a.set.now = omega (arith, parts.tag-after, parts.first-is, parts.next-is, h.inside) in
    rw (c.of.ensures, c.beyond-rest.ensures) (record {
      counts = omega (arith, l.invariant.counts);
      inside = h.inside;
      small = omega (arith, parts.tag-after, parts.first-is, parts.next-is);
      low = record { uuid = there; tag = omega (arith, parts.first-is, parts.next-is, h.inside) };
      walked = walked_next a.set.now a.from l.rest _ l.used l.any l.invariant.walked some (λ i. (c.type_inv.set i).fits) _ entry _ refl;
    })

pub returns-then-rest-set : goal.returns-then-rest-set
returns-then-rest-set c =
    let l = c.loop in
    let a = c.args in
    let walked = l.invariant.walked in
    let none : l.rest.left ≡ 0 = omega (arith, l.invariant.counts) in
    elim c.then-rest-set.branch [
      | then-rest-set-via-then-rest-set w ↦ walked-short a.set.now a.from l.rest _ l.used l.any walked none l.invariant.inside w.if-rest-set.true
      | then-rest-set-via-else-rest-set+then-used-gt-MAX_INTERVALS w ↦
          walked_many a.set.now a.from l.rest _ l.used l.any walked none (omega (arith, max_intervals-is))
      | then-rest-set-via-else-rest-set+else-used-gt-MAX_INTERVALS+then-rest-any w ↦
          walked-untagged a.set.now a.from l.rest _ l.used l.any walked none
          (λ same. clash ((booleans_Decides l.rest.tagged l.any).1 same) (not-true _ w.if-rest-any.true))
    ]

pub returns : goal.returns
returns c =
    let l = c.loop in
    let a = c.args in
    let none : l.rest.left ≡ 0 = omega (arith, l.invariant.counts) in
    walked_whole a.set.now a.from l.rest _ l.used l.any l.invariant.walked none c.if-rest-set.false (omega (arith, max_intervals-is))
    ((booleans_Decides l.rest.tagged l.any).0 (not-false _ c.if-rest-any.false))
