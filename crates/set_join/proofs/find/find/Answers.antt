-- `set_join::find::find` meets its contract.
use Prim.Native.Nat.{◌<◌}
use mathlib.Core.Path.{refl}
use native.Mathlib.Nat.{add-sub_cancel_left}
use native.Mathlib.Omega.{arith}
use Rattle.set_check.proofs.CursorLaws.{Ahead, ahead}
use Rattle.set_join.proofs.FindLaws.{passed_none, all-counted, passed-all, passed-next, found_here, found-absent}
use Rattle.set_join.proofs.find.find.Goals as goal

pub loop-done-init : goal.loop-done-init
loop-done-init c = passed_none _ _ _ c.requires.set.0 c.requires.set.1

pub returns-in-Equal : goal.returns-in-Equal
returns-in-Equal c =
    let l = c.loop-done in
    let some : 0 < l.rest.left = omega (arith, all-counted _ _ _ _ _ _ l.invariant) in
    let next : Ahead c.args.set.now l.rest c.entry_here-place.result = ahead _ _ _ l.invariant.left some c.entry_here-place.ensures in
    let told = simp add-sub_cancel_left at c.parts_order-order.ensures in
    rw c.found_at.ensures (found_here _ _ _ _ _ _ l.invariant _ next _ _ refl c.requires.uuid_len _ told c.in-Equal.is)

pub returns-in-Greater : goal.returns-in-Greater
returns-in-Greater c =
    let l = c.loop-done in
    let some : 0 < l.rest.left = omega (arith, all-counted _ _ _ _ _ _ l.invariant) in
    let next : Ahead c.args.set.now l.rest c.entry_here-place.result = ahead _ _ _ l.invariant.left some c.entry_here-place.ensures in
    let told = simp add-sub_cancel_left at c.parts_order-order.ensures in
    rw c.absent.ensures (found-absent _ _ _ _ _ _ l.invariant _ next _ _ refl c.requires.uuid_len _ told c.in-Greater.is)

pub loop-done-preserved : goal.loop-done-preserved
loop-done-preserved c =
    let l = c.loop-done in
    let some : 0 < l.rest.left = omega (arith, all-counted _ _ _ _ _ _ l.invariant) in
    let next : Ahead c.args.set.now l.rest c.entry_here-place.result = ahead _ _ _ l.invariant.left some c.entry_here-place.ensures in
    let told = simp add-sub_cancel_left at c.parts_order-order.ensures in
    rw c.beyond-rest.ensures (passed-next _ _ _ _ _ _ l.invariant _ next _ _ refl c.requires.uuid_len _ told c.in-Less.is)

pub returns : goal.returns
returns c = rw c.absent-2.ensures (passed-all _ _ _ _ _ _ c.loop-done.invariant (omega arith))
