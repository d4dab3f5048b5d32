-- `set_check::KeyPlace::is_above` meets its contract.
use native.Mathlib.Nat.{add-sub_cancel_left}
use Rattle.set_check.proofs.RestLaws.{low-told, told-above}
use Rattle.set_check.proofs.KeyPlace.is_above.Goals as goal

pub returns : goal.returns
returns c =
    let told = low-told _ _ _ _ c.in-Some.is c.requires.low_key c.requires.key (simp add-sub_cancel_left at c.parts_order.ensures) in
    told-above _ _ _ told c.is_lt.ensures
