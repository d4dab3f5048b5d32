-- `set_join::join_id::join_id` meets its contract.
use Prim.Native.Nat.{ℕ, min}
use mathlib.Core.Path.{◌≡◌, sym, ap, ◌∙◌}
use native.Mathlib.Omega.{arith}
use lib.ListN.{length, take}
use Rattle.misc.proofs.ParseLaws.{take_min}
use Rattle.set_check.proofs.SetOfLaws.{check-told, check-unfit}
use Rattle.set_join.proofs.AnswerLaws.{id-unfit, id-lent}
use Rattle.misc.proofs.Clauses.{both}
use Rattle.set_join.proofs.join_id.join_id.Goals as goal

pub returns-in-Err : goal.returns-in-Err
returns-in-Err c =
    let a = c.args in
    let (answer, left) = id-unfit a.set.now a.out.now _ a.gno _ (check-unfit a.set.now c.in-Err.ensures) in
    both (c.refused.ensures ∙ answer, left)

pub join_checked-requires-clause-fits : goal.join_checked-requires-clause-fits
join_checked-requires-clause-fits c = check-told c.args.set.now c.in-Ok.ensures

pub returns : goal.returns
returns c =
    let a = c.args in
    let whole : length a.tag ≡ 32 = omega arith in
    let fits = check-told a.set.now c.in-Ok.ensures in
    let shown : c.smaller-shown.result ≡ min a.tag_len (length a.tag) = c.smaller-shown.ensures.0 ∙ ap (min a.tag_len) (sym whole) in
    both
    (id-lent a.set.now a.out.now _ a.uuid a.tag a.tag_len c.smaller-shown.result a.gno _ fits.lent
    (ap (λ (n : ℕ). take n a.tag) shown ∙ take_min a.tag_len a.tag) (c.join_checked.ensures.value, c.join_checked.ensures.out_after))
