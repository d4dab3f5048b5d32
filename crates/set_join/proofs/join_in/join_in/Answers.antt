-- `set_join::join_in::join_in` meets its contract.
use mathlib.Core.Path.{sym, ◌∙◌}
use native.Mathlib.Omega.{arith}
use Rattle.misc.proofs.ParseLaws.{handed-on}
use Rattle.set_check.proofs.SetOfLaws.{check-told, check-unfit}
use Rattle.set_join.proofs.TakenLaws.{can-be-read}
use Rattle.set_join.proofs.JoinInLaws.{room-any, join-unfit, join-refused, join-unlawful, join-merged}
use Rattle.misc.proofs.Clauses.{both}
use Rattle.set_join.proofs.join_in.join_in.Goals as goal

pub returns-in_err-checked : goal.returns-in_err-checked
returns-in_err-checked c =
    let a = c.args in
    let refused = join-unfit a.set.now a.body.now a.out.now _ (check-unfit a.set.now c.in_err-checked.ensures) in
    both (handed-on _ c.from_residual.ensures ∙ refused.0, refused.1)

pub returns-in_err-read : goal.returns-in_err-read
returns-in_err-read c =
    let a = c.args in
    let fits = check-told a.set.now c.in_ok-checked.ensures in
    let refused = join-refused a.set.now _ fits.lent a.body.now a.out.now c.in_err-read.ensures in
    both (handed-on _ c.from_residual-in_err-read.ensures ∙ refused.0, refused.1)

pub returns-then-not-lawful_body : goal.returns-then-not-lawful_body
returns-then-not-lawful_body c =
    let a = c.args in
    let fits = check-told a.set.now c.in_ok-checked.ensures in
    let readable = can-be-read a.body.now a.out.now c.in_ok-read.ensures in
    both (join-unlawful a.set.now _ fits.lent a.body.now a.out.now readable (sym c.lawful_body.ensures ∙ c.if-not-lawful_body.true))

pub merge-requires-clause-fits : goal.merge-requires-clause-fits
merge-requires-clause-fits c = check-told c.args.set.now c.in_ok-checked.ensures

pub merge-requires-clause-room : goal.merge-requires-clause-room
merge-requires-clause-room c =
    let readable = can-be-read c.args.body.now c.args.out.now c.in_ok-read.ensures in
    (room-any _ _ (check-told c.args.set.now c.in_ok-checked.ensures) c.args.body.now readable, omega arith)

pub returns : goal.returns
returns c =
    let a = c.args in
    let fits = check-told a.set.now c.in_ok-checked.ensures in
    let readable = can-be-read a.body.now a.out.now c.in_ok-read.ensures in
    let rule = sym c.lawful_body.ensures ∙ c.if-not-lawful_body.false in
    both (join-merged a.set.now _ fits.lent a.body.now a.out.now readable _ _ rule c.merge.ensures.value c.merge.ensures.out_after)
