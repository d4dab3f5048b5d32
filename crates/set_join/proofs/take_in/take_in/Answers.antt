-- `set_join::take_in::take_in` meets its contract.
use mathlib.Core.Path.{sym, ap, ◌∙◌}
use native.Mathlib.Omega.{arith}
use lib.ListN.{take}
use lib.Seq.{length-take-le}
use Rattle.misc.proofs.ParseLaws.{handed-on}
use Rattle.set_check.proofs.SetOfLaws.{check-passed}
use Rattle.set_join.proofs.TakenLaws.{taken_refused, can-be-read, taken-merged, used-inside, taken-copied, taken-unlawful}
use Rattle.misc.specs.Output.{output_of, answer_of}
use Rattle.set_join.proofs.JoinInLaws.{empty-set, empty-fits, empty-room}
use Rattle.misc.proofs.Clauses.{both}
use Rattle.set_join.proofs.take_in.take_in.Goals as goal

pub returns-in_err-said : goal.returns-in_err-said
returns-in_err-said c =
    let refused = taken_refused c.args.body.now c.args.out.now c.in_err-said.ensures in
    both (handed-on _ c.from_residual.ensures ∙ refused.0, refused.1)

pub slice_bounds-read_bytes-end : goal.slice_bounds-read_bytes-end
slice_bounds-read_bytes-end c = sym (length-take-le _ _ (used-inside c.args.body.now c.args.out.now c.in_ok-said.ensures))

pub returns-then-is_ok : goal.returns-then-is_ok
returns-then-is_ok c =
    let a = c.args in
    let lent = check-passed (take c.in_ok-said.said.used a.body.now) _ c.check.ensures (sym c.if-is_ok.ensures.value) in
    both (taken-copied a.body.now a.out.now c.in_ok-said.ensures _ _ _ lent c.write_bytes.ensures.value c.write_bytes.ensures.out_after)

pub returns-then-not-lawful_body : goal.returns-then-not-lawful_body
returns-then-not-lawful_body c =
    let a = c.args in
    both (taken-unlawful a.body.now a.out.now c.in_ok-said.ensures (sym c.lawful_body.ensures ∙ c.if-not-lawful_body.true))

pub merge-requires-clause-fits : goal.merge-requires-clause-fits
merge-requires-clause-fits c = empty-fits

pub merge-requires-clause-room : goal.merge-requires-clause-room
merge-requires-clause-room c =
    let readable = can-be-read c.args.body.now c.args.out.now c.in_ok-said.ensures in
    (empty-room c.args.body.now readable, omega arith)

pub returns : goal.returns
returns c =
    let a = c.args in
    let rule = sym c.lawful_body.ensures ∙ c.if-not-lawful_body.false in
    let all = taken-merged a.body.now a.out.now c.in_ok-said.ensures rule empty-set in
    both (c.merge.ensures.value ∙ ap (answer_of a.out.now) all, c.merge.ensures.out_after ∙ ap (output_of a.out.now) all)
