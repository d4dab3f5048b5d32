-- `set_join::join_id::join_checked` meets its contract.
use mathlib.Core.List.{◌++◌}
use mathlib.Core.Path.{sym, ◌∙◌}
use native.Mathlib.Omega.{arith}
use Rattle.packets.proofs.GnoLaws.{gno_top-is, gno-says}
use Rattle.set_check.specs.SetOf.{set_of}
use Rattle.set_check.proofs.SetOfLaws.{fits-fair}
use Rattle.set_join.proofs.AnswerLaws.{id-unlawful}
use Rattle.misc.proofs.Clauses.{both}
use Rattle.set_join.proofs.join_id.join_checked.Goals as goal

pub returns-then-not-is_gno : goal.returns-then-not-is_gno
returns-then-not-is_gno c =
    let a = c.args in
    let (answer, left) = id-unlawful (set_of a.set.now) (a.key.uuid.now ++ a.key.tag.now) a.gno a.out.now (sym c.is_gno.ensures ∙ c.if-not-is_gno.true) in
    both (c.refused.ensures ∙ answer, left)

pub overflow_add-span : goal.overflow_add-span
overflow_add-span c =
    let g = gno-says c.args.gno (sym c.is_gno.ensures ∙ c.if-not-is_gno.false) in
    record { fits = omega (arith, gno_top-is) }

pub write_joined-requires : goal.write_joined-requires
write_joined-requires c = (c.plan_join-plan.ensures, fits-fair _ _ c.requires.fits, c.requires.uuid_len.0)
