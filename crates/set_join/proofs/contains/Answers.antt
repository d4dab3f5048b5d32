-- `set_join::contains` meets its contract.
use mathlib.Core.Path.{refl, ◌∙◌}
use Rattle.set_check.proofs.SetOfLaws.{check-told}
use Rattle.set_join.proofs.FindLaws.{own_held}
use Rattle.set_join.proofs.AnswerLaws.{is-asked}
use Rattle.set_join.proofs.contains.Goals as goal

pub find-requires-clause-set : goal.find-requires-clause-set
find-requires-clause-set c = let fits = check-told c.args.set.now c.in_ok-checked.ensures in rw c.entries_of.ensures (fits.set, refl)

pub returns : goal.returns
returns c =
    let a = c.args in
    let fits = check-told a.set.now c.in_ok-checked.ensures in
    is-asked a.set.now a.uuid.now a.tag.now a.gno fits.lent c.held_in.result c.if-uuid-ne-UUID_LEN.false c.if-not-none_or_tag.ensures
    c.if-not-is_gno.ensures (c.held_in.ensures ∙ own_held _ _ _ _ _ c.find.ensures a.gno)
