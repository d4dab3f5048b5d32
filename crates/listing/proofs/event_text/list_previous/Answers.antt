-- `listing::event_text::list_previous` meets its contract.
use mathlib.Core.Path.{sym, ◌∙◌}
use lib.Seq.{length-take-le}
use borrow.Author.Rules.{rules}
use Rattle.gtid_sets.proofs.LimitLaws.{longest_set-is}
use Rattle.listing.proofs.TakenTextLaws.{taken_refused, taken-set, taken-listed}
use Rattle.listing.proofs.EventTextLaws.{same-output, same_text}
use Rattle.misc.proofs.Clauses.{both}
use Rattle.listing.proofs.event_text.list_previous.Goals as goal

-- the set in the buffer, once it is taken in
pub slice_bounds-set-end : goal.slice_bounds-set-end
slice_bounds-set-end c =
    let t = c.in-Ok.ensures in
    let set = taken-set c.args.body.now _ _ (search rules ∙ sym longest_set-is) t.out_after _ t.value in
    set.inside

pub slice_bounds-list_set-end-in-Ok : goal.slice_bounds-list_set-end-in-Ok
slice_bounds-list_set-end-in-Ok c =
    let t = c.in-Ok.ensures in
    let set = taken-set c.args.body.now _ _ (search rules ∙ sym longest_set-is) t.out_after _ t.value in
    sym (length-take-le _ _ set.inside)

pub returns-in-Ok : goal.returns-in-Ok
returns-in-Ok c =
    let t = c.in-Ok.ensures in
    let set = taken-set c.args.body.now _ _ (search rules ∙ sym longest_set-is) t.out_after _ t.value in
    let text = c.list_set.ensures in
    both (same-output c.args.out.now (taken-listed c.args.body.now _ _ set) (text.value, text.out_after))

pub returns-in-Err : goal.returns-in-Err
returns-in-Err c =
    let t = c.in-Err.ensures in
    let refused = taken_refused c.args.body.now _ _ (search rules ∙ sym longest_set-is) t.out_after _ t.value in
    let text = c.write_refused.ensures in
    both (same_text c.args.out.now refused (rw c.number.ensures at text.value, rw c.number.ensures at text.out_after))
