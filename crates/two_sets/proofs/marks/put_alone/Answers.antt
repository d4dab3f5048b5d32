-- `two_sets::marks::put_alone` meets its contract.
use native.Mathlib.Nat.{add-sub_cancel_left}
use Rattle.misc.proofs.OutputLaws.{put-placed}
use Rattle.two_sets.proofs.MarkLaws.{none_kept, all-kept}
use Rattle.two_sets.proofs.marks.put_alone.Goals as goal

pub returns-then-not-kept : goal.returns-then-not-kept
returns-then-not-kept c = none_kept c.args.set.now c.args.side c.requires c.args.out.now c.args.at c.args.kept c.if-not-kept.true

pub returns : goal.returns
returns c =
    let r = rw add-sub_cancel_left at c.put_bytes.ensures.value in
    let o = rw add-sub_cancel_left at c.put_bytes.ensures.out_after in
    all-kept c.args.set.now c.args.side c.requires c.args.out.now c.args.at c.args.kept c.if-not-kept.false
    (λ i. (c.type_inv.set i).fits) _ _ (put-placed (r, o)) o
