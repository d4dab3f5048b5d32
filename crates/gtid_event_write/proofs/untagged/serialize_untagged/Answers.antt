-- `gtid_event_write::untagged::serialize_untagged` meets its contract.
use mathlib.Core.Path.{◌∙◌}
use borrow.Author.Rules.{rules}
use native.Mathlib.Omega.{arith}
use Rattle.misc.proofs.OutputLaws.{output-short}
use Rattle.misc.proofs.PutLaws.{◌and◌}
use Rattle.gtid_event_write.proofs.LayoutLaws.{short-is, long-is}
use Rattle.gtid_event_write.proofs.PutLaws.{with-bytes, wrote}
use Rattle.misc.proofs.Clauses.{both}
use Rattle.gtid_event_write.proofs.untagged.serialize_untagged.Goals as goal

pub returns-then-out-needed : goal.returns-then-out-needed
returns-then-out-needed c = both (output-short _ _ _ c.len_untagged-needed.ensures c.if-out-needed.true)

pub returns-then-event-eq0 : goal.returns-then-event-eq0
returns-then-event-eq0 c =
    let opening = c.put_opening.ensures in
    let (told, left) = wrote (omega (arith, c.len_untagged-needed.ensures)) (with-bytes (short-is c.args.event c.if-event-eq0.true) opening) in
    both (told, search (rules, opening.same) ∙ left)

pub returns : goal.returns
returns c =
    let opening = c.put_opening.ensures in
    let later = c.put_later.ensures in
    let (told, left) = wrote (omega (arith, c.len_untagged-needed.ensures)) (with-bytes (long-is c.args.event c.if-event-eq0.false) (opening and later)) in
    both (told, search (rules, opening.same, later.same) ∙ left)
