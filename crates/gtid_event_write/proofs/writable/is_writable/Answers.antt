-- `gtid_event_write::writable::is_writable` meets its contract.
use mathlib.Core.Path.{sym, ◌∙◌}
use Rattle.gtid_event_write.proofs.WritableLaws.{judged-tagged, judged-untagged}
use Rattle.gtid_event_write.proofs.writable.is_writable.Goals as goal

pub returns-then-is_tagged : goal.returns-then-is_tagged
returns-then-is_tagged c =
    judged-tagged c.args.event _ _ (sym c.is_tagged.ensures ∙ c.if-is_tagged.true) c.is_writable_tagged.ensures c.is_kept.ensures

pub returns : goal.returns
returns c = judged-untagged c.args.event _ _ (sym c.is_tagged.ensures ∙ c.if-is_tagged.false) c.is_writable_untagged.ensures c.is_kept-2.ensures
