-- `gtid_follow::text_of` meets its contract: the text has room.
use Rattle.gtid_follow.proofs.TextLaws.{set-listed}
use Rattle.gtid_follow.proofs.text_of.Goals as goal

pub returns : goal.returns
returns c = rw c.ok.ensures.value
    (set-listed c.args.set.now c.args.text.now _ _ c.requires c.list_set.ensures.value c.list_set.ensures.out_after)
