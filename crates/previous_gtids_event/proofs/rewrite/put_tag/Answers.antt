-- `previous_gtids_event::rewrite::put_tag` meets its contract.
use Rattle.misc.proofs.PutLaws.{puts_none}
use Rattle.previous_gtids_event.proofs.Rewriting.{tag-unwanted}
use Rattle.previous_gtids_event.proofs.rewrite.put_tag.Goals as goal

pub returns-else-tags : goal.returns-else-tags
returns-else-tags c = rw (tag-unwanted c.args.tags c.args.tag.now c.if-tags.false) at puts_none c.args.put.now
