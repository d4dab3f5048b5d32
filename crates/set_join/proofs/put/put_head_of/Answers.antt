-- `set_join::put::put_head_of` meets its contract.
use Rattle.misc.proofs.PutLaws.{puts-fit}
use Rattle.set_join.proofs.PutLaws.{put-copied}
use Rattle.set_join.proofs.put.put_head_of.Goals as goal

pub returns : goal.returns
returns c = put-copied c.args.key.uuid.now _ c.args.tags c.args.key.tag.now c.args.count c.requires c.uuid_bytes-own.ensures (puts-fit c.put_head.ensures)
