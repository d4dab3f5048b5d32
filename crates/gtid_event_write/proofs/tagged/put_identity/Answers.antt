-- `gtid_event_write::tagged::put_identity` meets its contract.
use native.Mathlib.Omega.{arith}
use Rattle.misc.proofs.PutLaws.{◌and◌}
use Rattle.gtid_event_write.specs.Layout.{identity_bytes}
use Rattle.gtid_event_write.proofs.WritableLaws.{tagged-fits}
use Rattle.gtid_event_write.proofs.tagged.put_identity.Goals as goal

pub overflow_mul-event : goal.overflow_mul-event
overflow_mul-event c = omega (arith, (tagged-fits c.args.event c.requires).gno)

pub put_tag-requires : goal.put_tag-requires
put_tag-requires c = (tagged-fits c.args.event c.requires).tag

pub returns : goal.returns
unfolding identity_bytes
returns c = (c.put_id.ensures and c.put_item.ensures) and (c.put_id-2.ensures and c.put_serialized_uuid.ensures) and c.put_number.ensures
    and c.put_tag.ensures
