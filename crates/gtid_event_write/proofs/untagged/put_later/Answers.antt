-- `gtid_event_write::untagged::put_later` meets its contract.
use mathlib.Core.Logic.{inl, inr}
use mathlib.Core.Path.{refl}
use Rattle.gtid_event.proofs.FitsLaws.{fits}
use Rattle.misc.proofs.PutLaws.{◌and◌, puts-fit}
use Rattle.gtid_event_write.specs.Layout.{later_bytes}
use Rattle.gtid_event_write.proofs.WritableLaws.{untagged-fits}
use Rattle.gtid_event_write.proofs.untagged.put_later.Goals as goal

pub put_pair-requires : goal.put_pair-requires
put_pair-requires c =
    let e = untagged-fits c.args.event c.requires in
    (inl refl, e.time, e.original)

pub put_pair-requires-2 : goal.put_pair-requires-2
put_pair-requires-2 c =
    let e = untagged-fits c.args.event c.requires in
    (inr refl, e.version, (fits c.args.event _ c.well_formed.1.0).original_version_fits)

pub returns : goal.returns
unfolding later_bytes
returns c = puts-fit c.byte.ensures and puts-fit c.u64_le.ensures and puts-fit c.u64_le-2.ensures and c.put_pair.ensures
    and puts-fit c.lenenc_int.ensures and c.put_pair-2.ensures
