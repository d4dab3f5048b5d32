-- `gtid_event_write::untagged::put_pair` meets its contract.
use Prim.Native.Nat.{◌-◌, ◌*◌, ◌^◌}
use Rattle.gtid_event_write.proofs.PutLaws.{marked, pair-placed}
use Rattle.gtid_event_write.proofs.untagged.put_pair.Goals as goal

pub put_wide-requires-2 : goal.put_wide-requires-2
put_wide-requires-2 g c =
    let m = marked g.row.WIDTH c.args.immediate c.requires.0 c.requires.1 in
    (c.requires.0, rw m.0 m.1)

pub returns : goal.returns
returns g c =
    pair-placed g.row.WIDTH (2 ^ (8 * g.row.WIDTH - 1)) c.args.immediate c.args.original (marked g.row.WIDTH c.args.immediate c.requires.0 c.requires.1).0
    c.if-immediate-original.false c.put_wide-2.ensures c.put_wide-3.ensures
