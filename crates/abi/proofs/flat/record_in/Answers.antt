-- `abi::flat::record_in` meets its contract.
use Rattle.abi.proofs.FlatLaws.{record_is}
use Rattle.abi.proofs.flat.record_in.Goals as goal

pub returns : goal.returns
returns c = record_is c.args.s.now _ _ _ _ _ _ _ _ _ _ _ _ c.requires
    c.uuid_bytes.ensures c.number_at.ensures c.tag_bytes.ensures c.typecode_if.ensures
    c.number_at-2.ensures c.number_at-3.ensures
    c.number_at-4.ensures c.number_at-5.ensures
    c.number_at-6.ensures
    c.four_at.ensures c.four_at-2.ensures c.number_at-7.ensures
