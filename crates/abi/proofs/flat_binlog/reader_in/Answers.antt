-- `abi::flat_binlog::reader_in` meets its contract.
use Rattle.abi.proofs.FlatBinlogLaws.{reader-read}
use Rattle.abi.proofs.flat_binlog.reader_in.Goals as goal

pub returns : goal.returns
returns c = reader-read c.args.s.now _ _ _ _ c.number_at.ensures c.number_at-2.ensures c.phase_from.ensures
    c.number_at-3.ensures
