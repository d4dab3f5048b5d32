-- `abi::flat_binlog::put_step` meets its contract.
use Rattle.abi.proofs.FlatBinlogLaws.{step-put}
use Rattle.abi.proofs.flat_binlog.put_step.Goals as goal

pub returns : goal.returns
returns c = step-put c.args.step c.phase_numbers-here.result c.said_numbers-said.result c.phase_numbers-here.ensures c.said_numbers-said.ensures
    c.bytes.ensures c.u64_le.ensures c.u64_le-2.ensures c.u64_le-3.ensures c.u64_le-4.ensures c.u64_le-5.ensures
