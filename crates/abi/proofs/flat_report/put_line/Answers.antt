-- `abi::flat_report::put_line` meets its contract.
use Rattle.misc.proofs.PutLaws.{◌and◌, puts-fit}
use Rattle.abi.specs.FlatReport.{flat_line}
use Rattle.abi.proofs.flat_report.put_line.Goals as goal

pub returns : goal.returns
unfolding flat_line
returns c = puts-fit c.byte.ensures and puts-fit c.u32_le.ensures and puts-fit c.u32_le-2.ensures and puts-fit c.u32_le-3.ensures and puts-fit c.u64_le.ensures
