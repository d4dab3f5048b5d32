-- `abi::flat::put_rest` meets its contract.
use Rattle.misc.proofs.PutLaws.{◌and◌, puts-fit}
use Rattle.abi.specs.Flat.{flat_rest}
use Rattle.abi.proofs.flat.put_rest.Goals as goal

pub returns : goal.returns
unfolding flat_rest
returns c = puts-fit c.u64_le.ensures and puts-fit c.u32_le.ensures and puts-fit c.u32_le-2.ensures and puts-fit c.u64_le-2.ensures
