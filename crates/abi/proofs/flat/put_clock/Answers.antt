-- `abi::flat::put_clock` meets its contract.
use Rattle.misc.proofs.PutLaws.{◌and◌, puts-fit}
use Rattle.abi.specs.Flat.{flat_clock}
use Rattle.abi.proofs.flat.put_clock.Goals as goal

pub returns : goal.returns
unfolding flat_clock
returns c = puts-fit c.byte.ensures and puts-fit c.byte-2.ensures and puts-fit c.u64_le.ensures and puts-fit c.u64_le-2.ensures and puts-fit c.u64_le-3.ensures
    and puts-fit c.u64_le-4.ensures
