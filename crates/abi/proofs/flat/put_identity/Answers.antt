-- `abi::flat::put_identity` meets its contract.
use Rattle.misc.proofs.PutLaws.{◌and◌, puts-fit}
use Rattle.abi.specs.Flat.{flat_identity}
use Rattle.abi.proofs.flat.put_identity.Goals as goal

pub returns : goal.returns
unfolding flat_identity
returns c = puts-fit c.byte.ensures and puts-fit c.bytes.ensures and puts-fit c.u64_le.ensures and puts-fit c.byte-2.ensures and puts-fit c.bytes-2.ensures
