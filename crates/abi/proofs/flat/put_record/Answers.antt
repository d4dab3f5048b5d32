-- `abi::flat::put_record` meets its contract.
use Rattle.misc.proofs.PutLaws.{◌and◌}
use Rattle.abi.specs.Flat.{flat}
use Rattle.abi.proofs.flat.put_record.Goals as goal

pub returns : goal.returns
unfolding flat
returns c = c.put_identity.ensures and c.put_clock.ensures and c.put_rest.ensures
