-- `set_join::put::put_wider` meets its contract.
use Prim.Native.Nat.{◌+◌, ◌-◌}
use native.Mathlib.Omega.{arith}
use Rattle.misc.proofs.PutLaws.{◌and◌, puts-fit}
use Rattle.set_join.proofs.PutLaws.{put-part}
use Rattle.set_join.proofs.put.put_wider.Goals as goal

pub returns : goal.returns
returns c =
    let a = c.args in
    put-part a.set.now a.from 16 (a.from + 16 - a.from) (omega arith) (puts-fit c.bytes.ensures) and puts-fit c.varlen_uint.ensures and puts-fit c.bytes-2.ensures
