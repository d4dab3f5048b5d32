-- `set_join::put::put_spliced` meets its contract.
use Prim.Native.Nat.{◌+◌, ◌*◌}
use Rattle.misc.proofs.PutLaws.{◌and◌, puts-fit}
use Rattle.set_join.proofs.PutLaws.{put_rest}
use Rattle.set_join.proofs.put.put_spliced.Goals as goal

pub returns : goal.returns
returns c =
    let a = c.args in
    puts-fit c.bytes.ensures and puts-fit c.u64_le.ensures and puts-fit c.u64_le-2.ensures
    and put_rest a.intervals.now (16 * (a.splice.before + a.splice.taken)) (puts-fit c.bytes-2.ensures)
