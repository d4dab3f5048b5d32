-- `misc::put::put_sized` meets its contract.
use native.Mathlib.Omega.{arith}
use mathlib.Core.List.{◌++◌}
use Prim.Native.Nat.{◌+◌, ◌≤◌}
use lib.ListN.{length, length-append}
use Rattle.misc.specs.Varlen.{varlen_bytes}
use Rattle.misc.proofs.OutputLaws.{◌also◌, put-placed, put-there, put-short}
use Rattle.misc.proofs.VarlenLaws.{size-range, length-varlen_bytes}
use Rattle.misc.proofs.Clauses.{both}
use Rattle.misc.proofs.put.put_sized.Goals as goal

pub returns-then-room-size : goal.returns-then-room-size
returns-then-room-size c = both (let a = c.args in
    put-short a.out.now _ a.at
    (rw length-append (omega (arith, c.if-room-size.true, c.left_at-room.ensures, c.varlen_uint_size-size.ensures))))

pub returns-then-room-size-2 : goal.returns-then-room-size-2
returns-then-room-size-2 c = both (let a = c.args in
    put-short a.out.now _ a.at
    (rw length-append (omega (arith, c.if-room-size-2.true, c.left_at-room.ensures, c.varlen_uint_size-size.ensures))))

pub returns : goal.returns
returns c = both (let a = c.args in
    let n = length a.source.now in
    let both = put-placed (c.put_varlen_uint-from.ensures.value, c.put_varlen_uint-from.ensures.out_after)
    also put-placed (c.put_bytes.ensures.value, c.put_bytes.ensures.out_after) in
    let room : a.at + length (varlen_bytes n ++ a.source.now) ≤ length a.out.now =
    rw length-append (omega (
      arith,
      size-range n,
      length-varlen_bytes n,
      c.if-room-size-2.false,
      c.if-room-size.false,
      c.left_at-room.ensures,
      c.varlen_uint_size-size.ensures,
    )) in
    put-there room (both.placed room))
