-- `misc::put::put_varlen_uint` meets its contract.
use native.Mathlib.Omega.{arith}
use Rattle.misc.specs.Varlen.{varlen_bytes}
use Rattle.misc.proofs.OutputLaws.{put-short, lent-ends, lent-put}
use Rattle.misc.proofs.Clauses.{both}
use Rattle.misc.proofs.put.put_varlen_uint.Goals as goal

pub returns-then-out-at : goal.returns-then-out-at
returns-then-out-at c = both (let a = c.args in put-short a.out.now (varlen_bytes a.value) a.at (omega (arith, c.if-out-at.true)))

pub place_behind-requires : goal.place_behind-requires
place_behind-requires c = let a = c.args in
    lent-ends a.out.now (varlen_bytes a.value) a.at c.if-out-at.false _ c.write_varlen_uint-wrote.ensures.value (omega arith)

pub returns : goal.returns
returns c = both (let a = c.args in
    lent-put a.out.now (varlen_bytes a.value) a.at c.if-out-at.false _ c.write_varlen_uint-wrote.ensures.value c.place_behind.ensures
    c.write_varlen_uint-wrote.ensures.out_after)
