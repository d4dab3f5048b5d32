-- `misc::put::put_lenenc_int` meets its contract.
use native.Mathlib.Omega.{arith}
use Rattle.misc.specs.Lenenc.{lenenc_bytes}
use Rattle.misc.proofs.OutputLaws.{put-short, lent-ends, lent-put}
use Rattle.misc.proofs.Clauses.{both}
use Rattle.misc.proofs.put.put_lenenc_int.Goals as goal

pub returns-then-out-at : goal.returns-then-out-at
returns-then-out-at c = both (let a = c.args in put-short a.out.now (lenenc_bytes a.value) a.at (omega (arith, c.if-out-at.true)))

pub place_behind-requires : goal.place_behind-requires
place_behind-requires c = let a = c.args in
    lent-ends a.out.now (lenenc_bytes a.value) a.at c.if-out-at.false _ c.write_lenenc_int-wrote.ensures.value (omega arith)

pub returns : goal.returns
returns c = both (let a = c.args in
    lent-put a.out.now (lenenc_bytes a.value) a.at c.if-out-at.false _ c.write_lenenc_int-wrote.ensures.value c.place_behind.ensures
    c.write_lenenc_int-wrote.ensures.out_after)
