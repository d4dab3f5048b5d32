-- `previous_gtids_event::rewrite::put_head` meets its contract.
use native.Mathlib.Omega.{arith}
use Rattle.misc.proofs.PutLaws.{◌and◌, puts-fit, puts-there, puts-short}
use Rattle.previous_gtids_event.proofs.Writing.{length-head}
use Rattle.previous_gtids_event.proofs.rewrite.put_head.Goals as goal

pub returns-then-left_behind_tag-lt8 : goal.returns-then-left_behind_tag-lt8
returns-then-left_behind_tag-lt8 c = let a = c.args in
    let size = length-head a.uuid.now a.tags a.tag.now a.count in
    puts-short _ _ (omega (arith, size, c.if-left_behind_tag-lt8.true, c.left_behind_tag.ensures, c.left.ensures))

pub returns : goal.returns
returns c = let a = c.args in
    let size = length-head a.uuid.now a.tags a.tag.now a.count in
    puts-there (omega (arith, size, c.if-left_behind_tag-lt8.false, c.left_behind_tag.ensures, c.left.ensures))
    (puts-fit c.bytes.ensures and puts-fit c.put_tag.ensures and puts-fit c.u64_le.ensures)
