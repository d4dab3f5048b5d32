-- `gtid_follow::lines::put_id` meets its contract: the line of the listing has room, and begins with its word.
use native.Mathlib.Omega.{arith}
use borrow.Author.Rules.{rules}
use Rattle.misc.proofs.PutLaws.{◌and◌, puts-fit}
use Rattle.gtid_follow.proofs.LineLaws.{line-written, line-there}
use Rattle.gtid_follow.proofs.lines.put_id.Goals as goal

pub unwrap-len-requires : goal.unwrap-len-requires
unwrap-len-requires c = let a = c.args in
    line-written a.event_type a.body.now _ c.list.new.out _ c.requires (λ i. (c.type_inv.body i).fits) (search rules) c.list.ensures.value

pub slice_bounds-bytes-count : goal.slice_bounds-bytes-count
slice_bounds-bytes-count c = let a = c.args in
    (line-there a.event_type a.body.now _ _ _ c.requires (λ i. (c.type_inv.body i).fits) (search rules) c.list.ensures.value
    c.list.ensures.out_after c.unwrap-len.ensures).least

pub slice_bounds-bytes-start : goal.slice_bounds-bytes-start
slice_bounds-bytes-start c = let a = c.args in
    let there = line-there a.event_type a.body.now _ _ _ c.requires (λ i. (c.type_inv.body i).fits) (search rules) c.list.ensures.value
    c.list.ensures.out_after c.unwrap-len.ensures in
    omega (arith, there.least)

pub slice_bounds-bytes-end : goal.slice_bounds-bytes-end
slice_bounds-bytes-end c = let a = c.args in
    let there = line-there a.event_type a.body.now _ _ _ c.requires (λ i. (c.type_inv.body i).fits) (search rules) c.list.ensures.value
    c.list.ensures.out_after c.unwrap-len.ensures in
    omega (arith, there.most)

pub returns : goal.returns
returns c = let a = c.args in
    let there = line-there a.event_type a.body.now _ _ _ c.requires (λ i. (c.type_inv.body i).fits) (search rules) c.list.ensures.value
    c.list.ensures.out_after c.unwrap-len.ensures in
    puts-fit c.bytes.ensures and puts-fit (rw there.is at c.bytes-2.ensures)
