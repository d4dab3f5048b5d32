use mathlib.Core.Path.{◌≡◌}
use borrow.Author.Rules.{rules}
use Rattle.misc.proofs.ParseLaws.{handed-on}
use Rattle.misc.proofs.Clauses.{both}
use Rattle.misc.proofs.PutLaws.{puts-fit}
use Rattle.two_sets.proofs.AnswerLaws.{combining-good, entries_below, over-limits, no_room, all-written}
use Rattle.two_sets.proofs.write.write_combined.Goals as goal

pub returns-in_err-judge : goal.returns-in_err-judge
returns-in_err-judge g c =
    let good = combining-good g.O.Operation.op c.args.first.now c.args.second.now c.args.from c.requires.0 in
    rw (handed-on _ c.from_residual.ensures)
    (both (over-limits _ good _ c.put_combined-made.ensures.made_is c.args.out.now c.in_err-judge.ensures))

pub len-len-requires : goal.len-len-requires
len-len-requires g c =
    let good = combining-good g.O.Operation.op c.args.first.now c.args.second.now c.args.from c.requires.0 in
    entries_below _ good _ c.put_combined-made.ensures.made_is

pub returns-then-out-len : goal.returns-then-out-len
returns-then-out-len g c =
    let good = combining-good g.O.Operation.op c.args.first.now c.args.second.now c.args.from c.requires.0 in
    both (no_room _ good _ c.put_combined-made.ensures.made_is c.args.out.now c.in_ok-judge.ensures _ c.len-len.ensures c.if-out-len.true)

pub returns : goal.returns
returns g c =
    let good = combining-good g.O.Operation.op c.args.first.now c.args.second.now c.args.from c.requires.0 in
    let left : c.out-1.given.0 ≡ c.put_header.new.put.out.now = search (rules, c.put_header.ensures.same) in
    both (all-written _ good _ c.put_combined-made.ensures.made_is c.args.out.now c.in_ok-judge.ensures _ c.len-len.ensures c.if-out-len.false
    (record { placed = (puts-fit c.put_header.ensures).placed }) (rw left at c.put_combined.ensures.where_fits))
