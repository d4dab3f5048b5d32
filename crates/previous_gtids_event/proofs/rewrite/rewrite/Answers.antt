-- `previous_gtids_event::rewrite::rewrite` meets its contract.
use native.Mathlib.Omega.{arith}
use mathlib.Core.Path.{◌≡◌, ◌∙◌}
use borrow.Author.Rules.{rules}
use Rattle.misc.proofs.Clauses.{both}
use Rattle.misc.proofs.PutLaws.{◌and◌, puts-fit}
use Rattle.misc.proofs.ParseLaws.{handed-on, answered-err}
use Rattle.previous_gtids_event.specs.Inside.{sizes_told}
use Rattle.previous_gtids_event.proofs.Reading.{headless, headed}
use Rattle.previous_gtids_event.proofs.Rewriting.{rewrite-refused, was-whole, rewrite-short, rewrite-whole}
use Rattle.previous_gtids_event.proofs.rewrite.rewrite.Goals as goal

pub returns-in_err-header : goal.returns-in_err-header
returns-in_err-header c = both (rewrite-refused _ _ (headless _ c.in_err-header.ensures) (handed-on _ c.from_residual.ensures))

pub sizes_of-requires : goal.sizes_of-requires
sizes_of-requires c = let (_, some, small) = headed _ c.in_ok-header.ensures in (some, small)

pub returns-in_err-sizes : goal.returns-in_err-sizes
returns-in_err-sizes c = let e = (headed _ c.in_ok-header.ensures).0 ∙ answered-err sizes_told _ c.in_err-sizes.ensures.value in
    both (rewrite-refused _ _ e (handed-on _ c.from_residual-in_err-sizes.ensures))

pub returns-then-out-len : goal.returns-then-out-len
returns-then-out-len c = both (rw (headed _ c.in_ok-header.ensures).0
    (rewrite-short _ _ _ c.in_ok-sizes.ensures.value _ _ c.body_len-len.ensures c.if-out-len.true))

pub put_entries-requires : goal.put_entries-requires
put_entries-requires c = was-whole _ _ _ c.in_ok-sizes.ensures.value c.args.out.now

pub returns : goal.returns
returns c = let whole = rewrite-whole _ _ _ c.in_ok-sizes.ensures.value _ _ c.body_len-len.ensures (omega arith)
    (record { placed = (puts-fit c.put_header.ensures and c.put_entries.ensures).placed }) in
    let left : _ ≡ c.put_entries.new.put.out.now = search (rules, c.put_header.ensures.same, c.put_entries.ensures.same) in
    both (rw (headed _ c.in_ok-header.ensures).0 (whole.0, left ∙ whole.1))
