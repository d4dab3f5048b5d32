-- `listing::set_text::list_set` meets its contract.
use Rattle.std.proofs.Common.{rules}
use mathlib.Core.Path.{◌≡◌, refl, ◌∙◌}
use native.Mathlib.Omega.{arith}
use Rattle.gtid_sets.specs.Lent.{lent_set}
use Rattle.misc.proofs.Clauses.{both}
use Rattle.misc.proofs.ParseLaws.{handed-on}
use Rattle.listing.proofs.SetTextLaws.{list-refused, all-ahead, list-short, list-fits}
use Rattle.listing.proofs.set_text.list_set.Goals as goal

pub returns-in_err-checked : goal.returns-in_err-checked
returns-in_err-checked c =
    both (rw (handed-on _ c.from_residual.ensures) (list-refused c.args.word.now c.args.out.now (lent_set c.args.set.now) _ c.in_err-checked.ensures))

pub entries_len-requires : goal.entries_len-requires
entries_len-requires c = let a = c.args in
    (all-ahead a.word.now a.set.now a.out.now _ c.in_ok-checked.ensures _ c.entries_of-from.ensures).0

pub overflow_add-len : goal.overflow_add-len
overflow_add-len c = let a = c.args in
    let (is, same) = all-ahead a.word.now a.set.now a.out.now _ c.in_ok-checked.ensures _ c.entries_of-from.ensures in
    record { fits = omega (arith, is.small, c.entries_len.ensures.1) }

pub returns-then-out-len : goal.returns-then-out-len
returns-then-out-len c = both (let a = c.args in
    list-short a.word.now a.set.now a.out.now _ c.in_ok-checked.ensures _ c.entries_of-from.ensures _ _ _
    c.decimal_len.ensures.0 c.decimal_len-2.ensures.0 c.entries_len.ensures.0 (omega arith))

pub put_entries-requires : goal.put_entries-requires
put_entries-requires c = let a = c.args in
    (all-ahead a.word.now a.set.now a.out.now _ c.in_ok-checked.ensures _ c.entries_of-from.ensures).0

pub returns : goal.returns
returns c = let a = c.args in
    let whole = list-fits a.word.now a.set.now a.out.now _ c.in_ok-checked.ensures _ c.entries_of-from.ensures _ _ _
    c.decimal_len.ensures.0 c.decimal_len-2.ensures.0 c.entries_len.ensures.0 (omega arith)
    refl refl c.put_head.ensures c.put_entries.ensures in
    let left : _ ≡ c.put_entries.new.put.out.now = search (rules, c.put_head.ensures.same, c.put_entries.ensures.same) in
    both (whole.0, left ∙ whole.1)
