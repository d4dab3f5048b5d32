-- `previous_gtids_event::rewrite::put_entry` meets its contract.
use mathlib.Core.Path.{sym, ◌∙◌}
use Rattle.previous_gtids_event.proofs.Reading.{whole-told}
use Rattle.previous_gtids_event.proofs.Rewriting.{entry-put}
use Rattle.previous_gtids_event.proofs.rewrite.put_entry.Goals as goal

pub returns-clause-where_fits : goal.returns-clause-where_fits
returns-clause-where_fits c = let told = whole-told c.args.tagged c.args.body.now c.args.from c.unwrap-read.result
    (sym c.unwrap-read.ensures ∙ c.whole_at.ensures.value) in
    entry-put _ _ _ _ told _ (λ i. (c.type_inv.body i).fits) c.bytes.ensures c.put_tag.ensures c.bytes-2.ensures
