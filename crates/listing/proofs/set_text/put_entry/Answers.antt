-- `listing::set_text::put_entry` meets its contract.
use mathlib.Core.Path.{◌∙◌}
use native.Mathlib.Nat.{add-sub_cancel_left}
use Rattle.misc.proofs.PutLaws.{puts-fit}
use Rattle.listing.proofs.EntryTextLaws.{uuid-kept, entry-put}
use Rattle.listing.proofs.set_text.put_entry.Goals as goal

pub returns : goal.returns
returns c =
    let set = c.args.set.now in
    let there = c.requires.uuid_at_in_bounds in
    let whole = rw add-sub_cancel_left at c.uuid_bytes-uuid.ensures ∙ uuid-kept set c.args.uuid_at c.args.entry there in
    entry-put set c.args.uuid_at c.args.entry there (rw (add-sub_cancel_left, whole) at (puts-fit c.put_key.ensures))
    c.put_intervals.ensures (puts-fit c.byte.ensures)
