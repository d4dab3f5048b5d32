use mathlib.Core.Path.{ap}
use native.Mathlib.Omega.{arith}
use Rattle.set_check.specs.declared.Cursor.{Cursor}
use Rattle.text.proofs.PuttingLaws.{putting-all, putting-turn}
use Rattle.listing.proofs.EntryTextLaws.{none-text, next-there, next-cursor, next-text}
use Rattle.listing.proofs.set_text.put_entries.Goals as goal

pub put_entry-requires : goal.put_entry-requires
put_entry-requires c =
    let there = next-there _ _ _ c.loop.invariant.0 (omega arith) c.entry_here-entry.ensures in
    record { uuid_at_in_bounds = there.0; entry_there = there.1 }

pub loop-preserved : goal.loop-preserved
loop-preserved c = let inv = c.loop.invariant in
    let told = c.entry_here-entry.ensures in (
      next-cursor _ _ _ inv.0 (omega arith) told _ c.beyond-rest.ensures,
      omega (arith, ap (λ (x : Cursor). x.left) c.beyond-rest.ensures),
      putting-turn inv.2 _ _ (next-text _ _ _ inv.0 (omega arith) told _ c.beyond-rest.ensures) _ c.put_entry.ensures,
    )

pub returns : goal.returns
returns c = putting-all c.loop.invariant.2 (none-text c.args.set.now c.loop.rest (omega arith))
