use mathlib.Core.Path.{ap}
use native.Mathlib.Omega.{arith}
use Rattle.set_check.specs.declared.Cursor.{Cursor}
use Rattle.listing.proofs.EntryTextLaws.{counting-all, counting-turn, next-there}
use Rattle.listing.proofs.set_text.entries_len.Goals as goal

pub entry_len-len-requires : goal.entry_len-len-requires
entry_len-len-requires c = (next-there _ _ _ c.loop.invariant.0.is (omega arith) c.entry_here-entry.ensures).1

pub loop-preserved : goal.loop-preserved
loop-preserved c = let size = c.entry_len-len.ensures in (
  counting-turn _ _ _ _ c.loop.invariant.0 _ (omega arith) c.entry_here-entry.ensures _ size.0 size.1 _ c.beyond-rest.ensures,
  omega (arith, ap (λ (x : Cursor). x.left) c.beyond-rest.ensures),
)

pub returns : goal.returns
returns c = counting-all _ _ _ _ c.loop.invariant.0 (omega arith)
