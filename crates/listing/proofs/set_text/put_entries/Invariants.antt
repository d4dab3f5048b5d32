-- `listing::set_text::put_entries` meets its contract.
use Prim.Native.Nat.{◌+◌}
use mathlib.Core.Path.{◌≡◌}
use Rattle.set_check.specs.Cursor.{entries_left, CursorIs}
use Rattle.text.proofs.PuttingLaws.{Putting}
use Rattle.listing.specs.SetText.{entries_text}
use Rattle.listing.proofs.set_text.put_entries.Given as goal

abbrev pub invariant-loop : goal.invariant-loop
invariant-loop l = CursorIs l.set l.rest × (l.counter + l.rest.left ≡ l.initial.rest.left)
    × Putting (entries_text (entries_left l.set l.initial.rest)) l.fn.put (entries_text (entries_left l.set l.rest)) l.put
