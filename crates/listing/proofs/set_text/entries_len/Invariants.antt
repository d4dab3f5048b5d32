-- `listing::set_text::entries_len` meets its contract.
use Prim.Native.Nat.{◌+◌}
use mathlib.Core.Path.{◌≡◌}
use Rattle.listing.proofs.EntryTextLaws.{Counting}
use Rattle.listing.proofs.set_text.entries_len.Given as goal

abbrev pub invariant-loop : goal.invariant-loop
invariant-loop l = Counting l.set l.initial.rest l.rest l.len × (l.counter + l.rest.left ≡ l.initial.rest.left)
