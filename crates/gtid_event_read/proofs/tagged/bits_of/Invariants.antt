-- `gtid_event_read::tagged::bits_of` meets its contract. The loop's invariant: the number is that of the fields from `id` on.
-- Assumes nothing.
use mathlib.Core.Path.{◌≡◌}
use lib.ListN.{drop}
use Rattle.gtid_event_read.specs.Seen.{bits_of}
use Rattle.gtid_event_read.proofs.tagged.bits_of.Given as goal

abbrev pub invariant-loop-id : goal.invariant-loop-id
invariant-loop-id l = l.bits ≡ bits_of (drop l.id l.present)
