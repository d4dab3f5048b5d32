-- `gtid_event_write::writable::cleared_beyond` meets its contract. The invariant: the bytes beyond the tag are zero just if those that are
-- joined and those that are left are.
use mathlib.Core.Bool.{◌&&◌}
use mathlib.Core.Path.{◌≡◌}
use lib.Dec.{eqb}
use lib.ListN.{drop}
use Rattle.gtid_event_write.specs.Writable.{all_zero}
use Rattle.gtid_event_write.proofs.writable.cleared_beyond.Given as goal

abbrev pub invariant-loop-b : goal.invariant-loop-b
invariant-loop-b l = all_zero l.b-items ≡ (eqb l.joined 0 && all_zero (drop l.b-index l.b-items))
