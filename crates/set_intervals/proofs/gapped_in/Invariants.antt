-- `set_intervals::gapped_in` meets its contract. The loop's invariant: they are gapped just if those that are left are, above the last end.
use mathlib.Core.Path.{◌≡◌}
use lib.ListN.{drop}
use Rattle.gtid_sets.specs.Interval.{gapped}
use Rattle.set_intervals.specs.Intervals.{told}
use Rattle.set_intervals.proofs.gapped_in.Given as goal

abbrev pub invariant-loop-chunk : goal.invariant-loop-chunk
invariant-loop-chunk l = gapped 0 (told l.chunk-items) ≡ gapped l.low (told (drop l.chunk-index l.chunk-items))
