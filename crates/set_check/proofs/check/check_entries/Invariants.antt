-- `set_check::check::check_entries` meets its contract.
use Prim.Native.Nat.{◌+◌, ◌*◌, ◌≤◌}
use mathlib.Core.Path.{◌≡◌}
use lib.ListN.{length}
use Rattle.set_check.specs.Check.{low_key, LowThere}
use Rattle.set_check.proofs.CheckLaws.{Walked}
use Rattle.set_check.proofs.check.check_entries.Given as goal

abbrev pub invariant-loop : goal.invariant-loop
invariant-loop l = record {
  counts : l.counter + l.rest.left ≡ l.end;
  inside : l.rest.at ≤ length l.set;
  small : 16 * l.used ≤ l.rest.at;
  low : LowThere l.set l.low;
  walked : Walked l.set l.initial.rest l.rest (low_key l.set l.low) l.used l.any;
}
