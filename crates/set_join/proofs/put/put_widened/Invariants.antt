-- `set_join::put::put_widened` meets its contract.
use Prim.Native.Nat.{◌+◌}
use mathlib.Core.Path.{◌≡◌}
use Rattle.set_join.specs.Put.{widened}
use Rattle.set_join.proofs.PutLaws.{Widening}
use Rattle.set_join.proofs.put.put_widened.Given as goal

abbrev pub invariant-loop : goal.invariant-loop
invariant-loop l = record {
  counts : l.counter + l.rest.left ≡ l.end;
  widening : Widening l.set (widened l.fn.run.count l.set l.fn.run.from) l.fn.put l.rest l.put;
}
