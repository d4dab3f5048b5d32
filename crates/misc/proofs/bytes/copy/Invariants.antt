-- `misc::bytes::copy` meets its contract. The invariant: writing what is left gives what the contract asks.
use mathlib.Core.Path.{◌≡◌}
use lib.ListN.{length, drop}
use Rattle.misc.specs.Output.{written}
use Rattle.misc.proofs.bytes.copy.Given as goal

abbrev pub invariant-loop-i : goal.invariant-loop-i
invariant-loop-i l = (length l.out ≡ length l.initial.out) × (written l.out l.i (drop l.i l.source) ≡ written l.initial.out 0 l.source)
