-- `gtid_follow::through` meets its contract: each step uses a byte of the chunk, or is the last.
use Prim.Native.Nat.{◌-◌, ◌≤◌}
use lib.ListN.{length}
use Rattle.gtid_follow.specs.Program.{Fits}
use Rattle.gtid_follow.proofs.through.Given as goal

abbrev pub invariant-loop-here : goal.invariant-loop-here
invariant-loop-here l = Fits (length l.initial.set) (length l.initial.text) l.here × (l.here.used ≤ length l.chunk)

abbrev pub decreases-loop-here : goal.decreases-loop-here
decreases-loop-here l = length l.chunk - l.here.used
