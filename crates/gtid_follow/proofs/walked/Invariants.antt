-- `gtid_follow::walked` meets its contract.
use lib.ListN.{length}
use Rattle.gtid_follow.specs.Program.{Fits}
use Rattle.gtid_follow.proofs.walked.Given as goal

abbrev pub invariant-loop : goal.invariant-loop
invariant-loop l = Fits (length l.initial.set) (length l.initial.text) l.here
