-- `previous_gtids_event::read::read` meets its contract.
use Rattle.misc.proofs.Walk.{SoFar}
use Rattle.previous_gtids_event.proofs.Counting.{read_after}
use Rattle.previous_gtids_event.specs.Answers.{previous_read}
use Rattle.previous_gtids_event.specs.Previous.{entry_at, previous}
use Rattle.previous_gtids_event.proofs.read.read.Given as goal

abbrev pub invariant-loop : goal.invariant-loop
invariant-loop l = SoFar read_after (entry_at l.header.tagged l.body) l.header.entries (previous_read (previous l.body)) l.counter l.at l.counter
