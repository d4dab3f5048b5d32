-- `previous_gtids_reader::entry_number` meets its contract: the step that is wanted lies so many steps on from where the reader is.
use Prim.Native.Nat.{◌-◌}
use Rattle.previous_gtids_reader.specs.Steps.{step_after}
use Rattle.previous_gtids_reader.proofs.StepLaws.{Ahead}
use Rattle.previous_gtids_reader.proofs.entry_number.Given as goal

abbrev pub invariant-loop : goal.invariant-loop
invariant-loop l = Ahead l.reader.body.now (step_after l.body l.index) (l.index - l.counter) l.reader.cursor
