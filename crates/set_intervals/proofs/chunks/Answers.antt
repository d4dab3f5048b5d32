-- `set_intervals::chunks` meets its contract.
use mathlib.Core.Path.{◌∙◌, ap}
use Rattle.set_intervals.specs.Intervals.{told}
use Rattle.set_intervals.proofs.Standing.{chunks-all}
use Rattle.set_intervals.proofs.chunks.Goals as goal

pub returns : goal.returns
returns c = ap told c.as_chunks.ensures.front ∙ chunks-all c.args.intervals.now
