-- `set_intervals::held_behind` meets its contract.
use mathlib.Core.List.{[]}
use Rattle.set_intervals.proofs.Walks.{held-one}
use Rattle.set_intervals.proofs.held_behind.Goals as goal

pub returns-in-Some : goal.returns-in-Some
returns-in-Some c = let a = c.args in
    let at = c.in-Some.ensures.lookup.3 in
    rw (c.read-next.ensures.0, c.read-next.ensures.1, ← c.chunks.ensures) (held-one c.chunks.result.now a.before a.n at.0 c.in-Some.chunk.now (at.1 []))
