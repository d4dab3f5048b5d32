-- `previous_gtids_event::read::unread` meets its contract.
use native.Mathlib.Omega.{arith}
use Rattle.previous_gtids_event.proofs.Reading.{used-inside}
use Rattle.previous_gtids_event.proofs.read.unread.Goals as goal

pub slice_bounds-result-count : goal.slice_bounds-result-count
slice_bounds-result-count c = omega (arith, used-inside c.args.body.now c.in-Ok.ensures)

pub slice_bounds-result-start : goal.slice_bounds-result-start
slice_bounds-result-start c = omega (arith, used-inside c.args.body.now c.in-Ok.ensures)
