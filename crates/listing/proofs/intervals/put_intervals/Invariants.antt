-- `listing::intervals::put_intervals` meets its contract.
use Rattle.text.proofs.PuttingLaws.{Putting}
use Rattle.listing.proofs.IntervalTextLaws.{text_from}
use Rattle.listing.proofs.intervals.put_intervals.Given as goal

abbrev pub invariant-loop-i : goal.invariant-loop-i
invariant-loop-i l = Putting (text_from l.set l.first l.count 0) l.fn.put (text_from l.set l.first l.count l.i) l.put
