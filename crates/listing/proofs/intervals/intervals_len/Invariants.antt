-- `listing::intervals::intervals_len` meets its contract.
use Rattle.listing.proofs.IntervalTextLaws.{Counting}
use Rattle.listing.proofs.intervals.intervals_len.Given as goal

abbrev pub invariant-loop-i : goal.invariant-loop-i
invariant-loop-i l = Counting l.set l.first l.count l.i l.len
