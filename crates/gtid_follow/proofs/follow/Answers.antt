-- `gtid_follow::follow` is safe: there is room for a line.
use native.Mathlib.Omega.{arith}
use Rattle.listing.proofs.Longest.{longest_text-is}
use Rattle.gtid_follow.proofs.follow.Goals as goal

pub walked-last-requires-clause-line_room_in_bounds : goal.walked-last-requires-clause-line_room_in_bounds
walked-last-requires-clause-line_room_in_bounds c = omega (arith, longest_text-is)
