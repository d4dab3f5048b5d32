-- `gtid_follow::finish` is safe: there is room for a line.
use native.Mathlib.Omega.{arith}
use Rattle.listing.proofs.Longest.{longest_text-is}
use Rattle.gtid_follow.proofs.finish.Goals as goal

pub put_refusal-lines-requires : goal.put_refusal-lines-requires
put_refusal-lines-requires c = omega (arith, longest_text-is)
