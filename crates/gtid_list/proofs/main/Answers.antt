-- `gtid_list::main` is safe: both rooms are enough.
use native.Mathlib.Omega.{arith}
use Rattle.listing.proofs.Whole.{enough_input-is}
use Rattle.listing.proofs.Longest.{longest_text-is}
use Rattle.gtid_list.proofs.main.Goals as goal

pub list-requires : goal.list-requires
list-requires c = omega (arith, enough_input-is, longest_text-is)
