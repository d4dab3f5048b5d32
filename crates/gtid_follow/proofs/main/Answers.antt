-- `gtid_follow::main` is safe: the room for the text is enough. (The lengths of arrays come by a law: to count their elements takes seconds.)
use Prim.Native.Nat.{ℕ}
use mathlib.Core.Path.{sym}
use native.Mathlib.Omega.{arith}
use lib.ListN.{length-replicate}
use Rattle.listing.proofs.Longest.{longest_text-is}
use Rattle.gtid_follow.proofs.main.Goals as goal

pub slice_bounds-follow-end : goal.slice_bounds-follow-end
slice_bounds-follow-end c = sym (length-replicate {A = ℕ} _ 0)

pub slice_bounds-follow-end-2 : goal.slice_bounds-follow-end-2
slice_bounds-follow-end-2 c = sym (length-replicate {A = ℕ} _ 0)

pub slice_bounds-follow-end-3 : goal.slice_bounds-follow-end-3
slice_bounds-follow-end-3 c = sym (length-replicate {A = ℕ} _ 0)

pub slice_bounds-follow-end-4 : goal.slice_bounds-follow-end-4
slice_bounds-follow-end-4 c = sym (length-replicate {A = ℕ} _ 0)

pub slice_bounds-follow-end-5 : goal.slice_bounds-follow-end-5
slice_bounds-follow-end-5 c = sym (length-replicate {A = ℕ} _ 0)

pub follow-requires : goal.follow-requires
follow-requires c = omega (arith, longest_text-is)
