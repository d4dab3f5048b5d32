-- How many bytes there are at least and at most, part by part.
use mathlib.Core.List.{List, ◌++◌}
use Prim.Native.Nat.{ℕ, ◌+◌, ◌≤◌}
use native.Mathlib.Omega.{arith}
use lib.ListN.{length, length-append}

pub record Within (bs : List ℕ) (m n : ℕ) : Type 0 where
  pub least : m ≤ length bs
  pub most : length bs ≤ n

infixl 40 ◌plus◌
pub ◌plus◌ : {a b : List ℕ} {m n k l : ℕ} → Within a m n → Within b k l → Within (a ++ b) (m + k) (n + l)
◌plus◌ {a} {b} p q =
    record { least = rw length-append (omega (arith, p.least, q.least)); most = rw length-append (omega (arith, p.most, q.most)) }
