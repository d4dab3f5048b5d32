-- What functions inside promise: texts that are filled from their end to their beginning.
use Rattle.std.specs.Prelude.{ℕ, ◌+◌, ◌≡◌, List, ◌++◌, length, drop}

-- bs have been put before a place: l is now l', and they begin at first
pub record Before (l : List ℕ) (end : ℕ) (bs l' : List ℕ) (first : ℕ) : Type 0 where
  pub holds : drop first l' ≡ bs ++ drop end l
  pub begins : first + length bs ≡ end
