-- What the program writes, of what it read.
use Rattle.std.specs.Prelude.{ℕ, ◌≤◌, ◌≡◌, List, length, take}
use Rattle.listing.specs.EventText.{listing}

-- The first bytes of a text are the listing of every input of which so much was read: all of it, or as much as there was room for.
pub record Listed (room : ℕ) (read : List ℕ) (len : ℕ) (text : List ℕ) : Type 0 where
  pub fits : len ≤ length text
  pub whole : (input : List ℕ) → read ≡ take room input → take len text ≡ listing input
