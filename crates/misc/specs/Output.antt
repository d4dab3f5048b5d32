-- The language of writing. A writer gives a refusal or bytes; `output_of` says what is then in the output that it was lent, and
-- `answer_of` what it answers.
use Rattle.std.specs.Prelude.{ℕ, ◌+◌, ◌≤◌, ◌≡◌, List, ◌++◌, length, drop, leb, Result, Ok, Err}
use Rattle.std.proofs.lemmas.List.Edits.{sets}
use Rattle.misc.specs.Pick.{pick}
use Rattle.misc.specs.Refusal.{Refusal, WriteError, Refused, NoRoom, error_number, error_needed}

pub data Output : Type 0 where
  refused : Refusal → Output
  bytes : List ℕ → Output

-- the output l afterwards: the bytes at its front if they fit, and the rest as it was
unfoldable pub output_of : List ℕ → Output → List ℕ
output_of l (refused r) = l
output_of l (bytes bs) = pick (leb (length bs) (length l)) (bs ++ drop (length bs) l) l

-- the answer: how many bytes were written, or the refusal; where they don't fit, that and how many are needed
unfoldable pub answer_of : List ℕ → Output → Result ℕ WriteError
answer_of l (refused r) = Err (Refused r)
answer_of l (bytes bs) = pick (leb (length bs) (length l)) (Ok (length bs)) (Err (NoRoom (length bs)))

-- the same as two numbers: that of the refusal, 0 for none; and how many bytes were written or, for 13, are needed
abbrev pub written_number : Result ℕ WriteError → ℕ
written_number (Ok n) = 0
written_number (Err e) = error_number e

abbrev pub written_len : Result ℕ WriteError → ℕ
written_len (Ok n) = n
written_len (Err e) = error_needed e

-- ---- at a place

-- l with bs over what stood from a place on
unfoldable pub written : List ℕ → ℕ → List ℕ → List ℕ
written l at bs = sets l at bs

-- bytes that are put at a place of an output: what it then holds, and the place behind them; where there is no room for all of them
-- nothing is written, and the place stays
unfoldable pub put_at : List ℕ → ℕ → List ℕ → List ℕ
put_at l at bs = pick (leb (at + length bs) (length l)) (written l at bs) l

unfoldable pub put_end : List ℕ → ℕ → List ℕ → ℕ
put_end l at bs = pick (leb (at + length bs) (length l)) (at + length bs) at

-- ---- inside: runs of writes

-- the place behind what a writer wrote at a place
abbrev pub behind : Result ℕ WriteError → ℕ → ℕ
behind (Ok n) at = at + n
behind (Err e) at = at

-- bs have been placed: l is now l', and next is the place after them
pub record Placed (l : List ℕ) (at : ℕ) (bs l' : List ℕ) (next : ℕ) : Type 0 where
  pub holds : l' ≡ written l at bs
  pub ends : next ≡ at + length bs

-- the same where there is room for them; where there isn't, nothing is said
pub record WhereFits (l : List ℕ) (at : ℕ) (bs l' : List ℕ) (next : ℕ) : Type 0 where
  pub placed : at + length bs ≤ length l → Placed l at bs l' next
