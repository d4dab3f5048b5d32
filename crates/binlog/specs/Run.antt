-- A run over a file that arrives in chunks, whatever its events do to what is kept: `does` says it of an event's type and body.
use Rattle.std.specs.Prelude.{ℕ, Bool, true, false, List, [], ◌∷◌, ◌++◌}
use Rattle.misc.specs.Refusal as refusals
use Rattle.binlog.specs.Stop.{Stop, stop_for}
use Rattle.binlog.specs.Place.{Place, opening, heading, inside, passing, whole, ended, stopped, next}

-- what an event comes to: an answer and what is kept then; or a refusal, and the length that it names
pub data Done (S A : Type 0) : Type 0 where
  did : A → S → Done S A
  fails : Stop → ℕ → Done S A

-- the place in the file, what is kept, and the answers so far
pub data Run (S A : Type 0) : Type 0 where
  at : Place → S → List A → Run S A

-- the end is named: well between two events; elsewhere it is 1, and a refusal stays
abbrev pub end_of : Place → Place
end_of (opening n) = stopped (stop_for refusals.ended) 0
end_of (heading []) = ended
end_of (heading (b ∷ came)) = stopped (stop_for refusals.ended) 0
end_of (inside type n came) = stopped (stop_for refusals.ended) 0
end_of (passing n) = stopped (stop_for refusals.ended) 0
end_of (whole type body) = whole type body
end_of ended = ended
end_of (stopped r n) = stopped r n

-- an event that was judged: the reader goes on behind it, or stops
abbrev pub answered : {S A : Type 0} → S → List A → Done S A → Run S A
answered s said (did a s') = at (heading []) s' (said ++ a ∷ [])
answered s said (fails r n) = at (stopped r n) s said

-- a run begins before the opening
abbrev pub begin : {S A : Type 0} → S → Run S A
begin s = at (opening 0) s []

module _ {S A : Type 0} (does : S → ℕ → List ℕ → Done S A) (t : ℕ) where
  -- a whole event is judged at once
  abbrev pub settled : Place → S → List A → Run S A
  settled (whole type body) s said = answered s said (does s type body)
  settled (opening n) s said = at (opening n) s said
  settled (heading came) s said = at (heading came) s said
  settled (inside type n came) s said = at (inside type n came) s said
  settled (passing n) s said = at (passing n) s said
  settled ended s said = at ended s said
  settled (stopped r n) s said = at (stopped r n) s said

  -- a byte
  abbrev pub fed : Run S A → ℕ → Run S A
  fed (at p s said) b = settled (next t p b) s said

  -- bytes
  abbrev pub feed : Run S A → List ℕ → Run S A
  feed r [] = r
  feed r (b ∷ bs) = feed (fed r b) bs

  abbrev pub finish : Run S A → Run S A
  finish (at p s said) = at (end_of p) s said

  -- what walking a file comes to: all bytes that came, and whether the end was named behind them
  abbrev pub walking : S → List ℕ → Bool → Run S A
  walking s bs false = feed (begin s) bs
  walking s bs true = finish (feed (begin s) bs)

-- ---- as it arrives: chunks, and word that the file has ended

pub data Word : Type 0 where
  chunk : List ℕ → Word
  end : Word

module _ {S A : Type 0} (does : S → ℕ → List ℕ → Done S A) (t : ℕ) where
  abbrev pub heard : Run S A → Word → Run S A
  heard r (chunk bs) = feed does t r bs
  heard r end = finish does t r

  -- all that arrives, one after another
  abbrev pub hear : Run S A → List Word → Run S A
  hear r [] = r
  hear r (w ∷ ws) = hear (heard r w) ws

-- the same words byte by byte: it doesn't show where chunks were cut, nor empty ones
abbrev pub each_byte : List ℕ → List Word
each_byte [] = []
each_byte (b ∷ bs) = chunk (b ∷ []) ∷ each_byte bs

abbrev pub spelled : List Word → List Word
spelled [] = []
spelled (chunk bs ∷ ws) = each_byte bs ++ spelled ws
spelled (end ∷ ws) = end ∷ spelled ws

-- chunks one after another, and all their bytes
abbrev pub chunks_of : List (List ℕ) → List Word
chunks_of [] = []
chunks_of (c ∷ cs) = chunk c ∷ chunks_of cs

abbrev pub joined : List (List ℕ) → List ℕ
joined [] = []
joined (c ∷ cs) = c ++ joined cs
