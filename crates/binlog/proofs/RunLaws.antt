-- Laws of a run: where chunks are cut is all one, the end that is named again and a refusal repeat.
use Prim.Native.Nat.{ℕ}
use mathlib.Core.Path.{◌≡◌, refl, sym, ap, ◌∙◌}
use mathlib.Core.Bool.{true, false}
use mathlib.Core.List.{List, [], ◌∷◌, ◌++◌}
use Rattle.misc.specs.Refusal.{bad_file}
use Rattle.binlog.specs.Stop.{Stop, stop_for}
use Rattle.binlog.specs.Place.{Place, opening, heading, inside, passing, whole, ended, stopped}
use Rattle.binlog.specs.Run.{Done, Run, at, Word, chunk, end, begin, end_of, fed, feed, finish, walking, heard, hear, each_byte, spelled, chunks_of, joined}

module _ {S A : Type 0} (does : S → ℕ → List ℕ → Done S A) (t : ℕ) where
  pub feed-append : (r : Run S A) (a b : List ℕ) → feed does t r (a ++ b) ≡ feed does t (feed does t r a) b
  feed-append r [] b = refl
  feed-append r (x ∷ a) b = feed-append (fed does t r x) a b

  pub hear-append : (r : Run S A) (us ws : List Word) → hear does t r (us ++ ws) ≡ hear does t (hear does t r us) ws
  hear-append r [] ws = refl
  hear-append r (u ∷ us) ws = hear-append (heard does t r u) us ws

  hear-bytes : (r : Run S A) (bs : List ℕ) → hear does t r (each_byte bs) ≡ feed does t r bs
  hear-bytes r [] = refl
  hear-bytes r (b ∷ bs) = hear-bytes (fed does t r b) bs

  -- what is heard is what is heard byte by byte
  pub hear-spelled : (r : Run S A) (ws : List Word) → hear does t r (spelled ws) ≡ hear does t r ws
  hear-spelled r [] = refl
  hear-spelled r (chunk bs ∷ ws) =
      hear-append r (each_byte bs) (spelled ws) ∙ rw (hear-bytes r bs) (hear-spelled (feed does t r bs) ws)
  hear-spelled r (end ∷ ws) = hear-spelled (finish does t r) ws

  -- cutting the same file elsewhere gives equal answers, the same set and the same end state
  pub cut-anywhere : (r : Run S A) (us ws : List Word) → spelled us ≡ spelled ws → hear does t r us ≡ hear does t r ws
  cut-anywhere r us ws same = sym (hear-spelled r us) ∙ ap (hear does t r) same ∙ hear-spelled r ws

  -- hearing chunks is walking their bytes, and with the end behind them it is walking them to the end
  hear-chunks : (r : Run S A) (cs : List (List ℕ)) → hear does t r (chunks_of cs) ≡ feed does t r (joined cs)
  hear-chunks r [] = refl
  hear-chunks r (c ∷ cs) = hear-chunks (feed does t r c) cs ∙ sym (feed-append r c (joined cs))

  pub chunks-walk : (s : S) (cs : List (List ℕ)) → hear does t (begin s) (chunks_of cs) ≡ walking does t s (joined cs) false
  chunks-walk s cs = hear-chunks (begin s) cs

  pub chunks-end : (s : S) (cs : List (List ℕ)) → hear does t (begin s) (chunks_of cs ++ end ∷ []) ≡ walking does t s (joined cs) true
  chunks-end s cs = hear-append (begin s) (chunks_of cs) (end ∷ []) ∙ ap (finish does t) (hear-chunks (begin s) cs)

  -- empty chunks change nothing
  pub empty-chunk : (r : Run S A) → heard does t r (chunk []) ≡ r
  empty-chunk r = refl

  -- ---- what repeats

  -- after a refusal all that comes is refused alike, and nothing changes
  pub still-stopped : (x : Stop) (n : ℕ) (s : S) (said : List A) (bs : List ℕ) → feed does t (at (stopped x n) s said) bs ≡ at (stopped x n) s said
  still-stopped x n s said [] = refl
  still-stopped x n s said (b ∷ bs) = still-stopped x n s said bs

  pub stays-stopped : (x : Stop) (n : ℕ) (s : S) (said : List A) (ws : List Word) → hear does t (at (stopped x n) s said) ws ≡ at (stopped x n) s said
  stays-stopped x n s said [] = refl
  stays-stopped x n s said (chunk bs ∷ ws) = rw (still-stopped x n s said bs) (stays-stopped x n s said ws)
  stays-stopped x n s said (end ∷ ws) = stays-stopped x n s said ws

  -- naming the end again repeats the answer
  pub end_again : (r : Run S A) → heard does t (heard does t r end) end ≡ heard does t r end
  end_again (at p s said) = ap (λ (q : Place). at q s said) (go p)
    where
      go : (q : Place) → end_of (end_of q) ≡ end_of q
      go (opening n) = refl
      go (heading []) = refl
      go (heading (b ∷ came)) = refl
      go (inside type n came) = refl
      go (passing n) = refl
      go (whole type body) = refl
      go ended = refl
      go (stopped r n) = refl

  -- bytes after the named end
  pub after-end : (s : S) (said : List A) (b : ℕ) (bs : List ℕ) → feed does t (at ended s said) (b ∷ bs) ≡ at (stopped (stop_for bad_file) 0) s said
  after-end s said b bs = still-stopped (stop_for bad_file) 0 s said bs
