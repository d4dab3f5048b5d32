-- Laws of the walk through a chunk: many bytes at once in each part of a file, and the walk as part of a run.
use Prim.Native.Nat.{ℕ, zero, suc, ◌+◌, ◌-◌, ◌≤◌, ◌<◌}
use mathlib.Core.Path.{◌≡◌}
use mathlib.Core.List.{List, [], ◌∷◌, ◌++◌, append-nil}
use native.Mathlib.Numerals.{unary_clauses}
use native.Mathlib.Omega.{arith}
use lib.ListN.{length, take, drop, length-append}
use lib.Seq.{append_snoc}
use borrow.Author.Tests.{lt-ltb}
use Rattle.binlog.specs.Place.{heading, arrived, passed, headed}
use Rattle.binlog.specs.Walk.{walked}

module _ (t : ℕ) where
  -- bytes of an event that is skipped
  pub pass-many : (m n used : ℕ) (bs : List ℕ) → m ≤ n → m ≤ length bs
      → walked t (passed n) used bs ≡ walked t (passed (n - m)) (used + m) (drop m bs)
  pass-many zero n used bs h l = simp unary_clauses
  pass-many (suc m) zero used bs h l = absurd (omega arith)
  pass-many (suc m) (suc n) used [] h l = absurd (omega arith)
  pass-many (suc m) (suc n) used (b ∷ bs) h l =
      let one : suc n - 1 ≡ n = omega arith in
      let less : suc n - suc m ≡ n - m = omega arith in
      let more : used + suc m ≡ (used + 1) + m = omega arith in
      rw (one, less, more) (pass-many m n (used + 1) bs (omega arith) (omega arith))

  -- bytes of an event that is read
  pub read-many : (type m n used : ℕ) (came bs : List ℕ) → m ≤ n → m ≤ length bs
      → walked t (arrived t type n came) used bs ≡ walked t (arrived t type (n - m) (came ++ take m bs)) (used + m) (drop m bs)
  read-many type zero n used came bs h l = simp (unary_clauses, append-nil)
  read-many type (suc m) zero used came bs h l = absurd (omega arith)
  read-many type (suc m) (suc n) used came [] h l = absurd (omega arith)
  read-many type (suc m) (suc n) used came (b ∷ bs) h l =
      let one : suc n - 1 ≡ n = omega arith in
      let less : suc n - suc m ≡ n - m = omega arith in
      let more : used + suc m ≡ (used + 1) + m = omega arith in
      rw (one, less, more, ← append_snoc came b (take m bs)) (read-many type m n (used + 1) (came ++ b ∷ []) bs (omega arith) (omega arith))

  -- bytes of a header
  pub headed-short : (came : List ℕ) → length came < 19 → headed t came ≡ heading came
  unfolding headed
  headed-short came h = rw (lt-ltb (length came) 19 h)

  pub head-many : (m used : ℕ) (came bs : List ℕ) → length came + m ≤ 19 → m ≤ length bs
      → walked t (headed t came) used bs ≡ walked t (headed t (came ++ take m bs)) (used + m) (drop m bs)
  head-many zero used came bs h l = simp (unary_clauses, append-nil)
  head-many (suc m) used came [] h l = absurd (omega arith)
  head-many (suc m) used came (b ∷ bs) h l =
      let short : length came < 19 = omega arith in
      let more : used + suc m ≡ (used + 1) + m = omega arith in
      let grown : length (came ++ b ∷ []) + m ≤ 19 = rw length-append (omega arith) in
      rw (headed-short came short, more, ← append_snoc came b (take m bs)) (head-many m (used + 1) (came ++ b ∷ []) bs grown (omega arith))
