-- Laws of texts that are filled from their end to their beginning.
use mathlib.Core.Path.{◌≡◌, refl, sym, ap, ◌∙◌}
use mathlib.Core.List.{List, [], ◌∷◌, ◌++◌, append_assoc, append-nil}
use Prim.Native.Nat.{ℕ, suc, ◌-◌, ◌≤◌, ◌<◌}
use native.Mathlib.Nat.{add-zero}
use native.Mathlib.Omega.{arith}
use lib.ListN.{length, take, drop, set, length-append, length-set, drop_of_length-le}
use lib.Seq.{take_all, drop-cons, drop-set-lt, get_or-set_same}
use Rattle.text.specs.Inside.{Before}

-- a byte set at a place, and all from there on
set-from : (l : List ℕ) (i b : ℕ) → i < length l → drop i (set l i b) ≡ b ∷ drop (suc i) l
set-from l i b h =
    let there : i < length (set l i b) = rw length-set h in
    drop-cons (set l i b) i 0 there ∙ rw (get_or-set_same l i b 0 h, drop-set-lt (suc i) l i b (omega arith))

pub before-none : (l : List ℕ) (end : ℕ) → Before l end [] l end
before-none l end = record { holds = refl; begins = add-zero end }

module _ {l bs l' : List ℕ} {end first : ℕ} (p : Before l end bs l' first) where
  -- one byte more
  pub before-one : (b : ℕ) → 0 < first → first ≤ length l' → Before l end (b ∷ bs) (set l' (first - 1) b) (first - 1)
  before-one b some inside =
      let one : suc (first - 1) ≡ first = omega arith in
      record {
        holds = set-from l' (first - 1) b (omega arith) ∙ rw one (ap (λ (rest : List ℕ). b ∷ rest) p.holds);
        begins = omega (arith, p.begins);
      }

  -- a run more
  pub before-run : {run l'' : List ℕ} {from : ℕ} → Before l' first run l'' from → Before l end (run ++ bs) l'' from
  before-run {run} {l''} {from} q =
      record {
        holds = q.holds ∙ rw p.holds (sym (append_assoc run bs (drop end l)));
        begins = rw length-append (omega (arith, p.begins, q.begins));
      }

  -- before the very end they are all that follows
  pub before-all : length l ≡ end → take (end - first) (drop first l') ≡ bs
  before-all e =
      let behind : drop end l ≡ [] = drop_of_length-le l {i = end} (omega arith) in
      let rest : drop first l' ≡ bs = p.holds ∙ rw behind (append-nil bs) in
      rw rest (take_all (end - first) bs (omega (arith, p.begins)))
