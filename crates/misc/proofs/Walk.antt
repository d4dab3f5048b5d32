-- A loop over `count` items, read from the left: its invariant, and the laws of a turn, for whatever the loop gathers.
-- `after acc p` is the answer where `acc` is gathered and `p` is what reading the rest gives.
use mathlib.Core.Path.{◌≡◌, refl, ◌∙◌}
use mathlib.Core.List.{List, [], ◌∷◌}
use Prim.Native.Nat.{ℕ, suc, ◌+◌, ◌-◌, ◌<◌}
use native.Mathlib.Omega.{arith}
use Rattle.misc.specs.Refusal.{Refusal}
use Rattle.misc.specs.Parse.{Parse, refuse, parsed, and_then, many, refusal_of}
use Rattle.misc.proofs.ParseLaws.{no_zero}

-- one item ahead of the rest
abbrev pub ahead : {A : Type 0} → A → Parse (List A) → Parse (List A)
ahead a (refuse r) = refuse r
ahead a (parsed rest last) = parsed (a ∷ rest) last

module _ {A : Type 0} (item : ℕ → Parse A) where
  pub many-none : (at : ℕ) → many item 0 at ≡ parsed [] at
  unfolding many
  many-none at = refl

  pub many-next : (n at : ℕ) (a : A) (next : ℕ) → item at ≡ parsed a next → many item (suc n) at ≡ ahead a (many item n next)
  unfolding many
  many-next n at a next e = rw e (go (many item n next))
    where
      go : (q : Parse (List A)) → and_then q (λ rest last. parsed (a ∷ rest) last) ≡ ahead a q
      go (refuse r) = refl
      go (parsed rest last) = refl

  pub many-refused : (n at : ℕ) (x : Refusal) → item at ≡ refuse x → many item (suc n) at ≡ refuse x
  unfolding many
  many-refused n at x e = rw e

-- the invariant: the whole answer is what is gathered makes of the rest
abbrev pub SoFar : {A Acc Ans : Type 0} → (Acc → Parse (List A) → Ans) → (ℕ → Parse A) → ℕ → Ans → Acc → ℕ → ℕ → Type 0
SoFar after item count whole acc at done = whole ≡ after acc (many item (count - done) at)

module _ {A Acc Ans : Type 0} (after : Acc → Parse (List A) → Ans) (item : ℕ → Parse A) (count : ℕ) (whole : Ans)
    (acc : Acc) (at done : ℕ) (so_far : SoFar after item count whole acc at done) where
  pub walk-next : done < count → (a : A) (next : ℕ) → item at ≡ parsed a next
      → (acc' : Acc) → ((p : Parse (List A)) → after acc (ahead a p) ≡ after acc' p)
      → SoFar after item count whole acc' next (done + 1)
  walk-next h a next e acc' step =
      let m : count - done ≡ suc (count - (done + 1)) = omega arith in
      so_far ∙ rw (m, many-next item (count - (done + 1)) at a next e) (step (many item (count - (done + 1)) next))

  pub walk_refused : done < count → (x : Refusal) → item at ≡ refuse x → whole ≡ after acc (refuse x)
  walk_refused h x e =
      let m : count - done ≡ suc (count - (done + 1)) = omega arith in
      so_far ∙ rw (m, many-refused item (count - (done + 1)) at x e)

  pub walk_end : done ≡ count → whole ≡ after acc (parsed [] at)
  walk_end h = let m : count - done ≡ 0 = omega arith in so_far ∙ rw (m, many-none item at)

-- ---- items that are known to be whole
pub record Whole {A : Type 0} (item : ℕ → Parse A) (n at : ℕ) : Type 0 where
  pub head : A
  pub next : ℕ
  pub is : item at ≡ parsed head next
  pub rest : refusal_of (many item n next) ≡ 0

pub whole-turn : {A : Type 0} (item : ℕ → Parse A) (n at : ℕ) → refusal_of (many item (suc n) at) ≡ 0 → Whole item n at
whole-turn {A} item n at z = go (item at) refl
  where
    go : (p : Parse A) → item at ≡ p → Whole item n at
    go (refuse x) e = absurd (no_zero x (rw (many-refused item n at x e) at z))
    go (parsed a next) e =
        record { head = a; next = next; is = e; rest = after (many item n next) (rw (many-next item n at a next e) at z) }
      where
        after : (q : Parse (List A)) → refusal_of (ahead a q) ≡ 0 → refusal_of q ≡ 0
        after (refuse x) h = h
        after (parsed rest last) h = refl
