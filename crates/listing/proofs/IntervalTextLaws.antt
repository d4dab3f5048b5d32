-- The text of intervals, one after another.
use Prim.Native.Nat.{ℕ, ◌+◌, ◌-◌, ◌*◌, ◌≤◌, ◌<◌}
use mathlib.Core.Path.{◌≡◌, refl, ap, ◌∙◌}
use native.Mathlib.Numerals.{unary_clauses}
use mathlib.Core.List.{List, [], ◌∷◌, ◌++◌}
use native.Mathlib.Omega.{arith}
use lib.ListN.{length, length-append}
use Rattle.packets.specs.Gno.{interval}
use Rattle.misc.specs.Le.{number_at}
use Rattle.set_intervals.specs.Intervals.{intervals_at}
use Rattle.set_intervals.proofs.Standing.{intervals-more}
use Rattle.text.specs.Intervals.{interval_text}
use Rattle.listing.specs.SetText.{intervals_text}

-- the intervals of an entry from one of them on, as text
abbrev pub text_from : List ℕ → ℕ → ℕ → ℕ → List ℕ
text_from bs first count i = intervals_text (intervals_at (count - i) bs (first + 16 * i))

module _ (bs : List ℕ) (first count : ℕ) where
  pub all_ahead : text_from bs first count 0 ≡ intervals_text (intervals_at count bs first)
  all_ahead = simp unary_clauses refl

  pub none_ahead : {i : ℕ} → count ≤ i → text_from bs first count i ≡ []
  unfolding intervals_text
  none_ahead {i} all =
      let none : count - i ≡ 0 = omega arith in
      rw none

  pub next-text : (i : ℕ) → i < count → (start end : ℕ) → start ≡ number_at bs (first + 16 * i) → end ≡ number_at bs (first + 16 * i + 8)
      → text_from bs first count i ≡ interval_text start end ++ text_from bs first count (i + 1)
  unfolding intervals_text
  next-text i some start end p q =
      let next : intervals_at (count - i) bs (first + 16 * i) ≡ interval start end ∷ intervals_at (count - i - 1) bs (first + 16 * i + 16) =
      intervals-more bs (first + 16 * i) (count - i) (omega arith) ∙ rw (p, q) in
      let left : count - i - 1 ≡ count - (i + 1) = omega arith in
      let place : first + 16 * i + 16 ≡ first + 16 * (i + 1) = omega arith in
      ap intervals_text next ∙ rw (left, place)

-- ---- how long their text is

-- that of some is counted already: with what is left it is what is wanted, and an interval takes 42 bytes at most
pub record Counting (bs : List ℕ) (first count i len : ℕ) : Type 0 where
  pub to-do : length (text_from bs first count 0) ≡ len + length (text_from bs first count i)
  pub most : len ≤ 42 * i

pub counting-turn : {bs : List ℕ} {first count i len : ℕ} → Counting bs first count i len → i < count → (start end : ℕ)
    → start ≡ number_at bs (first + 16 * i) → end ≡ number_at bs (first + 16 * i + 8) → (n : ℕ) → n ≡ length (interval_text start end) → n ≤ 42
    → Counting bs first count (i + 1) (len + n)
counting-turn {bs} {first} {count} {i} g some start end p q n size short =
    let text = next-text bs first count i some start end p q in
    record {
      to-do = omega (arith, g.to-do, ap length text, length-append (interval_text start end) (text_from bs first count (i + 1)));
      most = omega (arith, g.most);
    }

pub counting-all : {bs : List ℕ} {first count i len : ℕ} → Counting bs first count i len → i ≡ count
    → (len ≡ length (intervals_text (intervals_at count bs first))) × (len ≤ 42 * count)
counting-all {bs} {first} {count} {i} g all =
    (omega (arith, g.to-do, ap length (all_ahead bs first count), ap length (none_ahead bs first count {i = i} (omega arith))), omega (arith, g.most))
