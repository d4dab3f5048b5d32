-- The order of two keys, from a place on: what a loop over both needs.
use Prim.Native.Nat.{ℕ, ◌+◌, ◌<◌, ◌≤◌, compare, Ordering}
use mathlib.Core.Bool.{true, false}
use mathlib.Core.Path.{◌≡◌, refl, sym, ap, ◌∙◌}
use mathlib.Core.List.{◌++◌}
use native.Mathlib.Omega.{arith}
use lib.ListN.{length, drop, drop_of_length-le, take-append-drop}
use lib.Seq.{drop-cons, drop-drop}
use Rattle.std.specs.Prelude.{min}
use Rattle.std.specs.Ordering.{nat_cmp, is_ne, MatchOrdering}
use Rattle.std.specs.declared.cmp.Ordering as cmp
use Rattle.std.specs.declared.cmp.Ordering.TheVariants.{Less, Equal, Greater}
use Rattle.std.proofs.lemmas.Cmp.{ranked}
use Rattle.misc.specs.Parse.{Bytes, part}
use Rattle.misc.proofs.ParseLaws.{part_length}
use Rattle.misc.proofs.Bounds.{part_bytes}
use Rattle.packets.specs.Key.{Key, or_else, order, order_read}
use Rattle.packets.specs.Word.{big_endian}
use Rattle.packets.proofs.Keys.{compare-lt, compare-eq, compare-gt, order-append}
use Rattle.packets.proofs.WordLaws.{order-words}
use Rattle.packets.proofs.Tests.{clash}

-- what is left from `i` on is in the order wanted: the keys agree before
pub record Decides (wanted : Ordering) (i : ℕ) (a b : Key) : Type 0 where
  pub left : wanted ≡ order (drop i a) (drop i b)

module _ (wanted : Ordering) (a b : Key) (i : ℕ) (d : Decides wanted i a b) where
  -- eight bytes at once
  both_words : Bytes a → Bytes b → i + 8 ≤ length a → i + 8 ≤ length b
      → wanted ≡ or_else (compare (big_endian (part a i 8)) (big_endian (part b i 8))) (order (drop (i + 8) a) (drop (i + 8) b))
  both_words p q h k =
      let size : length (part a i 8) ≡ 8 = part_length 8 a i h in
      let size' : length (part b i 8) ≡ 8 = part_length 8 b i k in
      let words = order-words (part a i 8) (part b i 8) (part_bytes a i 8 p) (part_bytes b i 8 q) (omega arith) in
      let parts = order-append (part a i 8) (part b i 8) (drop (i + 8) a) (drop (i + 8) b) (omega arith) in
      d.left ∙ ap (λ (k : Key). order k (drop i b)) (eight-on a) ∙ ap (order (part a i 8 ++ drop (i + 8) a)) (eight-on b) ∙ parts
      ∙ ap (λ (o : Ordering). or_else o (order (drop (i + 8) a) (drop (i + 8) b))) words
    where
      eight-on : (l : Key) → drop i l ≡ part l i 8 ++ drop (i + 8) l
      eight-on l = sym (take-append-drop 8 (drop i l)) ∙ ap (λ (r : Key). part l i 8 ++ r) (drop-drop 8 i l)

  module _ (p : Bytes a) (q : Bytes b) (h : i + 8 ≤ length a) (k : i + 8 ≤ length b)
      (x y : ℕ) (xs : x ≡ big_endian (part a i 8)) (ys : y ≡ big_endian (part b i 8)) where
    -- words that differ decide
    pub word-told : (r : cmp.Ordering) → r ≡ nat_cmp x y → is_ne r ≡ true → r ≡ order_read wanted
    word-told r told differs = go r (ranked x y r told) differs
      where
        go : (r : cmp.Ordering) → MatchOrdering r (x < y) (x ≡ y) (y < x) → is_ne r ≡ true → r ≡ order_read wanted
        go Less l e = let is : wanted ≡ Ordering.lt = both_words p q h k ∙ rw (← xs, ← ys, compare-lt x y l) in ap order_read (sym is)
        go Equal l e = clash e refl
        go Greater l e = let is : wanted ≡ Ordering.gt = both_words p q h k ∙ rw (← xs, ← ys, compare-gt x y l) in ap order_read (sym is)

    -- and behind the same words the rest does
    pub word-same : (r : cmp.Ordering) → r ≡ nat_cmp x y → is_ne r ≡ false → Decides wanted (i + 8) a b
    word-same r told same = go r (ranked x y r told) same
      where
        go : (r : cmp.Ordering) → MatchOrdering r (x < y) (x ≡ y) (y < x) → is_ne r ≡ false → Decides wanted (i + 8) a b
        go Less l e = clash refl e
        go Equal l e = record { left = both_words p q h k ∙ rw (← xs, ← ys, compare-eq x y l) }
        go Greater l e = clash refl e

  -- where one of them ends, their lengths decide
  pub ends-told : i ≤ length a → i ≤ length b → min (length a) (length b) ≤ i → (r : cmp.Ordering) → r ≡ nat_cmp (length a) (length b)
      → r ≡ order_read wanted
  ends-told h k end r told = go r (ranked (length a) (length b) r told)
    where
      go : (r : cmp.Ordering) → MatchOrdering r (length a < length b) (length a ≡ length b) (length b < length a) → r ≡ order_read wanted
      go Less l =
          let over : length a ≤ i = omega arith in
          let is : wanted ≡ Ordering.lt = d.left ∙ rw (drop_of_length-le a over, drop-cons b i 0 (omega arith)) in
          ap order_read (sym is)
      go Equal l =
          let over : length a ≤ i = omega arith in
          let over' : length b ≤ i = omega arith in
          let is : wanted ≡ Ordering.eq = d.left ∙ rw (drop_of_length-le a over, drop_of_length-le b over') in
          ap order_read (sym is)
      go Greater l =
          let over : length b ≤ i = omega arith in
          let is : wanted ≡ Ordering.gt = d.left ∙ rw (drop-cons a i 0 (omega arith), drop_of_length-le b over) in
          ap order_read (sym is)
