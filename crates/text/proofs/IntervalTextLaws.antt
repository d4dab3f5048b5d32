-- Laws of the text of an interval, by whether its end comes right after its start: how long it is, and how it is put.
use mathlib.Core.Path.{◌≡◌, ap}
use mathlib.Core.Bool.{Bool, true, false}
use mathlib.Core.List.{List, [], ◌∷◌, append-nil}
use Prim.Native.Nat.{ℕ, ◌+◌, ◌-◌, ◌≤◌, ◌<◌}
use native.Mathlib.Omega.{arith}
use lib.ListN.{length, set, length-append}
use lib.Dec.{eqb}
use Rattle.misc.specs.Pick.{pick}
use Rattle.text.specs.Digits.{decimal}
use Rattle.text.specs.Keys.{colon, dash}
use Rattle.text.specs.Intervals.{last_text, interval_text}
use Rattle.text.specs.Inside.{Before}
use Rattle.text.proofs.FillLaws.{before-one, before-run}
use Rattle.text.proofs.DigitLaws.{decimal-most}

module _ (start end : ℕ) where
  pub no_last : eqb (start + 1) end ≡ true → last_text start end ≡ []
  no_last h = rw h

  some-last : eqb (start + 1) end ≡ false → last_text start end ≡ dash ∷ decimal (end - 1)
  some-last h = rw h

  module _ (n : ℕ) (counted : n ≡ length (decimal start)) where
    pub one-length : eqb (start + 1) end ≡ true → 1 + n ≡ length (interval_text start end)
    one-length h = rw (no_last h) (omega (arith, ap length (append-nil (colon ∷ decimal start))))

    pub more-length : eqb (start + 1) end ≡ false → (m : ℕ) → m ≡ length (decimal (end - 1)) → 1 + n + 1 + m ≡ length (interval_text start end)
    more-length h m also-counted =
        rw (some-last h) (omega (arith, length-append (colon ∷ decimal start) (dash ∷ decimal (end - 1))))

-- a dash and at most twenty digits
last_within : (next : Bool) (last : ℕ) → length (pick next [] (dash ∷ decimal last)) ≤ 21
last_within true last = omega arith
last_within false last = omega (arith, decimal-most last)

pub last-most : (start end : ℕ) → length (last_text start end) ≤ 21
last-most start end = last_within (eqb (start + 1) end) (end - 1)

-- ---- putting it, from its end to its beginning

module _ (start end : ℕ) {l l₁ : List ℕ} {at first : ℕ} where
  pub last-put : eqb (start + 1) end ≡ false → (last : ℕ) → last ≡ end - 1 → Before l at (decimal last) l₁ first → 0 < first → first ≤ length l₁
      → Before l at (last_text start end) (set l₁ (first - 1) dash) (first - 1)
  last-put h last e p some inside = rw (some-last start end h, ← e) (before-one p dash some inside)

  pub interval-put : {l₂ : List ℕ} {from : ℕ} → Before l at (last_text start end) l₁ first → Before l₁ first (decimal start) l₂ from → 0 < from
      → from ≤ length l₂ → Before l at (interval_text start end) (set l₂ (from - 1) colon) (from - 1)
  interval-put p q some inside = before-one (before-run p q) colon some inside
