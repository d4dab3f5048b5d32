-- The text of an interval: a colon, its first number, and its last after a dash unless that is the first.
use Rattle.std.specs.Prelude.{ℕ, ◌+◌, ◌-◌, List, [], ◌∷◌, ◌++◌, eqb}
use Rattle.misc.specs.Pick.{pick}
use Rattle.text.specs.Digits.{decimal}
use Rattle.text.specs.Keys.{colon, dash}

abbrev pub last_text : ℕ → ℕ → List ℕ
last_text start end = pick (eqb (start + 1) end) [] (dash ∷ decimal (end - 1))

abbrev pub interval_text : ℕ → ℕ → List ℕ
interval_text start end = (colon ∷ decimal start) ++ last_text start end
