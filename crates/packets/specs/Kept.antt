-- Bytes as a record keeps them: in a field of a fixed width, with zeros after them.
use Rattle.std.specs.Prelude.{ℕ, ◌-◌, List, ◌++◌, length, take, replicate}

unfoldable pub padded : ℕ → List ℕ → List ℕ
padded width bs = bs ++ replicate (width - length bs) 0

-- the first of them, as many as the field holds
abbrev pub kept : ℕ → List ℕ → List ℕ
kept width bs = padded width (take width bs)
