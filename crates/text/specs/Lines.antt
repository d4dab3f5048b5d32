-- What ends a line and parts its words, and the line that says a refusal and its number.
use Rattle.std.specs.Prelude.{ℕ, List, [], ◌∷◌, ◌++◌}
use Rattle.text.specs.Digits.{decimal}

abbrev pub newline : ℕ
newline = 10

abbrev pub space : ℕ
space = 32

-- `refused `
abbrev pub refused_word : List ℕ
refused_word = 114 ∷ 101 ∷ 102 ∷ 117 ∷ 115 ∷ 101 ∷ 100 ∷ 32 ∷ []

-- a refusal and its number
unfoldable pub refused_text : ℕ → List ℕ
refused_text n = refused_word ++ decimal n ++ (newline ∷ [])
