-- The text of a report: a line for each set and, last, one for the sums.
use Rattle.std.specs.Prelude.{ℕ, ◌+◌, ◌*◌, List, [], ◌∷◌, ◌++◌, eqb}
use Rattle.misc.specs.Pick.{pick}
use Rattle.text.specs.Digits.{decimal}
use Rattle.text.specs.Lines.{newline, space, refused_text}
use Rattle.report.specs.Report.{max_sets, counts_of, sum_of}
use Rattle.report.specs.declared.Line.{Line}
use Rattle.report.specs.declared.Counts.{Counts}

-- `set`
abbrev pub set_word : List ℕ
set_word = 115 ∷ 101 ∷ 116 ∷ []

-- `sum`
abbrev pub sum_word : List ℕ
sum_word = 115 ∷ 117 ∷ 109 ∷ []

-- a word, and four numbers after single spaces
unfoldable pub counts_text : List ℕ → Counts → List ℕ
counts_text word c =
    word ++ (space ∷ decimal c.entries) ++ (space ∷ decimal c.intervals) ++ (space ∷ decimal c.high) ++ (space ∷ decimal c.low)
    ++ (newline ∷ [])

-- a set's line, or `refused` and the number
unfoldable pub line_text : Line → List ℕ
line_text l = pick (eqb l.refusal 0) (counts_text set_word (counts_of l)) (refused_text l.refusal)

unfoldable pub lines_text : List Line → List ℕ
lines_text [] = []
lines_text (l ∷ ls) = line_text l ++ lines_text ls

unfoldable pub report_text : List Line → List ℕ
report_text ls = lines_text ls ++ counts_text sum_word (sum_of ls)

-- the longest: 38 bytes for each set (`set`, 3, 4, 3 and 20 digits after spaces, and the newline) and 44 for the sums (5, 6, 5 and 20 digits)
unfoldable pub longest_report : ℕ
longest_report = max_sets * 38 + 44
