-- The sums over lines are those of the library.
use Prim.Native.Nat.{ℕ}
use mathlib.Core.Path.{◌≡◌, refl, sym, ◌∙◌}
use mathlib.Core.List.{List}
use lib.ListN.{length, length-append}
use Rattle.std.specs.Prelude.{map, sum}
use Rattle.std.proofs.lemmas.List.Recursion.{is_sum_by}
use Rattle.std.proofs.lemmas.List.Sums.{sum-map}
use Rattle.report.specs.Report.{high_word, low_word, ids_of, summed, sum_of}
use Rattle.report.specs.Text.{line_text, lines_text}
use Rattle.report.specs.declared.Line.{Line}
use Rattle.report.specs.declared.Counts.{Counts}

summed-is : (f : Line → ℕ) (ls : List Line) → sum (map f ls) ≡ summed f ls
summed-is f ls = sum-map f ls ∙ sym (is_sum_by (summed f) f refl (λ x xs. refl) ls)

pub sums-made : (ls : List Line) (ids entries intervals high low : ℕ) → ids ≡ sum (map ids_of ls) → entries ≡ sum (map (λ (l : Line). l.entries) ls)
    → intervals ≡ sum (map (λ (l : Line). l.intervals) ls) → high ≡ high_word ids → low ≡ low_word ids
    → ◌≡◌ {A = Counts} (record { entries = entries; intervals = intervals; high = high; low = low }) (sum_of ls)
sums-made ls ids entries intervals high low i e v h l =
    rw (h, l, i ∙ summed-is ids_of ls, e ∙ summed-is (λ x. x.entries) ls, v ∙ summed-is (λ x. x.intervals) ls)

pub lines-long : (ls : List Line) → sum (map (λ l. length (line_text l)) ls) ≡ length (lines_text ls)
unfolding lines_text
lines-long ls =
    sum-map (λ l. length (line_text l)) ls
    ∙ sym (is_sum_by (λ xs. length (lines_text xs)) (λ l. length (line_text l)) refl (λ x xs. length-append (line_text x) (lines_text xs)) ls)
