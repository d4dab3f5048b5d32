-- The text of lines, one after another, and of a report: how long it is, and that it is put.
use Prim.Native.Nat.{ℕ, ◌+◌, ◌<◌, ◌≤◌}
use mathlib.Core.Path.{◌≡◌, refl, ap}
use mathlib.Core.List.{List, [], ◌∷◌, ◌++◌}
use native.Mathlib.Numerals.{add-one}
use native.Mathlib.Omega.{arith}
use borrow.Author.Tests.{eq-eqb, ne_eqb}
use lib.ListN.{length, drop, get_or, length-append, drop_of_length-le}
use lib.Seq.{drop-cons}
use Rattle.std.specs.Prelude.{Ok, Err}
use Rattle.misc.specs.declared.refusal.WriteError.TheVariants.{NoRoom}
use Rattle.misc.specs.Output.{bytes, output_of, answer_of}
use Rattle.misc.specs.Put.{Puts, PutsWhereFits}
use Rattle.misc.specs.declared.put.Put.{Put}
use Rattle.misc.proofs.OutputLaws.{output-fits, output-short}
use Rattle.misc.proofs.PutLaws.{◌and◌, puts-fit}
use Rattle.text.specs.Digits.{decimal}
use Rattle.text.specs.Lines.{newline, space, refused_text}
use Rattle.report.specs.Report.{counts_of, sum_of}
use Rattle.report.specs.Text.{set_word, sum_word, counts_text, line_text, lines_text, report_text}
use Rattle.report.specs.declared.Line.{Line}
use Rattle.report.specs.declared.Counts.{Counts}

-- ---- four numbers after a word

module _ (word : List ℕ) (c : Counts) where
  pub counts-long : length word ≡ 3 → (e i h l : ℕ) → e ≡ length (decimal c.entries) → i ≡ length (decimal c.intervals)
      → h ≡ length (decimal c.high) → l ≡ length (decimal c.low) → 8 + e + i + h + l ≡ length (counts_text word c)
  unfolding counts_text
  counts-long three e i h l p q r s = simp length-append (omega arith)

  pub counts-put : {p p₁ p₂ p₃ p₄ p₅ p₆ : Put} → Puts p word p₁ → PutsWhereFits p₁ (space ∷ decimal c.entries) p₂
      → PutsWhereFits p₂ (space ∷ decimal c.intervals) p₃ → PutsWhereFits p₃ (space ∷ decimal c.high) p₄
      → PutsWhereFits p₄ (space ∷ decimal c.low) p₅ → Puts p₅ (newline ∷ []) p₆ → PutsWhereFits p (counts_text word c) p₆
  unfolding counts_text
  counts-put f e i h w n = puts-fit f and e and i and h and w and puts-fit n

-- the words have three letters each
pub words-alike : (c : Counts) → length (counts_text set_word c) ≡ length (counts_text sum_word c)
unfolding counts_text
words-alike c = simp length-append refl

-- ---- a line

module _ (l : Line) where
  pub set_line : l.refusal ≡ 0 → line_text l ≡ counts_text set_word (counts_of l)
  unfolding line_text
  set_line h = rw (eq-eqb l.refusal 0 h)

  pub refused-line : (l.refusal ≡ 0 → ⊥) → line_text l ≡ refused_text l.refusal
  unfolding line_text
  refused-line h = rw (ne_eqb l.refusal 0 h)

  module _ {p q : Put} where
    pub set-put : l.refusal ≡ 0 → (counts : Counts) → counts ≡ counts_of l → PutsWhereFits p (counts_text set_word counts) q
        → PutsWhereFits p (line_text l) q
    set-put h counts e f = rw (set_line h, ← e) f

    pub refused-put : (l.refusal ≡ 0 → ⊥) → Puts p (refused_text l.refusal) q → PutsWhereFits p (line_text l) q
    refused-put h f = rw (refused-line h) (puts-fit f)

-- ---- lines, one after another

pub more-lines : (lines : List Line) (i : ℕ) (d : Line) → i < length lines
    → lines_text (drop i lines) ≡ line_text (get_or lines i d) ++ lines_text (drop (i + 1) lines)
unfolding lines_text
more-lines lines i d h = rw (add-one, drop-cons lines i d h)

pub no_lines : (lines : List Line) (i : ℕ) → length lines ≤ i → lines_text (drop i lines) ≡ []
unfolding lines_text
no_lines lines i h = rw (drop_of_length-le lines h)

-- ---- the whole text

module _ (ls : List Line) (sum : Counts) (summed : sum ≡ sum_of ls) (len last : ℕ) (p : len ≡ length (lines_text ls))
    (q : last ≡ length (counts_text set_word sum)) (out : List ℕ) where
  text : lines_text ls ++ counts_text sum_word sum ≡ report_text ls
  unfolding report_text
  text = rw summed

  long : len + last ≡ length (report_text ls)
  long = omega (arith, ap length text, length-append (lines_text ls) (counts_text sum_word sum), words-alike sum)

  pub report-short : length out < len + last
      → (Err (NoRoom (len + last)) ≡ answer_of out (bytes (report_text ls))) × (out ≡ output_of out (bytes (report_text ls)))
  report-short h = output-short out (report_text ls) (len + last) long h

  pub report-fits : len + last ≤ length out → {p q r : Put} → p.out.now ≡ out → p.at ≡ 0 → PutsWhereFits p (lines_text ls) q
      → PutsWhereFits q (counts_text sum_word sum) r
      → (Ok (len + last) ≡ answer_of out (bytes (report_text ls))) × (r.out.now ≡ output_of out (bytes (report_text ls)))
  report-fits h {p} {q} {r} whole front lines sums =
      let run : PutsWhereFits p (report_text ls) r = rw text at (lines and sums) in
      let placed = rw (whole, front) at (run.placed (omega (arith, long, ap length whole))) in
      output-fits (omega (arith, long)) (record { holds = placed.holds; ends = omega (arith, long) })
