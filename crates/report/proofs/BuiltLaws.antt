-- Reports over sets: their lines are those of the first 64 sets, and no report over sets is longer than `longest_report`.
use Prim.Native.Nat.{ℕ, suc, min, ◌+◌, ◌-◌, ◌*◌, ◌^◌, ◌<◌, ◌≤◌}
use mathlib.Core.Path.{◌≡◌, refl, sym, ap, ◌∙◌}
use mathlib.Core.List.{List, [], ◌∷◌, ◌++◌, append-nil, append_assoc}
use native.Mathlib.Nat.{zero-add}
use native.Mathlib.Numerals.{add-one}
use native.Mathlib.Omega.{arith}
use lib.ListN.{length, take, set, length-set, length-replicate, length-append, length-take}
use lib.Seq.{take-nil, take-suc, take-set-le, get_or-set_same}
use Rattle.misc.proofs.ParseLaws.{split}
use Rattle.gtid_sets.specs.Lent.{Lent, form, unfit, lent_set}
use Rattle.gtid_sets.specs.Total.{total}
use Rattle.gtid_sets.proofs.LimitLaws.{max_entries-is, max_intervals-is, limits-says}
use Rattle.gtid_sets.proofs.LentLaws.{lent_is}
use Rattle.gtid_sets.proofs.TotalLaws.{total-most}
use Rattle.text.proofs.DigitLaws.{decimal-short}
use Rattle.text.proofs.LineLaws.{refused-long}
use Rattle.report.specs.Report.{refused_line, line_of, ids_of, counts_of, max_sets, new_report, lines_of, with_line, added, summed, sum_of}
use Rattle.report.specs.Built.{with_sets, report_over, lines_for}
use Rattle.report.specs.Text.{set_word, sum_word, counts_text, line_text, lines_text, report_text, longest_report}
use Rattle.report.specs.declared.Line.{Line}
use Rattle.report.specs.declared.Counts.{Counts}
use Rattle.report.specs.declared.Report.{Report}
use Rattle.report.specs.declared.Added.{Added}
use Rattle.report.proofs.WideLaws.{words, low_small}
use Rattle.report.proofs.LineLaws.{one_more, no_more}
use Rattle.report.proofs.TextLaws.{counts-long, set_line, refused-line}

-- ---- the lines

-- a report with room for 64 lines that is over no more sets
pub record Sound (r : Report) : Type 0 where
  pub room : length r.lines ≡ 64
  pub few : r.sets ≤ 64

new-sound : Sound new_report
new-sound = record { room = length-replicate 64 (refused_line 0); few = omega arith }

sound-lines : (r : Report) → Sound r → lines_of r ≡ take r.sets r.lines
unfolding max_sets
sound-lines r s =
    let few = s.few in
    let all : min r.sets 64 ≡ r.sets = omega arith in
    ap (λ (n : ℕ). take n r.lines) all

-- a line put behind those at the front
pub take-stored : (lines : List Line) (i : ℕ) (l : Line) → i < length lines → take (i + 1) (set lines i l) ≡ take i lines ++ (l ∷ [])
take-stored lines i l h =
    let still : i < length (set lines i l) = rw (length-set lines i l) h in
    rw (add-one, take-suc (set lines i l) i (refused_line 0) still, take-set-le i lines i l (omega arith), get_or-set_same lines i l (refused_line 0) h)

module _ (r : Report) (s : Sound r) where
  module _ (l : Line) (h : r.sets < 64) where
    more-sound : Sound (with_line r l).report
    more-sound = record { room = rw (length-set r.lines r.sets l) s.room; few = omega arith }

    line-more : lines_of (with_line r l).report ≡ lines_of r ++ (l ∷ [])
    line-more =
        sound-lines (with_line r l).report more-sound ∙ take-stored r.lines r.sets l (omega (arith, s.room))
        ∙ ap (λ (ls : List Line). ls ++ (l ∷ [])) (sym (sound-lines r s))

  -- what adding some bytes leaves
  pub added_more : (bs : List ℕ) → r.sets < 64 → (added r bs).report ≡ (with_line r (line_of (lent_set bs))).report
  added_more bs h = ap (λ (a : Added). a.report) (sym (one_more r bs (line_of (lent_set bs)) h refl))

  pub added_none : (bs : List ℕ) → 64 ≤ r.sets → (added r bs).report ≡ r
  added_none bs h = ap (λ (a : Added). a.report) (sym (no_more r bs (refused_line 11) h refl))

-- what a report becomes by some sets more
pub record Becomes (r : Report) (sets : List (List ℕ)) (next : Report) : Type 0 where
  pub sound : Sound next
  pub over : next.sets ≡ min (r.sets + length sets) 64
  pub lines : lines_of next ≡ lines_of r ++ lines_for (take (64 - r.sets) sets)

pub becomes : (r : Report) → Sound r → (sets : List (List ℕ)) → Becomes r sets (with_sets r sets)
becomes r s [] =
    let few = s.few in
    let none : lines_for (take (64 - r.sets) []) ≡ [] = ap lines_for (take-nil (64 - r.sets)) in
    record { sound = s; over = omega arith; lines = rw none (sym (append-nil (lines_of r))) }
becomes r s (bs ∷ sets) = split 64 r.sets
    (λ full.
    let few = s.few in
    let zero_left : 64 - r.sets ≡ 0 = omega arith in
    let rest = becomes r s sets in
    rw (added_none r s bs full)
    (record { sound = rest.sound; over = omega (arith, rest.over); lines = rw zero_left (rw zero_left at rest.lines) }))
    (λ more.
    let l = line_of (lent_set bs) in
    let one_left : 64 - r.sets ≡ suc (64 - (r.sets + 1)) = omega arith in
    let rest = becomes (with_line r l).report (more-sound r s l more) sets in
    rw (added_more r s bs more)
    (record {
      sound = rest.sound;
      over = omega (arith, rest.over);
      lines = rest.lines ∙ rw (line-more r s l more, one_left) (append_assoc (lines_of r) (l ∷ []) (lines_for (take (64 - (r.sets + 1)) sets)));
    }))

module _ (sets : List (List ℕ)) where
  over-all : Becomes new_report sets (report_over sets)
  over-all = becomes new_report new-sound sets

  pub over-sound : Sound (report_over sets)
  over-sound = over-all.sound

  pub over-count : (report_over sets).sets ≡ min (length sets) 64
  over-count = over-all.over ∙ rw (zero-add (length sets))

  pub over-lines : lines_of (report_over sets) ≡ lines_for (take 64 sets)
  over-lines = over-all.lines ∙ ap (λ (ls : List Line). ls ++ lines_for (take 64 sets)) (sound-lines new_report new-sound)

pub over-more : (first more : List (List ℕ)) (r : Report) → with_sets r (first ++ more) ≡ with_sets (with_sets r first) more
over-more [] more r = refl
over-more (bs ∷ first) more r = over-more first more (added r bs).report

-- ---- the longest

-- the numbers of a set's line, or those of a refusal
pub record Modest (l : Line) : Type 0 where
  pub entries : l.entries ≤ 384
  pub intervals : l.intervals ≤ 2560
  pub ids : ids_of l ≤ (2 ^ 63 - 2) * 384
  pub low : l.low < 2 ^ 64
  pub short : length (line_text l) ≤ 38

counts-short : (word : List ℕ) (c : Counts) → length word ≡ 3 → (e i h : ℕ) → 1 ≤ e → 1 ≤ i → 1 ≤ h → c.entries < 10 ^ e → c.intervals < 10 ^ i
    → c.high < 10 ^ h → c.low < 2 ^ 64 → length (counts_text word c) ≤ 28 + e + i + h
counts-short word c three e i h p q r few some high low =
    let long = counts-long word c three _ _ _ _ refl refl refl refl in
    omega (
      arith,
      long,
      decimal-short e c.entries p few,
      decimal-short i c.intervals q some,
      decimal-short h c.high r high,
      decimal-short 20 c.low (omega arith) (omega arith),
    )

pub line-modest : (bs : List ℕ) → Modest (line_of (lent_set bs))
line-modest bs = go (lent_set bs) refl
  where
    go : (x : Lent) → lent_set bs ≡ x → Modest (line_of x)
    go unfit e =
        let text = refused-line (refused_line 14) (λ h. omega arith) in
        record {
          entries = omega arith;
          intervals = omega arith;
          ids = omega arith;
          low = omega arith;
          short = omega (arith, ap length text, refused-long 14, decimal-short 2 14 (omega arith) (omega arith));
        }
    go (form s) e =
        let l = lent_is bs s e in
        let (few, some) = limits-says s l.limited in
        let most = total-most s l.formed in
        let value = words (total s) in
        let low = low_small (total s) in
        let text = set_line (line_of (form s)) refl in
        record {
          entries = omega (arith, max_entries-is);
          intervals = omega (arith, max_intervals-is);
          ids = omega (arith, max_entries-is);
          low = low;
          short = omega (
            arith,
            ap length text,
            counts-short set_word (counts_of (line_of (form s))) refl 3 4 3 (omega arith) (omega arith) (omega arith)
                (omega (arith, max_entries-is)) (omega (arith, max_intervals-is)) (omega (arith, max_entries-is)) low,
          );
        }

-- so many lines of sets
pub record Months (n : ℕ) (ls : List Line) : Type 0 where
  pub entries : summed (λ l. l.entries) ls ≤ 384 * n
  pub intervals : summed (λ l. l.intervals) ls ≤ 2560 * n
  pub ids : summed ids_of ls ≤ ((2 ^ 63 - 2) * 384) * n
  pub short : length (lines_text ls) ≤ 38 * n

lines-modest : (sets : List (List ℕ)) → Months (length sets) (lines_for sets)
unfolding lines_text
lines-modest [] = record { entries = omega arith; intervals = omega arith; ids = omega arith; short = omega arith }
lines-modest (bs ∷ sets) =
    let l = line-modest bs in
    let rest = lines-modest sets in
    record {
      entries = omega (arith, l.entries, rest.entries);
      intervals = omega (arith, l.intervals, rest.intervals);
      ids = omega (arith, l.ids, rest.ids);
      short = omega (arith, length-append (line_text (line_of (lent_set bs))) (lines_text (lines_for sets)), l.short, rest.short);
    }

pub longest : (sets : List (List ℕ)) → length (report_text (lines_of (report_over sets))) ≤ longest_report
unfolding report_text longest_report max_sets
longest sets =
    let first = take 64 sets in
    let ls = lines_for first in
    let few : length first ≤ 64 = omega (arith, length-take 64 sets) in
    let m = lines-modest first in
    let value = words (summed ids_of ls) in
    let sums = counts-short sum_word (sum_of ls) refl 5 6 5 (omega arith) (omega arith) (omega arith) (omega (arith, m.entries)) (omega (arith, m.intervals))
    (omega (arith, m.ids)) (low_small (summed ids_of ls)) in
    rw (over-lines sets) (omega (arith, length-append (lines_text ls) (counts_text sum_word (sum_of ls)), m.short))
