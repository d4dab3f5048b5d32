-- Adding a set to a report's bytes adds it to the report that they are: a line comes back from its bytes, and what stands elsewhere is as it was.
use Prim.Native.Nat.{ℕ, zero, suc, ◌+◌, ◌*◌, ◌^◌, ◌<◌, ◌≤◌}
use mathlib.Core.Path.{◌≡◌, refl, sym, ap, ◌∙◌}
use mathlib.Core.List.{List, [], ◌∷◌, ◌++◌, append_assoc, append-nil}
use native.Mathlib.Nat.{zero-add}
use native.Mathlib.Omega.{arith}
use lib.ListN.{length, take, drop, set, replicate}
use lib.Seq.{length-take-le, take-add, take-set-le, drop-set-lt, drop_at}
use Rattle.misc.specs.Parse.{part, bytes_at}
use Rattle.misc.specs.Le.{le_bytes, le_at, le_of, number_at}
use Rattle.misc.specs.Output.{written}
use Rattle.misc.proofs.ParseLaws.{split}
use Rattle.misc.proofs.LeLaws.{length-le_bytes}
use Rattle.misc.proofs.OutputLaws.{length-written, written_is}
use Rattle.gtid_sets.specs.Lent.{lent_set}
use Rattle.misc.proofs.Places.{part-there}
use Rattle.report.specs.Report.{refused_line, line_of, with_line, added, new_report}
use Rattle.report.specs.declared.Line.{Line}
use Rattle.report.specs.declared.Added.{Added}
use Rattle.report.proofs.LineLaws.{one_more, no_more}
use Rattle.report.proofs.BuiltLaws.{line-modest}
use Rattle.abi.specs.Flat.{four_at}
use Rattle.abi.specs.FlatReport.{flat_line, line_in, lines_at, report_in, flat_adds, with_line_in, flat_leaves}
use Rattle.abi.proofs.FlatBack.{byte_next, number-next}
use Rattle.abi.proofs.FlatReportLaws.{length-line, no_place, adds-here, adds_none}

-- ---- a line

pub line-back : (l : Line) → l.entries < 2 ^ 32 → l.intervals < 2 ^ 32 → l.high < 2 ^ 32 → l.low < 2 ^ 64 → line_in (flat_line l) ≡ l
unfolding flat_line line_in four_at number_at
line-back l e i h w =
    let s = flat_line l in
    let fourth = le_bytes 8 l.low ++ [] in
    let third = le_bytes 4 l.high ++ fourth in
    let second = le_bytes 4 l.intervals ++ third in
    let first = le_bytes 4 l.entries ++ second in
    let whole : s ≡ l.refusal ∷ first = simp (append_assoc, append-nil) refl in
    let (p₀, q₀) = byte_next s 0 l.refusal first whole in
    let (p₁, q₁) = number-next s 1 4 l.entries second (omega arith) (omega arith) q₀ in
    let (p₂, q₂) = number-next s 5 4 l.intervals third (omega arith) (omega arith) q₁ in
    let (p₃, q₃) = number-next s 9 4 l.high fourth (omega arith) (omega arith) q₂ in
    let (p₄, q₄) = number-next s 13 8 l.low [] (omega arith) (omega arith) q₃ in
    rw (p₀, p₁, p₂, p₃, p₄)

-- ---- bytes that are written at a place, and those elsewhere

drop-written : (l : List ℕ) (at q : ℕ) (x : List ℕ) → at + length x ≤ q → drop q (written l at x) ≡ drop q l
unfolding written
drop-written l at q [] h = refl
drop-written l at q (b ∷ x) h = drop-written (set l at b) (suc at) q x (omega arith) ∙ drop-set-lt q l at b (omega arith)

take-written : (l : List ℕ) (at q : ℕ) (x : List ℕ) → q ≤ at → take q (written l at x) ≡ take q l
unfolding written
take-written l at q [] h = refl
take-written l at q (b ∷ x) h = take-written (set l at b) (suc at) q x (omega arith) ∙ take-set-le q l at b h

-- a part lies in the front that ends with it
part-front : (s : List ℕ) (q n : ℕ) → q ≤ length s → drop q (take (q + n) s) ≡ part s q n
part-front s q n h = ap (drop q) (take-add q n s) ∙ drop_at (take q s) (part s q n) q (length-take-le q s h)

module _ (l : List ℕ) (at : ℕ) (x : List ℕ) (q n : ℕ) where
  part-behind : at + length x ≤ q → part (written l at x) q n ≡ part l q n
  part-behind h = ap (take n) (drop-written l at q x h)

  part-before : q + n ≤ at → at ≤ length l → part (written l at x) q n ≡ part l q n
  part-before h inside =
      sym (part-front (written l at x) q n (omega (arith, length-written l at x))) ∙ ap (drop q) (take-written l at (q + n) x h)
      ∙ part-front l q n (omega arith)

written-front : (l x : List ℕ) → length x ≤ length l → drop 0 (written l 0 x) ≡ x ++ drop (length x) l
written-front l x h = written_is l 0 x (omega arith) ∙ rw zero-add

part-written : (l : List ℕ) (at : ℕ) (x : List ℕ) → at + length x ≤ length l → part (written l at x) at (length x) ≡ x
part-written l at x h =
    part-there (written l at x) at (length x) x (drop (at + length x) l)
    (ap (drop at) (written_is l at x h ∙ append_assoc (take at l) x (drop (at + length x) l))
    ∙ drop_at (take at l) (x ++ drop (at + length x) l) at (length-take-le at l (omega arith)))
    refl

-- ---- the lines of a report

module _ (bs : List ℕ) (l : Line) (long : length bs ≡ 1352) (free : number_at bs 0 < 64) (back : line_in (flat_line l) ≡ l) where
  abbrev place : ℕ
  place = 8 + 21 * number_at bs 0

  abbrev first : List ℕ
  first = written bs place (flat_line l)

  eight : length (le_bytes 8 (number_at bs 0 + 1)) ≡ 8
  eight = length-le_bytes 8 (number_at bs 0 + 1)

  -- the count stands before every line
  behind-count : (q : ℕ) → 8 ≤ q → part (with_line_in bs l) q 21 ≡ part first q 21
  behind-count q h = part-behind first 0 (le_bytes 8 (number_at bs 0 + 1)) q 21 (omega (arith, eight))

  line-here : line_in (part (with_line_in bs l) place 21) ≡ l
  line-here =
      let there : part first place 21 ≡ flat_line l =
      ap (part first place) (sym (length-line l)) ∙ part-written bs place (flat_line l) (omega (arith, length-line l)) in
      ap line_in (behind-count place (omega arith) ∙ there) ∙ back

  line_before : (q : ℕ) → 8 ≤ q → q + 21 ≤ place → part (with_line_in bs l) q 21 ≡ part bs q 21
  line_before q h k = behind-count q h ∙ part-before bs place (flat_line l) q 21 k (omega arith)

  line-behind : (q : ℕ) → place + 21 ≤ q → part (with_line_in bs l) q 21 ≡ part bs q 21
  line-behind q h = behind-count q (omega arith) ∙ part-behind bs place (flat_line l) q 21 (omega (arith, length-line l))

  lines-behind : (n q : ℕ) → place + 21 ≤ q → lines_at n (with_line_in bs l) q ≡ lines_at n bs q
  lines-behind zero q h = refl
  lines-behind (suc n) q h = rw (line-behind q h, lines-behind n (q + 21) (omega arith))

  lines-with : (n j q : ℕ) → 8 ≤ q → q + 21 * j ≡ place → lines_at n (with_line_in bs l) q ≡ set (lines_at n bs q) j l
  lines-with zero j q h e = refl
  lines-with (suc n) zero q h e =
      let here : q ≡ place = omega arith in
      rw (ap (λ (m : ℕ). line_in (part (with_line_in bs l) m 21)) here ∙ line-here, lines-behind n (q + 21) (omega arith))
  lines-with (suc n) (suc j) q h e = rw (line_before q h (omega arith), lines-with n j (q + 21) (omega arith) (omega arith))

  count-more : number_at (with_line_in bs l) 0 ≡ number_at bs 0 + 1
  unfolding number_at
  count-more =
      (number-next (with_line_in bs l) 0 8 (number_at bs 0 + 1) (drop (length (le_bytes 8 (number_at bs 0 + 1))) first) (omega arith) (omega arith)
      (written-front first (le_bytes 8 (number_at bs 0 + 1)) (omega (arith, eight, length-written bs place (flat_line l))))).0

  report-with : report_in (with_line_in bs l) ≡ (with_line (report_in bs) l).report
  unfolding report_in
  report-with = rw (count-more, lines-with 64 (number_at bs 0) 8 (omega arith) refl)

  length-with : length (with_line_in bs l) ≡ 1352
  length-with =
      length-written first 0 (le_bytes 8 (number_at bs 0 + 1)) ∙ length-written bs place (flat_line l) ∙ long

-- the archive's call does to the report in its bytes what the library's does
pub record AddsAlike (bs set : List ℕ) : Type 0 where
  pub line : flat_adds bs set ≡ (added (report_in bs) set).line
  pub report : report_in (flat_leaves bs set) ≡ (added (report_in bs) set).report
  pub long : length (flat_leaves bs set) ≡ 1352

pub adds-alike : (bs set : List ℕ) → length bs ≡ 1352 → AddsAlike bs set
unfolding report_in
adds-alike bs set long = split 64 (number_at bs 0)
    (λ full.
    let (line, leaves) = adds_none bs set (no_place bs long full) in
    let same = no_more (report_in bs) set (refused_line 11) full refl in
    record {
      line = line ∙ ap (λ (a : Added). a.line) same;
      report = ap report_in leaves ∙ ap (λ (a : Added). a.report) same;
      long = ap length leaves ∙ long;
    })
    (λ free.
    let (line, leaves) = adds-here bs set long free in
    let l = line_of (lent_set set) in
    let m = line-modest set in
    let same = one_more (report_in bs) set l free refl in
    let back = line-back l (omega (arith, m.entries)) (omega (arith, m.intervals)) (omega (arith, m.ids)) m.low in
    record {
      line = line ∙ ap (λ (a : Added). a.line) same;
      report = ap report_in leaves ∙ report-with bs l long free back ∙ ap (λ (a : Added). a.report) same;
      long = ap length leaves ∙ length-with bs l long free back;
    })

-- a new report is all zeros
pub zeros-new : report_in (replicate 1352 0) ≡ new_report
unfolding report_in line_in four_at number_at le_at bytes_at le_of
zeros-new = refl
