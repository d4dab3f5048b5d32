-- Laws of a report as bytes (`specs/FlatReport.antt`): what is read from it, and what the calls over it answer and leave.
use Prim.Native.Nat.{ℕ, suc, ◌+◌, ◌-◌, ◌*◌, ◌<◌, ◌≤◌}
use mathlib.Core.Path.{◌≡◌, refl, sym, ap, ◌∙◌}
use mathlib.Core.List.{List, [], ◌∷◌, ◌++◌, append-nil, append_assoc}
use native.Mathlib.Omega.{arith}
use Rattle.std.proofs.Common.{MutBor}
use lib.ListN.{length, take, set, length-set, length-append}
use lib.Seq.{take_all}
use lib.Dec.{eqb}
use borrow.Author.Tests.{eq-eqb, ne_eqb, lt-ltb, le-ltb, eqb-true, eqb-false}
use Rattle.misc.specs.Output.{answer_of, output_of, bytes}
use Rattle.misc.specs.Put.{Puts, PutsWhereFits}
use Rattle.misc.specs.declared.put.Put.{Put}
use Rattle.std.specs.Prelude.{Result, Ok, Err}
use Rattle.misc.specs.Refusal.{number, too_long, not_writable}
use Rattle.misc.specs.declared.refusal.Refusal.{Refusal}
use Rattle.misc.specs.declared.refusal.WriteError.{WriteError}
use Rattle.misc.specs.declared.refusal.WriteError.TheVariants.{Refused}
use Rattle.misc.specs.Parse.{part}
use Rattle.misc.specs.Le.{le_bytes, number_at}
use Rattle.misc.proofs.ParseLaws as parse-laws
use Rattle.misc.proofs.ParseLaws.{ok-err}
use Rattle.misc.proofs.LeLaws.{length-le_bytes}
use Rattle.misc.proofs.OutputLaws.{length-written, output-refused}
use Rattle.misc.proofs.PutLaws.{puts-fit}
use Rattle.packets.proofs.Tests.{split}
use Rattle.gtid_sets.specs.Lent.{lent_set}
use Rattle.report.specs.Report.{refused_line, line_of, max_sets, lines_of, sum_of}
use Rattle.report.specs.Text.{report_text}
use Rattle.report.specs.declared.Line.{Line}
use Rattle.report.specs.declared.Counts.{Counts}
use Rattle.report.specs.declared.Report.{Report}
use Rattle.report.proofs.BuiltLaws.{take-stored}
use Rattle.abi.specs.FlatReport.{flat_line, line_in, lines_at, report_in, flat_adds, with_line_in, flat_leaves, flat_refusal, flat_sum, flat_text, room_for}

pub length-line : (l : Line) → length (flat_line l) ≡ 21
unfolding flat_line
length-line l = simp (length-append, length-le_bytes)

-- ---- reading

-- some lines are read, and stand at the front
pub record Reading (s : List ℕ) (lines : List Line) (i : ℕ) : Type 0 where
  pub few : i ≤ 64
  pub room : length lines ≡ 64
  pub all : lines_at 64 s 8 ≡ take i lines ++ lines_at (64 - i) s (8 + 21 * i)

pub reading-none : (s : List ℕ) (lines : List Line) → length lines ≡ 64 → Reading s lines 0
reading-none s lines e = record { few = omega arith; room = e; all = refl }

module _ (s : List ℕ) (lines : List Line) (i : ℕ) (g : Reading s lines i) where
  pub reading-all : i ≡ 64 → lines ≡ lines_at 64 s 8
  reading-all e =
      let room = g.room in
      let none : lines_at (64 - i) s (8 + 21 * i) ≡ [] = ap (λ (n : ℕ). lines_at (64 - n) s (8 + 21 * n)) e in
      let whole : take i lines ≡ lines = take_all i lines (omega arith) in
      sym (g.all ∙ rw (none, whole) (append-nil lines))

  pub reading-turn : i < 64 → (n : ℕ) → n ≡ 21 → (l : Line) → l ≡ line_in (part s (8 + 21 * i) n) → Reading s (set lines i l) (i + 1)
  reading-turn h n long l is =
      let told : l ≡ line_in (part s (8 + 21 * i) 21) = is ∙ ap (λ (m : ℕ). line_in (part s (8 + 21 * i) m)) long in
      let room = g.room in
      let left : 64 - i ≡ suc (64 - (i + 1)) = omega arith in
      let place : 8 + 21 * i + 21 ≡ 8 + 21 * (i + 1) = omega arith in
      record {
        few = omega arith;
        room = rw (length-set lines i l) room;
        all = g.all ∙ rw (left, ← told, take-stored lines i l (omega arith), place)
            (sym (append_assoc (take i lines) (l ∷ []) (lines_at (64 - (i + 1)) s (8 + 21 * (i + 1)))));
      }

pub report-read : (s : List ℕ) (lines : List Line) (n : ℕ) → n ≡ number_at s 0 → lines ≡ lines_at 64 s 8
    → ◌≡◌ {A = Report} (record { sets = n; lines = lines }) (report_in s)
unfolding report_in
report-read s lines n e h = rw (e, h)

-- ---- whether there is a place for one line more

same-err : {r x : Refusal} → ◌≡◌ {A = Result (Unit {0}) Refusal} (Err r) (Err x) → r ≡ x
same-err e = cc

module _ (bs : List ℕ) where
  pub no-report : (length bs ≡ 1352 → ⊥) → Err not_writable ≡ room_for bs
  no-report h = rw (ne_eqb (length bs) 1352 h)

  pub no_place : length bs ≡ 1352 → 64 ≤ number_at bs 0 → Err too_long ≡ room_for bs
  unfolding max_sets
  no_place e h = rw (eq-eqb (length bs) 1352 e, le-ltb (number_at bs 0) 64 h)

  pub a-place : length bs ≡ 1352 → number_at bs 0 < 64 → Ok tt ≡ room_for bs
  unfolding max_sets
  a-place e h = rw (eq-eqb (length bs) 1352 e, lt-ltb (number_at bs 0) 64 h)

  -- each way that it comes out
  pub place-cases : {P : Type 0} → ((length bs ≡ 1352 → ⊥) → P) → (length bs ≡ 1352 → 64 ≤ number_at bs 0 → P)
      → (length bs ≡ 1352 → number_at bs 0 < 64 → P) → P
  place-cases none full free = split (eqb (length bs) 1352)
      (λ h. parse-laws.split 64 (number_at bs 0) (full (eqb-true (length bs) 1352 h)) (free (eqb-true (length bs) 1352 h)))
      (λ h. none (eqb-false (length bs) 1352 h))

  pub place-there : Ok tt ≡ room_for bs → (length bs ≡ 1352) × (number_at bs 0 < 64)
  place-there told = place-cases
      (λ none. absurd (ok-err (told ∙ sym (no-report none))))
      (λ e full. absurd (ok-err (told ∙ sym (no_place e full))))
      (λ e free. (e, free))

  -- ---- what adding a set answers and leaves

  module _ (set : List ℕ) where
    pub adds-here : length bs ≡ 1352 → number_at bs 0 < 64
        → (flat_adds bs set ≡ line_of (lent_set set)) × (flat_leaves bs set ≡ with_line_in bs (line_of (lent_set set)))
    unfolding max_sets flat_adds flat_leaves report_in
    adds-here e h = rw (eq-eqb (length bs) 1352 e, lt-ltb (number_at bs 0) 64 h) (refl, refl)

    pub adds_none : {r : Refusal} → Err r ≡ room_for bs → (flat_adds bs set ≡ refused_line (number r)) × (flat_leaves bs set ≡ bs)
    unfolding max_sets flat_adds flat_leaves report_in
    adds_none {r} told = place-cases
        (λ none.
        let why : r ≡ not_writable = same-err (told ∙ sym (no-report none)) in
        rw (why, ne_eqb (length bs) 1352 none) (refl, refl))
        (λ e full.
        let why : r ≡ too_long = same-err (told ∙ sym (no_place e full)) in
        rw (why, eq-eqb (length bs) 1352 e, le-ltb (number_at bs 0) 64 full) (refl, refl))
        (λ e free. absurd (ok-err (a-place e free ∙ sym told)))

    pub kept-told : Ok tt ≡ room_for bs → (l : Line) → l ≡ line_of (lent_set set) → (next : List ℕ) → next ≡ with_line_in bs l
        → (l ≡ flat_adds bs set) × (next ≡ flat_leaves bs set)
    kept-told told l is next made =
        let (e, free) = place-there told in
        let (line, leaves) = adds-here e free in
        (is ∙ sym line, made ∙ ap (with_line_in bs) is ∙ sym leaves)

-- a line is put behind the others, and counted
pub line_kept : {report : MutBor (List ℕ)} (l : Line) (n : ℕ) → length report.now ≡ 1352 → n ≡ number_at report.now 0 → n < 64 → {p q : Put}
    → PutsWhereFits (record { out = report; at = 8 + 21 * n }) (flat_line l) p → Puts (record { out = p.out; at = 0 }) (le_bytes 8 (n + 1)) q
    → q.out.now ≡ with_line_in report.now l
line_kept {report} l n e told h {p} {q} line count =
    let bs = report.now in
    let first = line.placed (omega (arith, length-line l)) in
    let same : length p.out.now ≡ length bs = ap length first.holds ∙ length-written bs (8 + 21 * n) (flat_line l) in
    let last = (puts-fit count).placed (omega (arith, length-le_bytes 8 (n + 1))) in
    last.holds ∙ rw (first.holds, told)

-- ---- the sums and the text

module _ (bs : List ℕ) where
  module _ (none : length bs ≡ 1352 → ⊥) where
    pub sum-none : (12 ≡ flat_refusal bs)
        × ((0 ≡ (flat_sum bs).entries) × ((0 ≡ (flat_sum bs).intervals) × ((0 ≡ (flat_sum bs).high) × (0 ≡ (flat_sum bs).low))))
    unfolding flat_refusal flat_sum
    sum-none = rw (ne_eqb (length bs) 1352 none) (refl, (refl, (refl, (refl, refl))))

    pub text-none : (out : List ℕ) → (Err (Refused not_writable) ≡ answer_of out (flat_text bs)) × (out ≡ output_of out (flat_text bs))
    unfolding flat_text
    text-none out = rw (ne_eqb (length bs) 1352 none) (output-refused out not_writable)

  module _ (e : length bs ≡ 1352) where
    pub sum-there : (sum : Counts) → sum ≡ sum_of (lines_of (report_in bs)) → (0 ≡ flat_refusal bs) × ((sum.entries ≡ (flat_sum bs).entries)
        × ((sum.intervals ≡ (flat_sum bs).intervals) × ((sum.high ≡ (flat_sum bs).high) × (sum.low ≡ (flat_sum bs).low))))
    unfolding flat_refusal flat_sum
    sum-there sum told = rw (eq-eqb (length bs) 1352 e, told) (refl, (refl, (refl, (refl, refl))))

    pub text-there : (out out' : List ℕ) (w : Result ℕ WriteError) → (w ≡ answer_of out (bytes (report_text (lines_of (report_in bs)))))
        × (out' ≡ output_of out (bytes (report_text (lines_of (report_in bs)))))
        → (w ≡ answer_of out (flat_text bs)) × (out' ≡ output_of out (flat_text bs))
    unfolding flat_text
    text-there out out' w told = rw (eq-eqb (length bs) 1352 e) told

    -- what the calls speak of then
    pub flat-there : (flat_sum bs ≡ sum_of (lines_of (report_in bs))) × (flat_text bs ≡ bytes (report_text (lines_of (report_in bs)))) × (flat_refusal bs ≡ 0)
    unfolding flat_refusal flat_sum flat_text
    flat-there = rw (eq-eqb (length bs) 1352 e) (refl, refl, refl)
