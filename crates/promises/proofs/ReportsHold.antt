-- Month's end: totals, the report, and the archive's.
use Prim.Native.Nat.{ℕ, ◌+◌, ◌*◌, ◌^◌, ◌<◌, ◌≤◌}
use mathlib.Core.Path.{◌≡◌, refl, sym, ap, subst, ◌∙◌}
use mathlib.Core.Bool.{false}
use mathlib.Core.List.{List, [], ◌∷◌, ◌++◌, append_assoc}
use native.Mathlib.Omega.{arith}
use lib.ListN.{length, take, length-replicate}
use lib.Seq.{take_all, take-append_seam}
use lib.Dec.{eqb}
use borrow.Author.Tests.{ne_eqb, eqb-true, eqb-false}
use Rattle.misc.specs.declared.refusal.Refusal.{Refusal}
use Rattle.misc.specs.Refusal.{number, not_writable}
use Rattle.misc.specs.Output.{refused, bytes}
use Rattle.misc.proofs.ParseLaws as parse-laws
use Rattle.gtid_sets.specs.Limits.{intervals}
use Rattle.gtid_sets.specs.Lent.{Lent, form, unfit, lent_set}
use Rattle.gtid_sets.specs.Total.{total}
use Rattle.gtid_sets.proofs.LentLaws.{lent_is, is-lent}
use Rattle.gtid_sets.proofs.TotalLaws.{total-counts, total-named, part-total, either-total}
use Rattle.report.specs.Report.{high_word, low_word, refused_line, line_of, ids_of, max_sets, lines_of, added, summed, sum_of}
use Rattle.report.specs.Built.{with_sets, report_over, lines_for}
use Rattle.report.specs.Text.{sum_word, counts_text, line_text, lines_text, report_text, longest_report}
use Rattle.report.specs.declared.Line.{Line}
use Rattle.report.specs.declared.Added.{Added}
use Rattle.report.specs.declared.Report.{Report}
use Rattle.report.proofs.WideLaws.{words, low_small, high_is, low-is}
use Rattle.report.proofs.LineLaws.{one_more, no_more}
use Rattle.report.proofs.TextLaws.{set_line, refused-line}
use Rattle.report.proofs.BuiltLaws.{over-count, over-lines, longest}
use Rattle.abi.specs.FlatReport.{report_in, flat_adds, flat_leaves, flat_refusal, flat_sum, flat_text}
use Rattle.abi.proofs.FlatReportLaws.{no-report, no_place, place-cases, adds-here, adds_none, sum-none, flat-there}
use Rattle.abi.proofs.FlatReportBack.{adds-alike, zeros-new}
use Rattle.promises.specs.Exact.{Exactly}
use Rattle.resume_set_laws.specs.History.{lent_number}
use Rattle.promises.specs.Reports.{CountsMembers, lent_sum, no_numbers, Told, AddAnswer, NumbersLine, SetLine, Lines, ReportsExactly, our_report, flat_over}
use Rattle.promises.specs.Reports.{zeros, NoReport, ArchiveReports, Reports}
use Rattle.promises.proofs.Exactly.{judges-exactly, writes-exactly}
use Rattle.promises.proofs.Forces.{WriterRefuses}
use Rattle.promises.proofs.SetsExact.{apart, unfit-fault, fault-unfit}

totals : CountsMembers
totals = record {
  counts = total-counts;
  named = total-named;
  part = part-total;
  twice = λ s t f g. either-total s t f g;
}

-- ---- answers

module _ (set : List ℕ) where
  told-found : (x : Lent) → lent_set set ≡ x → Told set (line_of x)
  told-found unfit e = Told.bad_set (unfit-fault set e)
  told-found (form s) e = Told.counted (lent_is set s e) (sym (words (total s))) (low_small (total s))

  told-forced : (l : Line) → Told set l → line_of (lent_set set) ≡ l
  told-forced l (Told.bad_set {n = n} fault) =
      let (is, none) = fault-unfit set n fault in
      ap line_of none ∙ ap no_numbers (sym is)
  told-forced l (Told.counted {s = s} {high = high} {low = low} laid value small) =
      ap line_of (is-lent set s laid) ∙ rw (← high_is high low (total s) small (sym value), ← low-is high low (total s) small (sym value)) refl

  told-exactly : (l : Line) → Exactly (line_of (lent_set set) ≡ l) (Told set l)
  told-exactly l = (λ e. subst (Told set) e (told-found (lent_set set) refl), told-forced l)

module _ (before : List (List ℕ)) (set : List ℕ) where
  answer-full : 64 ≤ length before → our_report.answers before set ≡ no_numbers 11
  answer-full h = ap (λ (a : Added). a.line) (sym (no_more (report_over before) set (refused_line 11) (omega (arith, over-count before)) refl))

  answer-line : length before < 64 → our_report.answers before set ≡ line_of (lent_set set)
  answer-line h =
      ap (λ (a : Added). a.line) (sym (one_more (report_over before) set (line_of (lent_set set)) (omega (arith, over-count before)) refl))

  answer-found : AddAnswer before set (our_report.answers before set)
  answer-found = parse-laws.split 64 (length before)
      (λ h. rw (answer-full h) (AddAnswer.full h))
      (λ h. rw (answer-line h) (AddAnswer.read h ((told-exactly set (line_of (lent_set set))).0 refl)))

  answer-forced : (l : Line) → AddAnswer before set l → our_report.answers before set ≡ l
  answer-forced l (AddAnswer.full h) = answer-full h
  answer-forced l (AddAnswer.read h told) = answer-line h ∙ (told-exactly set l).1 told

  answers-exactly : (l : Line) → Exactly (our_report.answers before set ≡ l) (AddAnswer before set l)
  answers-exactly l = (λ e. rw e at answer-found, answer-forced l)

-- ---- sums

sum_entries : (sets : List (List ℕ)) → summed (λ l. l.entries) (lines_for sets) ≡ lent_sum length sets
sum_entries [] = refl
sum_entries (set ∷ sets) = rw (one (lent_set set), sum_entries sets)
  where
    one : (x : Lent) → (line_of x).entries ≡ lent_number length x
    one unfit = refl
    one (form s) = refl

sum_intervals : (sets : List (List ℕ)) → summed (λ l. l.intervals) (lines_for sets) ≡ lent_sum intervals sets
sum_intervals [] = refl
sum_intervals (set ∷ sets) = rw (one (lent_set set), sum_intervals sets)
  where
    one : (x : Lent) → (line_of x).intervals ≡ lent_number intervals x
    one unfit = refl
    one (form s) = refl

sum_ids : (sets : List (List ℕ)) → summed ids_of (lines_for sets) ≡ lent_sum total sets
sum_ids [] = refl
sum_ids (set ∷ sets) = rw (one (lent_set set), sum_ids sets)
  where
    one : (x : Lent) → ids_of (line_of x) ≡ lent_number total x
    one unfit = refl
    one (form s) = words (total s)

module _ (sets : List (List ℕ)) (few : length sets ≤ 64) where
  all_lines : lines_of (report_over sets) ≡ lines_for sets
  all_lines = over-lines sets ∙ ap lines_for (take_all 64 sets few)

  ids-are : (our_report.sums sets).high * 2 ^ 64 + (our_report.sums sets).low ≡ lent_sum total sets
  ids-are = words (summed ids_of (lines_of (report_over sets))) ∙ ap (summed ids_of) all_lines ∙ sum_ids sets

-- ---- the text

line-is : (set : List ℕ) → SetLine set (line_text (line_of (lent_set set)))
unfolding counts_text
line-is set = go (lent_set set) refl
  where
    go : (x : Lent) → lent_set set ≡ x → SetLine set (line_text (line_of x))
    go unfit e = rw (refused-line (refused_line 14) (λ h. omega arith)) (SetLine.refused (unfit-fault set e))
    go (form s) e =
        rw (set_line (line_of (form s)) refl)
        (SetLine.counted (lent_is set s e)
        (record { high = high_word (total s); low = low_word (total s); words = sym (words (total s)); small = low_small (total s); is = refl }))

lines_are : (sets : List (List ℕ)) (last : List ℕ) → Lines sets last (lines_text (lines_for sets) ++ last)
unfolding lines_text
lines_are [] last = Lines.none last
lines_are (set ∷ sets) last =
    rw (append_assoc (line_text (line_of (lent_set set))) (lines_text (lines_for sets)) last) (Lines.next (line-is set) (lines_are sets last))

module _ (sets : List (List ℕ)) (few : length sets ≤ 64) where
  abbrev sum_line : List ℕ
  sum_line = counts_text sum_word (sum_of (lines_for sets))

  sum-line : NumbersLine sum_word (lent_sum length sets) (lent_sum intervals sets) (lent_sum total sets) sum_line
  unfolding counts_text
  sum-line =
      let ids = summed ids_of (lines_for sets) in
      record {
        high = high_word ids;
        low = low_word ids;
        words = sym (words ids ∙ sum_ids sets);
        small = low_small ids;
        is = rw (sum_entries sets, sum_intervals sets);
      }

  text-is : our_report.text sets ≡ lines_text (lines_for sets) ++ sum_line
  unfolding report_text
  text-is = ap report_text (all_lines sets few)

-- what comes behind 64 sets has no line
module _ (sets more : List (List ℕ)) (all : length sets ≡ 64) where
  beyond-lines : lines_of (report_over (sets ++ more)) ≡ lines_of (report_over sets)
  beyond-lines =
      over-lines (sets ++ more) ∙ ap lines_for (ap (λ (n : ℕ). take n (sets ++ more)) (sym all) ∙ take-append_seam sets more)
      ∙ sym (all_lines sets (omega arith))

pub report-holds : ReportsExactly our_report
report-holds = record {
  answers = answers-exactly;
  sum_entries = λ sets few. ap (summed (λ l. l.entries)) (all_lines sets few) ∙ sum_entries sets;
  sum_intervals = λ sets few. ap (summed (λ l. l.intervals)) (all_lines sets few) ∙ sum_intervals sets;
  sum_ids = ids-are;
  words = λ sets few. low_small (summed ids_of (lines_of (report_over sets)));
  text = λ sets few. (sum_line sets few, sum-line sets few, rw (text-is sets few) (lines_are sets (sum_line sets few)));
  beyond = λ sets more all. (ap sum_of (beyond-lines sets more all), ap report_text (beyond-lines sets more all));
}

-- ---- the archive's

flat-over : (bs : List ℕ) (sets : List (List ℕ)) → length bs ≡ 1352
    → (length (flat_over bs sets) ≡ 1352) × (report_in (flat_over bs sets) ≡ with_sets (report_in bs) sets)
flat-over bs [] long = (long, refl)
flat-over bs (set ∷ sets) long =
    let alike = adds-alike bs set long in
    let (still, same) = flat-over (flat_leaves bs set) sets alike.long in
    (still, same ∙ ap (λ (r : Report). with_sets r sets) alike.report)

module _ (sets : List (List ℕ)) where
  over_zeros : (length (flat_over zeros sets) ≡ 1352) × (report_in (flat_over zeros sets) ≡ report_over sets)
  over_zeros =
      let (long, same) = flat-over zeros sets (length-replicate {A = ℕ} 1352 0) in
      (long, same ∙ ap (λ (r : Report). with_sets r sets) zeros-new)

  archive-line : (set : List ℕ) → flat_adds (flat_over zeros sets) set ≡ our_report.answers sets set
  archive-line set =
      let (long, same) = over_zeros in
      (adds-alike (flat_over zeros sets) set long).line ∙ ap (λ (r : Report). (added r set).line) same

  archive-sums : flat_sum (flat_over zeros sets) ≡ our_report.sums sets
  archive-sums =
      let (long, same) = over_zeros in
      (flat-there (flat_over zeros sets) long).0 ∙ ap (λ (r : Report). sum_of (lines_of r)) same

  archive-text : flat_text (flat_over zeros sets) ≡ bytes (our_report.text sets)
  archive-text =
      let (long, same) = over_zeros in
      (flat-there (flat_over zeros sets) long).1 ∙ ap (λ (r : Report). bytes (report_text (lines_of r))) same

-- 12 says that there is no report: no set is refused with it
line-not-12 : (x : Lent) → (line_of x).refusal ≡ 12 → ⊥
line-not-12 unfit e = omega arith
line-not-12 (form s) e = omega arith

archive-refuses : (bs set : List ℕ) → Exactly (flat_adds bs set ≡ no_numbers 12) (NoReport bs 12)
archive-refuses bs set = (λ e. found (ap (λ (l : Line). l.refusal) e), forced)
  where
    forced : NoReport bs 12 → flat_adds bs set ≡ no_numbers 12
    forced (NoReport.other_size none) = (adds_none bs set (no-report bs none)).0

    found : (flat_adds bs set).refusal ≡ 12 → NoReport bs 12
    found e = place-cases bs
        NoReport.other_size
        (λ long full.
        let told = ap (λ (l : Line). l.refusal) (adds_none bs set (no_place bs long full)).0 in
        absurd (omega arith))
        (λ long free. absurd (line-not-12 (lent_set set) (sym (ap (λ (l : Line). l.refusal) (adds-here bs set long free).0) ∙ e)))

archive-sum-refuses : (bs : List ℕ) (n : ℕ) → Exactly ((flat_refusal bs ≡ n) × (n ≡ 0 → ⊥)) (NoReport bs n)
archive-sum-refuses bs = judges-exactly (flat_refusal bs) 12 (NoReport bs) (eqb (length bs) 1352)
    (λ h. (flat-there bs (eqb-true (length bs) 1352 h)).2)
    (λ h. sym (sum-none bs (eqb-false (length bs) 1352 h)).0)
    (λ h. NoReport.other_size (eqb-false (length bs) 1352 h))
    is-12
    (λ h. omega arith)
  where
    is-12 : (n : ℕ) → NoReport bs n → (n ≡ 12) × (eqb (length bs) 1352 ≡ false)
    is-12 n (NoReport.other_size none) = (refl, ne_eqb (length bs) 1352 none)

archive-zeros : (bs : List ℕ) (n : ℕ) → NoReport bs n → flat_sum bs ≡ record { entries = 0; intervals = 0; high = 0; low = 0 }
unfolding flat_sum
archive-zeros bs n (NoReport.other_size none) = rw (ne_eqb (length bs) 1352 none)

-- the text that is written, by whether there is a report
module _ (bs : List ℕ) where
  text-refused : (length bs ≡ 1352 → ⊥) → flat_text bs ≡ refused not_writable
  unfolding flat_text
  text-refused none = rw (ne_eqb (length bs) 1352 none)

  report-cases : {P : Type 0} → (length bs ≡ 1352 → P) → ((length bs ≡ 1352 → ⊥) → P) → P
  report-cases there none = place-cases bs none (λ long full. there long) (λ long free. there long)

  text-faulty : (r : Refusal) → flat_text bs ≡ refused r → NoReport bs (number r)
  text-faulty r e = report-cases
      (λ long. let two : bytes (report_text (lines_of (report_in bs))) ≡ refused r = sym (flat-there bs long).1 ∙ e in apart cc)
      (λ none. let this : not_writable ≡ r = cc-refused (sym (text-refused none) ∙ e) in rw (← this) (NoReport.other_size none))
    where
      cc-refused : {x y : Refusal} → refused x ≡ refused y → x ≡ y
      cc-refused h = cc

  text-forced : (n : ℕ) → NoReport bs n → WriterRefuses (flat_text bs) n
  text-forced n (NoReport.other_size none) = (not_writable, text-refused none, refl)

  text-writes : (text : List ℕ) → flat_text bs ≡ bytes text → (length bs ≡ 1352) × (text ≡ report_text (lines_of (report_in bs)))
  text-writes text e = report-cases
      (λ long. (long, cc-bytes (sym e ∙ (flat-there bs long).1)))
      (λ none. let two : refused not_writable ≡ bytes text = sym (text-refused none) ∙ e in apart cc)
    where
      cc-bytes : {x y : List ℕ} → bytes x ≡ bytes y → x ≡ y
      cc-bytes h = cc

  text-written : (text : List ℕ) → (length bs ≡ 1352) × (text ≡ report_text (lines_of (report_in bs))) → flat_text bs ≡ bytes text
  text-written text (long, is) = (flat-there bs long).1 ∙ ap bytes (sym is)

archive-keeps : (bs set : List ℕ) → ((flat_adds bs set).refusal ≡ 0 → ⊥) → ((flat_adds bs set).refusal ≡ 14 → ⊥) → flat_leaves bs set ≡ bs
archive-keeps bs set some other = place-cases bs
    (λ none. (adds_none bs set (no-report bs none)).1)
    (λ long full. (adds_none bs set (no_place bs long full)).1)
    (λ long free. read (lent_set set) (ap (λ (l : Line). l.refusal) (adds-here bs set long free).0))
  where
    read : (x : Lent) → (flat_adds bs set).refusal ≡ (line_of x).refusal → flat_leaves bs set ≡ bs
    read unfit told = absurd (other told)
    read (form s) told = absurd (some told)

archive : ArchiveReports
archive = record {
  answers = archive-line;
  sums = archive-sums;
  text = archive-text;
  gtid_report_add = archive-refuses;
  kept = archive-keeps;
  gtid_report_sum = archive-sum-refuses;
  sum_zeros = archive-zeros;
  gtid_report_write = λ bs out. writes-exactly (flat_text bs) out (NoReport bs) (λ text. (length bs ≡ 1352) × (text ≡ report_text (lines_of (report_in bs))))
      (text-faulty bs) (text-forced bs) (text-writes bs) (text-written bs);
}

-- ---- together

longest-is : (sets : List (List ℕ)) → length (our_report.text sets) ≤ 2476
unfolding longest_report max_sets
longest-is sets = longest sets

pub reports : Reports
reports = record {
  totals = totals;
  report = report-holds;
  line_of = told-exactly;
  longest = longest-is;
  archive = archive;
}
