-- The program's rooms are enough (`specs/Program.antt`).
use mathlib.Core.Path.{◌≡◌, refl, sym, ap, ◌∙◌}
use mathlib.Core.List.{List, [], ◌∷◌, ◌++◌}
use Prim.Native.Nat.{ℕ, ◌≤◌, ◌<◌}
use native.Mathlib.Omega.{arith}
use lib.ListN.{length, take, drop, length-append}
use lib.Seq.{take_all, take_at, length-take-le}
use borrow.Author.Tests.{le-leb}
use Rattle.misc.specs.Output.{bytes, output_of, answer_of}
use Rattle.misc.specs.declared.refusal.WriteError.{WriteError}
use Rattle.std.specs.Prelude.{Result, Ok, IsOk}
use Rattle.misc.proofs.ParseLaws.{split}
use Rattle.gtid_sets.specs.Limits.{longest_set}
use Rattle.gtid_sets.specs.Lent.{Lent, form, unfit, lent_set}
use Rattle.gtid_sets.proofs.LentLaws.{lent-short}
use Rattle.report.specs.Report.{max_sets, new_report, lines_of, added}
use Rattle.report.specs.Text.{report_text, longest_report}
use Rattle.report.specs.declared.Report.{Report}
use Rattle.report.specs.declared.Added.{Added}
use Rattle.report.proofs.BuiltLaws.{over-more, longest}
use Rattle.gtid_report.specs.Program.{Built, Grown, Reported}

-- ---- the front of a file

-- longer bytes are no set
too_long : (bs : List ℕ) → longest_set < length bs → lent_set bs ≡ unfit
too_long bs over = go (lent_set bs) refl
  where
    go : (x : Lent) → lent_set bs ≡ x → x ≡ unfit
    go unfit e = refl
    go (form s) e = absurd (omega (arith, lent-short bs s e))

-- what stands behind it changes nothing
front-tells : (n : ℕ) (file : List ℕ) → longest_set < n → lent_set (take n file) ≡ lent_set file
front-tells n file room = split (length file) n
    (λ short. ap lent_set (take_all n file short))
    (λ over.
    let is = length-take-le n file (omega arith) in
    too_long (take n file) (omega arith) ∙ sym (too_long file (omega arith)))

pub file-added : (report : Report) (room : List ℕ) (len : ℕ) (a : Added) → longest_set < length room → a ≡ added report (take len room)
    → Grown report (length room) (take len room) a.report
file-added report room len a enough is =
    record {
      whole = λ file front. ap (λ (x : Added). x.report) is ∙ rw (front, front-tells (length room) file enough);
    }

-- ---- reports over files

pub none-built : (report : Report) → report ≡ new_report → Built report
none-built report new = record { files = []; over = new }

pub more-built : {report next : Report} {room : ℕ} {read : List ℕ} → Built report → Grown report room read next → length read ≤ room → Built next
more-built {room = room} {read = read} b grown fits =
    record {
      files = b.files ++ (read ∷ []);
      over = grown.whole read (sym (take_all room read fits))
          ∙ ap (λ (r : Report). (added r read).report) b.over
          ∙ sym (over-more b.files (read ∷ []) new_report);
    }

-- ---- the room for the text

pub longest_report-is : longest_report ≡ 2476
unfolding longest_report max_sets
longest_report-is = refl

module _ (report : Report) (l l' : List ℕ) (w : Result ℕ WriteError) (b : Built report) (room : longest_report ≤ length l)
    (answer : w ≡ answer_of l (bytes (report_text (lines_of report)))) (output : l' ≡ output_of l (bytes (report_text (lines_of report)))) where
  abbrev text : List ℕ
  text = report_text (lines_of report)

  short : length text ≤ length l
  short =
      let most : length text ≤ longest_report = rw b.over (longest b.files) in
      omega arith

  written : w ≡ Ok (length text)
  unfolding answer_of
  written = answer ∙ rw (le-leb _ _ short)

  pub text-written : IsOk w
  text-written = rw written

  pub text-whole : {n : ℕ} → w ≡ Ok n → Reported report n l'
  unfolding output_of
  text-whole {n} told =
      let same : ◌≡◌ {A = Result ℕ WriteError} (Ok (length text)) (Ok n) = sym written ∙ told in
      let size : length text ≡ n = cc in
      let is : l' ≡ text ++ drop (length text) l = output ∙ rw (le-leb _ _ short) in
      record {
        fits = rw (← size, is) (simp length-append (omega arith));
        whole = rw is (take_at text (drop (length text) l) n size);
      }
