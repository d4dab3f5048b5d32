-- What the program reports on, and the text that it writes.
use Rattle.std.specs.Prelude.{ℕ, ◌≤◌, ◌≡◌, List, length, take}
use Rattle.report.specs.Report.{lines_of, added}
use Rattle.report.specs.Built.{report_over}
use Rattle.report.specs.Text.{report_text}
use Rattle.report.specs.declared.Report.{Report}

-- A report over some files, one after another.
pub record Built (report : Report) : Type 0 where
  pub files : List (List ℕ)
  pub over : report ≡ report_over files

-- The next report has one file more: any file of which just this was read, all of it or as much as there was room for.
pub record Grown (report : Report) (room : ℕ) (read : List ℕ) (next : Report) : Type 0 where
  pub whole : (file : List ℕ) → read ≡ take room file → next ≡ (added report file).report

-- The first bytes of a text are a report's text.
pub record Reported (report : Report) (len : ℕ) (text : List ℕ) : Type 0 where
  pub fits : len ≤ length text
  pub whole : take len text ≡ report_text (lines_of report)
