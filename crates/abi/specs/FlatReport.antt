-- A report as 1,352 bytes, which its owner keeps between the calls: how many sets it is over, and 21 bytes for each of 64 lines. Numbers are
-- little-endian. A new report is all zeros.
use Rattle.std.specs.Prelude.{ℕ, zero, suc, ◌+◌, ◌*◌, Bool, List, [], ◌∷◌, ◌++◌, length, get_or, eqb, ltb, Result, Ok, Err}
use Rattle.misc.specs.Pick.{pick}
use Rattle.misc.specs.Refusal.{number, too_long, not_writable}
use Rattle.misc.specs.declared.refusal.Refusal.{Refusal}
use Rattle.misc.specs.Parse.{part}
use Rattle.misc.specs.Le.{le_bytes, number_at}
use Rattle.misc.specs.Output.{Output, refused, bytes, written}
use Rattle.report.specs.Report.{refused_line, max_sets, lines_of, added, sum_of}
use Rattle.report.specs.Text.{report_text}
use Rattle.report.specs.declared.Line.{Line}
use Rattle.report.specs.declared.Counts.{Counts}
use Rattle.report.specs.declared.Report.{Report}
use Rattle.abi.specs.Flat.{four_at}

abbrev pub line_size : ℕ
line_size = 21

abbrev pub report_size : ℕ
report_size = 1352

-- the refusal, entries, intervals, and the high and the low word of the ids
unfoldable pub flat_line : Line → List ℕ
flat_line l = (l.refusal ∷ []) ++ le_bytes 4 l.entries ++ le_bytes 4 l.intervals ++ le_bytes 4 l.high ++ le_bytes 8 l.low

-- ---- the report in such bytes

-- the line in 21 bytes
unfoldable pub line_in : List ℕ → Line
line_in s = record { refusal = get_or s 0 0; entries = four_at s 1; intervals = four_at s 5; high = four_at s 9; low = number_at s 13 }

-- n lines from a place on
abbrev pub lines_at : ℕ → List ℕ → ℕ → List Line
lines_at zero bs at = []
lines_at (suc n) bs at = line_in (part bs at line_size) ∷ lines_at n bs (at + line_size)

unfoldable pub report_in : List ℕ → Report
report_in bs = record { sets = number_at bs 0; lines = lines_at 64 bs 8 }

-- ---- what the calls answer and leave

-- whether bytes are a report
abbrev pub is_report : List ℕ → Bool
is_report bs = eqb (length bs) report_size

-- the line of a set that is added
unfoldable pub flat_adds : List ℕ → List ℕ → Line
flat_adds bs set = pick (is_report bs) (added (report_in bs) set).line (refused_line (number not_writable))

-- a line behind those that are there, and one set more
abbrev pub with_line_in : List ℕ → Line → List ℕ
with_line_in bs l = written (written bs (8 + line_size * number_at bs 0) (flat_line l)) 0 (le_bytes 8 (number_at bs 0 + 1))

-- so the bytes are afterwards, where they are a report with a place for it (`adds-alike` of proofs/FlatReportBack.antt: they are the report with this set)
unfoldable pub flat_leaves : List ℕ → List ℕ → List ℕ
flat_leaves bs set = pick (is_report bs) (pick (ltb (number_at bs 0) max_sets) (with_line_in bs (flat_adds bs set)) bs) bs

abbrev pub no_counts : Counts
no_counts = record { entries = 0; intervals = 0; high = 0; low = 0 }

-- the sums
unfoldable pub flat_refusal : List ℕ → ℕ
flat_refusal bs = pick (is_report bs) 0 (number not_writable)

unfoldable pub flat_sum : List ℕ → Counts
flat_sum bs = pick (is_report bs) (sum_of (lines_of (report_in bs))) no_counts

-- and the text
unfoldable pub flat_text : List ℕ → Output
flat_text bs = pick (is_report bs) (bytes (report_text (lines_of (report_in bs)))) (refused not_writable)

-- ---- inside

-- whether there is a place for one line more
abbrev pub room_for : List ℕ → Result (Unit {0}) Refusal
room_for bs = pick (is_report bs) (pick (ltb (number_at bs 0) max_sets) (Ok tt) (Err too_long)) (Err not_writable)
