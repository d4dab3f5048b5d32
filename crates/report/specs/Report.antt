-- Month's end: what a report says of sets that are given one after another.
use Rattle.std.specs.Prelude.{ℕ, ◌+◌, ◌*◌, ◌/◌, ◌%◌, ◌^◌, min, List, [], ◌∷◌, length, take, set, replicate, ltb}
use Rattle.misc.specs.Pick.{pick}
use Rattle.misc.specs.Refusal.{number, too_long, not_a_set}
use Rattle.gtid_sets.specs.Limits.{intervals}
use Rattle.gtid_sets.specs.Lent.{Lent, form, unfit, lent_set}
use Rattle.gtid_sets.specs.Total.{total}
use Rattle.report.specs.declared.Line.{Line}
use Rattle.report.specs.declared.Counts.{Counts}
use Rattle.report.specs.declared.Report.{Report}
use Rattle.report.specs.declared.Added.{Added}

-- ---- a number in two words of 64 bits: it is the high word times 2^64, and the low word (`words` of proofs/WideLaws.antt)

unfoldable pub high_word : ℕ → ℕ
high_word n = n / 2 ^ 64

unfoldable pub low_word : ℕ → ℕ
low_word n = n % 2 ^ 64

-- ---- a line

-- that of a refusal
abbrev pub refused_line : ℕ → Line
refused_line n = record { refusal = n; entries = 0; intervals = 0; high = 0; low = 0 }

-- that of some bytes, which are a set or aren't
abbrev pub line_of : Lent → Line
line_of unfit = refused_line (number not_a_set)
line_of (form s) = record { refusal = 0; entries = length s; intervals = intervals s; high = high_word (total s); low = low_word (total s) }

-- the ids that it says
abbrev pub ids_of : Line → ℕ
ids_of l = l.high * 2 ^ 64 + l.low

-- its numbers
abbrev pub counts_of : Line → Counts
counts_of l = record { entries = l.entries; intervals = l.intervals; high = l.high; low = l.low }

-- ---- a report

-- it is over so many sets at most
unfoldable pub max_sets : ℕ
max_sets = 64

abbrev pub new_report : Report
new_report = record { sets = 0; lines = replicate 64 (refused_line 0) }

-- the lines that count
abbrev pub lines_of : Report → List Line
lines_of r = take (min r.sets max_sets) r.lines

-- one set more
abbrev pub with_line : Report → Line → Added
with_line r l = record { line = l; report = record { sets = r.sets + 1; lines = set r.lines r.sets l } }

-- behind the greatest number of sets nothing is read, and the report stays
abbrev pub added : Report → List ℕ → Added
added r bs = pick (ltb r.sets max_sets) (with_line r (line_of (lent_set bs))) (record { line = refused_line (number too_long); report = r })

-- ---- the sums over lines

-- a number of each line, added up
abbrev pub summed : (Line → ℕ) → List Line → ℕ
summed f [] = 0
summed f (l ∷ ls) = f l + summed f ls

abbrev pub sum_of : List Line → Counts
sum_of ls =
    record {
      entries = summed (λ l. l.entries) ls;
      intervals = summed (λ l. l.intervals) ls;
      high = high_word (summed ids_of ls);
      low = low_word (summed ids_of ls);
    }
