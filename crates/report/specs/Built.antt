-- Reports that are built: over sets that are given one after another.
use Rattle.std.specs.Prelude.{ℕ, List, [], ◌∷◌}
use Rattle.gtid_sets.specs.Lent.{lent_set}
use Rattle.report.specs.Report.{line_of, new_report, added}
use Rattle.report.specs.declared.Line.{Line}
use Rattle.report.specs.declared.Report.{Report}

-- a report with some sets more
abbrev pub with_sets : Report → List (List ℕ) → Report
with_sets r [] = r
with_sets r (set ∷ sets) = with_sets (added r set).report sets

-- that over some sets; its lines are those of the first 64 of them (`over-lines` of proofs/BuiltLaws.antt)
abbrev pub report_over : List (List ℕ) → Report
report_over sets = with_sets new_report sets

abbrev pub lines_for : List (List ℕ) → List Line
lines_for [] = []
lines_for (set ∷ sets) = line_of (lent_set set) ∷ lines_for sets
