-- The line of a lent set, or of bytes that are none.
use Prim.Native.Nat.{ℕ, ◌<◌, ◌≤◌}
use mathlib.Core.Path.{◌≡◌, ap, ◌∙◌}
use mathlib.Core.List.{List}
use lib.ListN.{length}
use borrow.Author.Tests.{lt-ltb, le-ltb}
use Rattle.std.specs.Prelude.{Ok, Err}
use Rattle.misc.specs.declared.refusal.Refusal.{Refusal}
use Rattle.misc.specs.Refusal.{number}
use Rattle.gtid_sets.specs.Lent.{lent_set}
use Rattle.gtid_sets.specs.Total.{total}
use Rattle.gtid_sets.proofs.LimitLaws.{limits-says}
use Rattle.gtid_sets.proofs.LentLaws.{lent_is}
use Rattle.set_check.specs.Check.{checked_of}
use Rattle.set_check.specs.declared.Checked.{Checked}
use Rattle.set_check.specs.SetOf.{set_of, Fits}
use Rattle.set_check.specs.Cursor.{begun, entries_left, CursorIs}
use Rattle.set_check.proofs.SetOfLaws.{check-told, check-unfit}
use Rattle.set_check.proofs.CursorLaws.{cursor-starts, cursor-begins}
use Rattle.gtid_sets.specs.Limits.{max_entries, max_intervals, intervals}
use Rattle.report.specs.Report.{high_word, low_word, refused_line, line_of, max_sets, with_line, added}
use Rattle.report.specs.declared.Line.{Line}
use Rattle.report.specs.declared.Report.{Report}
use Rattle.report.specs.declared.Added.{Added}

pub line_refused : (bs : List ℕ) (x : Refusal) → Err x ≡ checked_of (lent_set bs) → refused_line (number x) ≡ line_of (lent_set bs)
line_refused bs x told = let (none, same) = check-unfit bs told in rw (none, same)

module _ (bs : List ℕ) (c : Checked) (told : Ok c ≡ checked_of (lent_set bs)) where
  fits : Fits bs c
  fits = check-told bs told

  pub line_set : CursorIs bs (begun c)
  line_set = (cursor-begins bs c fits).0

  few : (length (set_of bs) ≤ max_entries) × (intervals (set_of bs) ≤ max_intervals)
  few = limits-says (set_of bs) (lent_is bs (set_of bs) fits.lent).limited

  pub few-entries : c.entries ≤ max_entries
  few-entries = rw (← fits.set.count) few.0

  pub few-intervals : c.intervals ≤ max_intervals
  few-intervals = rw (← fits.total) few.1

  pub line_made : (ids high low : ℕ) → ids ≡ total (entries_left bs (begun c)) → high ≡ high_word ids → low ≡ low_word ids
      → ◌≡◌ {A = Line} (record { refusal = 0; entries = c.entries; intervals = c.intervals; high = high; low = low }) (line_of (lent_set bs))
  line_made ids high low e h l =
      let all : entries_left bs (begun c) ≡ set_of bs = (cursor-starts bs c.tagged c.entries fits.set).1 in
      rw (fits.lent, h, l, e ∙ ap total all, ← fits.set.count, ← fits.total)

-- ---- building

module _ (r : Report) (bs : List ℕ) (l : Line) where
  pub one_more : r.sets < 64 → l ≡ line_of (lent_set bs) → with_line r l ≡ added r bs
  unfolding max_sets
  one_more h e = rw (lt-ltb r.sets 64 h, e)

  pub no_more : 64 ≤ r.sets → l ≡ refused_line 11 → ◌≡◌ {A = Added} (record { line = l; report = r }) (added r bs)
  unfolding max_sets
  no_more h e = rw (le-ltb r.sets 64 h, e)
