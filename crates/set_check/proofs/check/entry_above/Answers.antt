-- `set_check::check::entry_above` meets its contract.
use mathlib.Core.Path.{◌≡◌, sym, ap, ◌∙◌}
use Rattle.gtid_sets.specs.Interval.{gapped}
use Rattle.set_intervals.specs.Intervals.{intervals_at}
use Rattle.set_check.specs.Check.{low_key}
use Rattle.set_check.proofs.RestLaws.{head-lies, entry-ungapped, entry-low, entry-is}
use Rattle.set_check.proofs.EntryPlaces.{lent-intervals}
use Rattle.set_check.proofs.check.entry_above.Goals as goal

pub returns-then-not-gapped_in : goal.returns-then-not-gapped_in
returns-then-not-gapped_in c =
    let a = c.args in
    let entry = c.in_ok-entry.entry in
    let head = c.in_ok-entry.ensures in
    let judged : c.gapped_in.result ≡ gapped 0 (intervals_at entry.count a.set.now entry.first) =
    c.gapped_in.ensures ∙ ap (gapped 0) (lent-intervals a.set.now a.from.at entry (head-lies a.set.now a.from entry head) head.inside) in
    entry-ungapped a.set.now a.from (low_key a.set.now a.low) entry head (sym judged ∙ c.if-not-gapped_in.true)

pub returns-then-not-is_above : goal.returns-then-not-is_above
returns-then-not-is_above c =
    let a = c.args in
    let below = rw c.of.ensures at c.if-not-is_above.ensures in
    entry-low a.set.now a.from (low_key a.set.now a.low) c.in_ok-entry.entry c.in_ok-entry.ensures below

pub returns : goal.returns
returns c =
    let a = c.args in
    let entry = c.in_ok-entry.entry in
    let head = c.in_ok-entry.ensures in
    let judged : c.gapped_in.result ≡ gapped 0 (intervals_at entry.count a.set.now entry.first) =
    c.gapped_in.ensures ∙ ap (gapped 0) (lent-intervals a.set.now a.from.at entry (head-lies a.set.now a.from entry head) head.inside) in
    let above = rw c.of.ensures at c.if-not-is_above.ensures in
    entry-is a.set.now a.from (low_key a.set.now a.low) entry head (sym judged ∙ c.if-not-gapped_in.false) above
