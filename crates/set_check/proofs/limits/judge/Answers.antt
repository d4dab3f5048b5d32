-- `set_check::limits::judge` meets its contract.
use mathlib.Core.Path.{sym, ap}
use native.Mathlib.Omega.{arith}
use Rattle.gtid_sets.specs.Limits.{judged_as}
use Rattle.gtid_sets.proofs.LimitLaws.{max_entries-is, max_intervals-is, judged-crowded, judged-fine, judged-entries, judged-intervals}
use Rattle.set_check.proofs.limits.judge.Goals as goal

pub returns-then-crowd-gt0 : goal.returns-then-crowd-gt0
returns-then-crowd-gt0 c =
    let a = c.args in
    sym (ap judged_as (judged-crowded a.entries a.total a.crowd (λ none. omega arith)))

pub returns-then-entries-gt-MAX_ENTRIES : goal.returns-then-entries-gt-MAX_ENTRIES
returns-then-entries-gt-MAX_ENTRIES c =
    let a = c.args in
    sym (ap judged_as (judged-entries a.entries a.total a.crowd (omega arith) (omega (arith, max_entries-is))))

pub returns-then-total-gt-MAX_INTERVALS : goal.returns-then-total-gt-MAX_INTERVALS
returns-then-total-gt-MAX_INTERVALS c =
    let a = c.args in
    sym (ap judged_as (judged-intervals a.entries a.total a.crowd (omega arith) (omega (arith, max_intervals-is))))

pub returns : goal.returns
returns c =
    let a = c.args in
    sym (ap judged_as (judged-fine a.entries a.total a.crowd (omega arith) (omega (arith, max_entries-is)) (omega (arith, max_intervals-is))))
