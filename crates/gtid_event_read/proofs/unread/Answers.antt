-- `gtid_event_read::unread` meets its contract: what was used ends in the body, so the rest is a part of it.
-- Assumes nothing.
use mathlib.Core.Path.{sym, ap}
use Prim.Native.Nat.{ℕ, ◌-◌, ◌≤◌}
use native.Mathlib.Omega.{arith}
use native.Mathlib.Nat.{zero-add}
use lib.ListN.{length, drop, length-drop}
use lib.Seq.{take_all}
use Rattle.gtid_event_read.proofs.ReadLaws.{gtid-inside, gtid-said, gtid-stopped}
use Rattle.gtid_event_read.proofs.unread.Goals as goal
use Rattle.gtid_event_read.proofs.unread.Goals.{In-Ok}

inside : (c : In-Ok) → c.in-Ok.said.used ≤ length c.args.body.now
inside c = gtid-inside _ _ (gtid-said c.args.event_type c.args.body.now c.in-Ok.ensures)

pub slice_bounds-result-count : goal.slice_bounds-result-count
slice_bounds-result-count c = inside (goal.at.slice_bounds-result-count c).In-Ok

pub slice_bounds-result-start : goal.slice_bounds-result-start
slice_bounds-result-start c = inside (goal.at.slice_bounds-result-start c).In-Ok

pub returns-in-Ok-clause-result_value : goal.returns-in-Ok-clause-result_value
returns-in-Ok-clause-result_value c =
    let s = c.args.body.now in
    rw (gtid-said c.args.event_type s c.in-Ok.ensures, take_all (length s - c.in-Ok.said.used) (drop c.in-Ok.said.used s) (simp length-drop (omega arith)))

pub returns-in-Ok-clause-ref_ptr_value : goal.returns-in-Ok-clause-ref_ptr_value
returns-in-Ok-clause-ref_ptr_value c = rw (gtid-said c.args.event_type c.args.body.now c.in-Ok.ensures)

pub returns-in-Err-clause-result_value : goal.returns-in-Err-clause-result_value
returns-in-Err-clause-result_value c = rw (gtid-stopped c.args.event_type c.args.body.now c.in-Err.ensures)

pub returns-in-Err-clause-ref_ptr_value : goal.returns-in-Err-clause-ref_ptr_value
returns-in-Err-clause-ref_ptr_value c =
    rw (gtid-stopped c.args.event_type c.args.body.now c.in-Err.ensures)
    (sym (ap (λ (k : ℕ). (c.args.body.ref_ptr.0, k)) (zero-add c.args.body.ref_ptr.1)))
