use Prim.Native.Nat.{◌-◌}
use native.Mathlib.Omega.{arith}
use mathlib.Core.Path.{◌≡◌, sym, ap, ◌∙◌}
use Rattle.misc.proofs.ParseLaws.{handed-on, answered-err}
use Rattle.misc.proofs.Walk.{walk-next, walk_refused, walk_end}
use Rattle.previous_gtids_event.specs.Answers.{previous_read}
use Rattle.previous_gtids_event.specs.Entry.{entry}
use Rattle.previous_gtids_event.specs.Inside.{whole_told}
use Rattle.previous_gtids_event.specs.Previous.{entry_at}
use Rattle.previous_gtids_event.proofs.Counting.{read_after, read_none, read_next, read-end}
use Rattle.previous_gtids_event.proofs.Reading.{headless, headed, whole-told}
use Rattle.previous_gtids_event.proofs.read.read.Goals as goal

pub returns-in_err-header : goal.returns-in_err-header
returns-in_err-header c = handed-on _ c.from_residual.ensures ∙ ap previous_read (sym (headless _ c.in_err-header.ensures))

pub loop-init : goal.loop-init
loop-init c = let n = c.in_ok-header.header.entries in
    let all : n - 0 ≡ n = omega arith in
    rw all (ap previous_read (headed _ c.in_ok-header.ensures).0 ∙ read_none _)

pub returns-in_err-at : goal.returns-in_err-at
returns-in_err-at c = let l = c.loop in
    let e = answered-err whole_told _ c.in_err-at.ensures.value in
    handed-on _ c.from_residual-in_err-at.ensures
    ∙ sym (walk_refused read_after _ _ _ l.counter l.at l.counter l.invariant (omega arith) _ e)

pub loop-preserved : goal.loop-preserved
loop-preserved c = let l = c.loop in
    let header = c.in_ok-header.header in
    let t = whole-told header.tagged c.args.body.now l.at _ c.in_ok-at.ensures.value in
    walk-next read_after (entry_at header.tagged c.args.body.now) header.entries _ l.counter l.at l.counter l.invariant (omega arith) _ _ t.is _
    (read_next l.counter (entry t.key t.list))

pub returns : goal.returns
returns c = let l = c.loop in
    let header = c.in_ok-header.header in
    let all : l.counter ≡ header.entries = omega arith in
    sym (walk_end read_after (entry_at header.tagged c.args.body.now) header.entries _ l.counter l.at l.counter l.invariant all
    ∙ read-end l.counter l.at all)
