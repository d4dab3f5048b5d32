-- `set_check::heads::right_head` meets its contract.
use mathlib.Core.Path.{sym, ◌∙◌}
use native.Mathlib.Nat.{add-sub_cancel_left}
use native.Mathlib.Omega.{arith}
use Rattle.packets.proofs.Tests.{clash}
use Rattle.set_check.proofs.HeadLaws.{head-empty, head-many, head-odd, head-bad, head-is}
use Rattle.set_check.proofs.heads.right_head.Goals as goal
use Rattle.set_check.proofs.heads.right_head.Goals.{
  then-entry-eq0-via-then-entry-eq0,
  then-entry-eq0-via-else-entry-eq0+then-entry-gt-MAX_OF_ENTRY,
  else-from-via-then-from+else-set-from-eq1,
  else-from-via-else-from,
}

pub returns-then-entry-eq0 : goal.returns-then-entry-eq0
returns-then-entry-eq0 c =
    let entry = c.entry_here-entry in
    elim c.then-entry-eq0.branch [
      | then-entry-eq0-via-then-entry-eq0 w ↦ head-empty c.args.set.now c.args.from entry.result entry.ensures w.if-entry-eq0.true
      | then-entry-eq0-via-else-entry-eq0+then-entry-gt-MAX_OF_ENTRY w ↦
          head-many c.args.set.now c.args.from entry.result entry.ensures w.if-entry-gt-MAX_OF_ENTRY.true
    ]

pub returns-then-set-from-eq1 : goal.returns-then-set-from-eq1
returns-then-set-from-eq1 c = head-odd c.args.set.now c.args.from _ c.entry_here-entry.ensures c.if-from.true c.if-set-from-eq1.true

pub returns-then-not-none_or_tag : goal.returns-then-not-none_or_tag
returns-then-not-none_or_tag c =
    let entry = c.entry_here-entry in
    let told = rw add-sub_cancel_left at c.none_or_tag.ensures in
    head-bad c.args.set.now c.args.from entry.result entry.ensures (sym told ∙ c.if-not-none_or_tag.true)

pub returns : goal.returns
returns c =
    let a = c.args in
    let entry = c.entry_here-entry in
    let told = rw add-sub_cancel_left at c.none_or_tag.ensures in
    head-is a.set.now a.from entry.result entry.ensures (λ i. (c.type_inv.set i).fits) (omega arith) (omega arith)
    (λ tagged. elim c.else-from.branch [
      | else-from-via-then-from+else-set-from-eq1 w ↦ let even = w.if-set-from-eq1.false in omega arith
      | else-from-via-else-from w ↦ clash tagged w.if-from.false
    ])
    (sym told ∙ c.if-not-none_or_tag.false)
