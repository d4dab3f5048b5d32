-- `set_check::check::header_at` meets its contract.
use Prim.Native.Nat.{◌/◌}
use mathlib.Core.Bool.{true, false}
use mathlib.Core.Path.{sym, ◌∙◌}
use native.Mathlib.Omega.{arith}
use Rattle.set_check.proofs.HeaderLaws.{header-gone, header_is, header-low, header-odd, header-many}
use Rattle.set_check.proofs.check.header_at.Goals as goal
use Rattle.set_check.proofs.check.header_at.Goals.{then-rest-ne0-via-then-rest-ne0, then-rest-ne0-via-else-rest-ne0+then-left-gt-MAX_ENTRIES}

pub returns-then-set-lt-SET_HEADER : goal.returns-then-set-lt-SET_HEADER
returns-then-set-lt-SET_HEADER c = header-gone c.args.set.now c.if-set-lt-SET_HEADER.true

pub returns-then-header-le-MAX_ENTRIES : goal.returns-then-header-le-MAX_ENTRIES
returns-then-header-le-MAX_ENTRIES c =
    let n = c.number_at-header in
    header_is c.args.set.now (λ i. (c.type_inv.set i).fits) (omega arith) false n.result c.if-header-le-MAX_ENTRIES.true (sym n.ensures)

pub returns-in_err-rest : goal.returns-in_err-rest
returns-in_err-rest c =
    let n = c.number_at-header in
    let low = c.in_err-rest.ensures in
    rw c.from_residual.ensures (header-low c.args.set.now n.result n.ensures (omega arith) (omega arith))

pub returns-then-rest-ne0 : goal.returns-then-rest-ne0
returns-then-rest-ne0 c =
    let n = c.number_at-header in
    let (high, rest) = c.in_ok-rest.ensures in
    elim c.then-rest-ne0.branch [
      | then-rest-ne0-via-then-rest-ne0 w ↦ header-odd c.args.set.now n.result n.ensures (omega arith) high (rw (← rest) w.if-rest-ne0.true)
      | then-rest-ne0-via-else-rest-ne0+then-left-gt-MAX_ENTRIES w ↦ header-many c.args.set.now n.result n.ensures (omega arith) high (omega arith)
    ]

pub returns : goal.returns
returns c =
    let n = c.number_at-header in
    let (high, rest) = c.in_ok-rest.ensures in
    header_is c.args.set.now (λ i. (c.type_inv.set i).fits) (omega arith) true (c.in_ok-rest.rest / 256) c.if-left-gt-MAX_ENTRIES.false
    (sym n.ensures ∙ omega arith)
