-- `previous_gtids_event::read::header_of` meets its contract.
use Prim.Native.Nat.{◌/◌, ◌^◌}
use native.Mathlib.Omega.{arith}
use borrow.Author.Tests.{ne_eqb}
use mathlib.Core.Path.{◌∙◌}
use Rattle.misc.specs.Le.{le_at}
use Rattle.misc.proofs.BodyLaws.{body-fits}
use Rattle.misc.proofs.ParseLaws.{handed-on, read-ok, read-err}
use Rattle.previous_gtids_event.specs.Answers.{header_told}
use Rattle.previous_gtids_event.specs.Previous.{says_tagged, says_count}
use Rattle.previous_gtids_event.proofs.Reading.{too-long, body-refused}
use Rattle.previous_gtids_event.proofs.read.header_of.Goals as goal

pub returns-then-body-gt-MAX_BODY : goal.returns-then-body-gt-MAX_BODY
returns-then-body-gt-MAX_BODY c = too-long header_told _ _ (omega arith)

pub returns-in_err-header : goal.returns-in_err-header
returns-in_err-header c = handed-on _ c.from_residual.ensures ∙ body-refused header_told _ _ (omega arith) (read-err _ c.in_err-header.ensures)

pub returns-then-tagged : goal.returns-then-tagged
unfolding says_tagged says_count
returns-then-tagged c = let read = body-fits c.args.body.now (le_at 8 c.args.body.now 0) (omega arith) ∙ read-ok _ c.in_ok-header.ensures in
    rw (read, ne_eqb (c.in_ok-header.field-0.value / 2 ^ 56) 0 c.if-tagged.true)

pub returns-else-tagged : goal.returns-else-tagged
unfolding says_tagged says_count
returns-else-tagged c = let read = body-fits c.args.body.now (le_at 8 c.args.body.now 0) (omega arith) ∙ read-ok _ c.in_ok-header.ensures in
    rw (read, c.if-tagged.false)
