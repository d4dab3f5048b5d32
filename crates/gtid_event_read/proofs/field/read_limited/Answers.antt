-- `gtid_event_read::field::read_limited` meets its contract.
-- Assumes nothing.
use mathlib.Core.Path.{◌∙◌}
use borrow.Author.Tests.{le-leb, lt-leb}
use Rattle.misc.specs.Varlen.{varlen_at}
use Rattle.misc.proofs.ParseLaws.{handed-on, read-ok, read-err}
use Rattle.gtid_event_read.specs.Fields.{limited_at}
use Rattle.gtid_event_read.proofs.field.read_limited.Goals as goal

pub returns-in_err-read : goal.returns-in_err-read
unfolding limited_at
returns-in_err-read c = handed-on _ c.from_residual.ensures ∙ rw (read-err (varlen_at c.args.s.now c.args.at) c.in_err-read.ensures)

pub returns-then-read-limit : goal.returns-then-read-limit
unfolding limited_at
returns-then-read-limit c = rw (read-ok (varlen_at c.args.s.now c.args.at) c.in_ok-read.ensures, le-leb _ _ c.if-read-limit.true)

pub returns : goal.returns
unfolding limited_at
returns c = rw (read-ok (varlen_at c.args.s.now c.args.at) c.in_ok-read.ensures, lt-leb _ _ c.if-read-limit.false)
