-- `gtid_event_write::put::put_unless` meets its contract.
use borrow.Author.Tests.{eq-eqb, ne_eqb}
use Rattle.misc.proofs.PutLaws.{puts-fit, puts_none}
use Rattle.gtid_event_write.proofs.put.put_unless.Goals as goal

pub returns-then-value-assumed : goal.returns-then-value-assumed
returns-then-value-assumed c = simp (eq-eqb _ _ c.if-value-assumed.true) (puts-fit (puts_none _))

pub returns : goal.returns
returns c = simp (ne_eqb _ _ c.if-value-assumed.false) c.put_number.ensures
