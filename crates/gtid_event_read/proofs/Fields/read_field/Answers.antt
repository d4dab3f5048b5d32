-- `gtid_event_read::Fields::read_field` meets its contract.
-- Assumes nothing.
use Rattle.misc.specs.Varlen.{varlen_at}
use Rattle.misc.proofs.ParseLaws.{handed-on, read-ok, read-err}
use Rattle.gtid_event_read.specs.Fields.{field_at}
use Rattle.gtid_event_read.proofs.Fields.read_field.Goals as goal

pub returns-in_err-id : goal.returns-in_err-id
unfolding field_at
returns-in_err-id c = rw (handed-on _ c.from_residual.ensures) (rw (read-err (varlen_at c.args.s.now c.args.at) c.in_err-id.ensures))

pub returns : goal.returns
unfolding field_at
returns c = rw (read-ok (varlen_at c.args.s.now c.args.at) c.in_ok-id.ensures) c.read_value.ensures
