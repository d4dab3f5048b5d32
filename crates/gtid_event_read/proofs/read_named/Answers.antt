-- `gtid_event_read::read_named` meets its contract.
-- Assumes nothing.
use mathlib.Core.Path.{◌∙◌}
use Rattle.misc.proofs.ParseLaws.{handed-on}
use Rattle.gtid_event_read.proofs.PresentLaws.{named-broken, named-sent, named-absent}
use Rattle.gtid_event_read.proofs.read_named.Goals as goal

pub returns-in_err-said : goal.returns-in_err-said
returns-in_err-said c = handed-on _ c.from_residual.ensures ∙ named-broken c.args.event_type c.args.body.now c.in_err-said.ensures

pub returns-then-sends_id : goal.returns-then-sends_id
returns-then-sends_id c = named-sent c.args.event_type c.args.body.now c.in_ok-said.ensures c.sends_id.ensures c.if-sends_id.true

pub returns : goal.returns
returns c = named-absent c.args.event_type c.args.body.now c.in_ok-said.ensures c.sends_id.ensures c.if-sends_id.false
