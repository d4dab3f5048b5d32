-- `gtid_event_write::tagged::write_tagged_fields_v2` meets its contract.
use native.Mathlib.Omega.{arith}
use borrow.Author.Rules.{rules}
use Rattle.gtid_event.proofs.FitsLaws.{fits}
use Rattle.gtid_event_write.proofs.WritableLaws.{tagged-fits}
use Rattle.gtid_event_write.proofs.TaggedLaws.{fields-placed}
use Rattle.gtid_event_write.proofs.TotalsLaws.{fields_within}
use Rattle.gtid_event_write.proofs.tagged.write_tagged_fields_v2.Goals as goal

pub returns : goal.returns
returns c =
    let few = (fields_within c.args.event (fits c.args.event _ c.well_formed.0) (tagged-fits _ c.requires.0)).most in
    let identity = c.put_identity.ensures in
    let clock = c.put_clock.ensures in
    let rest = c.put_rest.ensures in
    fields-placed c.args.event (omega (arith, few)) c.requires.1 identity clock rest (search (rules, identity.same, clock.same, rest.same))
