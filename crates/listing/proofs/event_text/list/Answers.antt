-- `listing::event_text::list` meets its contract.
use Rattle.listing.proofs.EventTextLaws.{same_text, event-previous, event-gtid}
use Rattle.misc.proofs.Clauses.{both}
use Rattle.listing.proofs.event_text.list.Goals as goal

pub returns-then-event_type-eq-PREVIOUS_GTIDS_EVENT : goal.returns-then-event_type-eq-PREVIOUS_GTIDS_EVENT
returns-then-event_type-eq-PREVIOUS_GTIDS_EVENT c =
    let a = c.args in
    let text = c.list_previous.ensures in
    both (same_text a.out.now (event-previous a.event_type a.body.now c.if-event_type-eq-PREVIOUS_GTIDS_EVENT.true) (text.value, text.out_after))

pub returns : goal.returns
returns c =
    let a = c.args in
    let text = c.list_gtid.ensures in
    both (same_text a.out.now (event-gtid a.event_type a.body.now c.if-event_type-eq-PREVIOUS_GTIDS_EVENT.false) (text.value, text.out_after))
