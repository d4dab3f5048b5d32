use Rattle.misc.proofs.Clauses.{both}
use Rattle.resume_set.proofs.AnswerLaws.{event-broken, event-id, event-none, offer-broken}
use Rattle.resume_set.proofs.offer.Goals as goal

pub returns-in-Ok : goal.returns-in-Ok
returns-in-Ok c =
    rw (event-id c.args.event_type c.args.body.now c.in-Ok.ensures c.if-event_type-ne-ANONYMOUS_GTID_EVENT.true) c.offer_id.ensures

pub returns-in-Ok-2 : goal.returns-in-Ok-2
returns-in-Ok-2 c =
    rw (event-none c.args.event_type c.args.body.now c.in-Ok-2.ensures c.if-event_type-ne-ANONYMOUS_GTID_EVENT.false) c.offer_none.ensures

pub returns-in_ok-check-in-Err : goal.returns-in_ok-check-in-Err
returns-in_ok-check-in-Err c =
    rw (event-broken c.args.event_type c.args.body.now c.in-Err.ensures)
    (both (offer-broken c.args.set.now c.args.out.now c.in_ok-check-in-Err.ensures c.in-Err.refusal))
