-- `listing::event_text::list_gtid` meets its contract.
use Rattle.gtid_event_read.proofs.NamedLaws.{named-parts}
use Rattle.listing.proofs.EventTextLaws.{same_text, text-refused, text-anonymous, text-id}
use Rattle.misc.proofs.Clauses.{both}
use Rattle.listing.proofs.event_text.list_gtid.Goals as goal

pub returns-in-Err : goal.returns-in-Err
returns-in-Err c =
    let a = c.args in
    let text = c.write_refused.ensures in
    let refused = text-refused a.event_type a.body.now _ c.in-Err.ensures in
    both (same_text a.out.now refused (rw c.number.ensures at text.value, rw c.number.ensures at text.out_after))

pub returns-in-Ok : goal.returns-in-Ok
returns-in-Ok c =
    let a = c.args in
    let anonymous = text-anonymous a.event_type a.body.now _ c.in-Ok.ensures c.if-event_type-eq-ANONYMOUS_GTID_EVENT.true in
    let text = c.write_bytes.ensures in
    both (same_text a.out.now anonymous (text.value, text.out_after))

pub write_id-requires : goal.write_id-requires
write_id-requires c = named-parts c.args.event_type c.args.body.now c.in-Ok.ensures (λ i. (c.type_inv.body i).fits)

pub returns-in-Ok-2 : goal.returns-in-Ok-2
returns-in-Ok-2 c =
    let a = c.args in
    let id = text-id a.event_type a.body.now _ c.in-Ok.ensures c.if-event_type-eq-ANONYMOUS_GTID_EVENT.false (λ i. (c.type_inv.body i).fits) in
    let text = c.write_id.ensures in
    both (same_text a.out.now id (text.value, text.out_after))
