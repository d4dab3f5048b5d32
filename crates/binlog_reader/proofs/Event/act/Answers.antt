-- `binlog_reader::Event::act` meets its contract.
use Rattle.std.proofs.lemmas.Result.{err_from_is_err_and}
use Rattle.binlog_reader.proofs.DoesLaws.{offer-fails}
use Rattle.binlog_reader.proofs.Event.act.Goals as goal

pub returns-in_err-offered : goal.returns-in_err-offered
returns-in_err-offered c =
    let p = err_from_is_err_and c.from_residual-in_err-offered.result c.from_residual-in_err-offered.ensures.1 in
    let e = c.in_err-offered.ensures in
    rw (p.1, p.2) (offer-fails _ _ _ _ _ _ c.if-self-eq-PREVIOUS_GTIDS_EVENT.false e.value e.out_after)
