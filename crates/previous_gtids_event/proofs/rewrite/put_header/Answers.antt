-- `previous_gtids_event::rewrite::put_header` meets its contract.
use Rattle.previous_gtids_event.proofs.Writing.{header-tagged, header-plain}
use Rattle.previous_gtids_event.proofs.rewrite.put_header.Goals as goal

pub returns-then-tagged : goal.returns-then-tagged
returns-then-tagged c = rw (header-tagged c.args.tagged c.args.count c.if-tagged.true) at c.u64_le.ensures

pub returns-else-tagged : goal.returns-else-tagged
returns-else-tagged c = rw (header-plain c.args.tagged c.args.count c.if-tagged.false) at c.u64_le-else-tagged.ensures
