-- `abi::write_record` meets its contract.
use Rattle.misc.proofs.Clauses.{both}
use Rattle.abi.proofs.FlatLaws.{write-unfit, write-told}
use Rattle.abi.proofs.write_record.Goals as goal

pub returns-then-fields-ne-RECORD_SIZE : goal.returns-then-fields-ne-RECORD_SIZE
returns-then-fields-ne-RECORD_SIZE c = both (write-unfit c.args.fields.now c.args.out.now c.if-fields-ne-RECORD_SIZE.true)

pub returns : goal.returns
returns c = both (write-told c.args.fields.now c.args.out.now _ _ _ c.if-fields-ne-RECORD_SIZE.false
    c.record_in.ensures (c.write.ensures.value, c.write.ensures.out_after))
