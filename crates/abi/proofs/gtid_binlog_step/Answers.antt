-- `abi::gtid_binlog_step` meets its contract.
use Rattle.abi.proofs.FlatBinlogLaws.{step-none, step-told}
use Rattle.abi.proofs.gtid_binlog_step.Goals as goal

as_clauses : {A B C D E : Type 0} → A × (B × (C × (D × E))) → record { value : A; reader_after : B; set_after : C; spare_after : D; front : E }
as_clauses p = record { value = p.0; reader_after = p.1.0; set_after = p.1.1.0; spare_after = p.1.1.1.0; front = p.1.1.1.1 }

pub returns-then-reader-ne-READER_SIZE : goal.returns-then-reader-ne-READER_SIZE
returns-then-reader-ne-READER_SIZE c = as_clauses (let a = c.args in
    rw c.number.ensures (step-none a.reader.now c.if-reader-ne-READER_SIZE.true _ _ a.set.now a.spare.now a.work.now))

pub returns : goal.returns
returns c = as_clauses (let a = c.args in
    step-told a.reader.now c.if-reader-ne-READER_SIZE.false _ c.reader_in-before.ensures a.work.now _ a.set.now _ a.spare.now _ a.chunk.now _ (
      c.step-stepped.ensures.value,
      (
        c.step-stepped.ensures.set_after,
        (
          c.step-stepped.ensures.spare_after,
          c.step-stepped.ensures.front,
        ),
      ),
    ) _ _ (c.keep_step.ensures.value, c.keep_step.ensures.reader_after))
