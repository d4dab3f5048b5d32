-- `abi::gtid_binlog_end` meets its contract.
use mathlib.Core.Path.{ap, ◌∙◌}
use Rattle.binlog_reader.specs.Step.{end_answers_of}
use Rattle.abi.proofs.FlatBinlogLaws.{no_reader, kept-told}
use Rattle.abi.proofs.gtid_binlog_end.Goals as goal

as_value_reader_after : {A B : Type 0} → A × B → record { value : A; reader_after : B }
as_value_reader_after p = record { value = p.0; reader_after = p.1 }

pub returns-then-reader-ne-READER_SIZE : goal.returns-then-reader-ne-READER_SIZE
returns-then-reader-ne-READER_SIZE c = as_value_reader_after (rw c.number.ensures (no_reader c.args.reader.now c.if-reader-ne-READER_SIZE.true _))

pub returns : goal.returns
returns c = as_value_reader_after (let told = c.end-ended.ensures ∙ ap end_answers_of c.reader_in.ensures in
    kept-told c.args.reader.now c.if-reader-ne-READER_SIZE.false _ _ _ _ told (c.keep_step.ensures.value, c.keep_step.ensures.reader_after))
