-- `report::text_lines::put_counts` meets its contract.
use Rattle.report.proofs.TextLaws.{counts-put}
use Rattle.report.proofs.text_lines.put_counts.Goals as goal

pub returns : goal.returns
returns c =
    counts-put c.args.word.now c.args.counts c.bytes.ensures c.put_number.ensures c.put_number-2.ensures c.put_number-3.ensures
    c.put_number-4.ensures c.byte.ensures
