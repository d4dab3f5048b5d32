use Rattle.report.proofs.SumLaws.{sums-made}
use Rattle.report.proofs.sums.sum_of.Goals as goal

pub returns : goal.returns
returns c =
    sums-made c.args.lines.now _ _ _ _ _ c.all_ids-ids.ensures c.entries_of.ensures c.intervals_of.ensures c.high_word.ensures c.low_word.ensures
