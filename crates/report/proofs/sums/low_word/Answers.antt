use mathlib.Core.Path.{refl}
use Rattle.report.specs.Report.{low_word}
use Rattle.report.proofs.sums.low_word.Goals as goal

pub returns : goal.returns
unfolding low_word
returns c = refl
