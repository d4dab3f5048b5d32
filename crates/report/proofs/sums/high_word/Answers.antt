use mathlib.Core.Path.{refl}
use Rattle.report.specs.Report.{high_word}
use Rattle.report.proofs.sums.high_word.Goals as goal

pub returns : goal.returns
unfolding high_word
returns c = refl
