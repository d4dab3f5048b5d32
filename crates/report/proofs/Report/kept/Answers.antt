use mathlib.Core.Path.{ap}
use Prim.Native.Nat.{ℕ}
use lib.ListN.{take}
use Rattle.report.specs.Report.{max_sets}
use Rattle.report.proofs.Report.kept.Goals as goal

pub returns : goal.returns
unfolding max_sets
returns c = ap (λ (n : ℕ). take n c.args.self.now.lines) c.min.ensures
