-- `two_sets::marks::mark_at` meets its contract.
use native.Mathlib.Omega.{arith}
use Rattle.two_sets.proofs.MarkLaws.{a-mark}
use Rattle.two_sets.proofs.marks.mark_at.Goals as goal

pub returns : goal.returns
returns c = let a = c.args in
    a-mark a.set.now a.side _ (λ h. omega arith) c.number_at.ensures
