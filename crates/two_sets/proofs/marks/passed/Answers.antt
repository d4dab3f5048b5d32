-- `two_sets::marks::passed` meets its contract.
use native.Mathlib.Omega.{arith}
use Rattle.two_sets.proofs.marks.passed.Goals as goal

pub overflow_add-result : goal.overflow_add-result
overflow_add-result c = let h = c.requires c.if-passes.true in record { fits = omega arith }

pub overflow_sub-result : goal.overflow_sub-result
overflow_sub-result c = let h = c.requires c.if-passes.true in omega arith

pub returns-then-passes : goal.returns-then-passes
returns-then-passes c = rw c.if-passes.true
