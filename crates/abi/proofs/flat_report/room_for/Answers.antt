-- `abi::flat_report::room_for` meets its contract.
use native.Mathlib.Omega.{arith}
use Rattle.abi.proofs.FlatReportLaws.{no_place, a-place}
use Rattle.abi.proofs.flat_report.room_for.Goals as goal

pub returns-then-number_at-ge-MAX_SETS : goal.returns-then-number_at-ge-MAX_SETS
returns-then-number_at-ge-MAX_SETS c = no_place c.args.report.now (omega arith) (omega (arith, c.number_at.ensures))

pub returns : goal.returns
returns c = a-place c.args.report.now (omega arith) (omega (arith, c.number_at.ensures))
