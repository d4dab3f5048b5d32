-- `abi::flat_report::line_in` meets its contract.
use Rattle.abi.specs.FlatReport.{line_in}
use Rattle.abi.proofs.flat_report.line_in.Goals as goal

pub returns : goal.returns
unfolding line_in
returns c = rw (c.four_at.ensures, c.four_at-2.ensures, c.four_at-3.ensures, c.number_at.ensures)
