-- `text::digits::decimal_len` meets its contract.
use native.Mathlib.Omega.{arith}
use Rattle.text.proofs.DigitLaws.{decimal-count}
use Rattle.text.proofs.digits.decimal_len.Goals as goal

pub returns : goal.returns
returns c = let log = c.ilog10.ensures in
    (decimal-count c.args.n _ (rw c.max.ensures at log.power_le) (rw c.max.ensures at log.next_power_gt) log.bound, omega (arith, log.bound))
