-- `text::digits::put_decimal` meets its contract.
use mathlib.Core.Path.{◌∙◌}
use borrow.Author.Rules.{rules}
use Rattle.text.proofs.DigitLaws.{decimal-is, decimal-one}
use Rattle.text.proofs.digits.put_decimal.Goals as goal

pub returns-then-n-lt10 : goal.returns-then-n-lt10
returns-then-n-lt10 c = rw (decimal-one c.args.n c.if-n-lt10.true) c.byte.ensures

pub returns : goal.returns
returns c = rw (c.as_bytes.ensures.value ∙ c.format.ensures.text ∙ decimal-is c.args.n (search rules)) at c.bytes.ensures
