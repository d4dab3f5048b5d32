-- `text::lines::refused_len` meets its contract.
use native.Mathlib.Omega.{arith}
use Rattle.text.proofs.LineLaws.{refused-long}
use Rattle.text.proofs.lines.refused_len.Goals as goal

pub returns : goal.returns
returns c = (omega (arith, c.decimal_len.ensures.0, refused-long c.args.refusal), omega arith)
