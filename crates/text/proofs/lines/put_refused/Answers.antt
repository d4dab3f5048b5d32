-- `text::lines::put_refused` meets its contract.
use native.Mathlib.Omega.{arith}
use Rattle.misc.proofs.PutLaws.{puts-there, puts-short}
use Rattle.text.proofs.LineLaws.{refused-long, refused-put}
use Rattle.text.proofs.lines.put_refused.Goals as goal

pub returns-then-left-refused_len : goal.returns-then-left-refused_len
returns-then-left-refused_len c =
    puts-short _ _ (omega (arith, c.if-left-refused_len.true, c.refused_len.ensures.0, c.left.ensures))

pub returns : goal.returns
returns c = let n = c.args.refusal in
    puts-there (omega (arith, c.if-left-refused_len.false, c.refused_len.ensures.0, c.left.ensures, refused-long n))
    (refused-put n c.bytes.ensures c.put_decimal.ensures c.byte.ensures)
