-- `text::keys::key_len` meets its contract.
use native.Mathlib.Omega.{arith}
use Rattle.std.proofs.lemmas.Bool.Decides.{nat_tests}
use Rattle.text.proofs.KeyTextLaws.{no-tag-long, tag-long}
use Rattle.text.proofs.keys.key_len.Goals as goal

pub returns-then-is_empty : goal.returns-then-is_empty
returns-then-is_empty c = grind (arith, nat_tests, no-tag-long c.args.tag.now)

pub returns : goal.returns
returns c = grind (arith, nat_tests, tag-long c.args.tag.now)
