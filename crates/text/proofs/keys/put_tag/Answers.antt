-- `text::keys::put_tag` meets its contract.
use native.Mathlib.Omega.{arith}
use Rattle.std.proofs.lemmas.Bool.Decides.{nat_tests}
use Rattle.text.proofs.KeyTextLaws.{no-tag-put, tag-put}
use Rattle.text.proofs.keys.put_tag.Goals as goal

pub returns-then-is_empty : goal.returns-then-is_empty
returns-then-is_empty c = no-tag-put c.args.tag.now c.args.put.now (grind (arith, nat_tests))

pub returns : goal.returns
returns c = tag-put c.args.tag.now (λ e. grind (arith, nat_tests)) c.byte.ensures c.bytes.ensures
