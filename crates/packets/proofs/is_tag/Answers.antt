-- `packets::is_tag` meets its contract.
use Rattle.std.proofs.Common.{sym, arith}
use Rattle.std.proofs.lemmas.Bool.Decides.{nat_tests}
use Rattle.packets.proofs.TagLaws.{no-bytes-no-tag, tag-some}
use Rattle.packets.proofs.is_tag.Goals as goal

pub returns-in-empty : goal.returns-in-empty
returns-in-empty c = sym (no-bytes-no-tag _ (omega arith))

pub returns-then-not-is_ascii_digit : goal.returns-then-not-is_ascii_digit
returns-then-not-is_ascii_digit c = let rule = tag-some c.args.tag.now (omega arith) in grind (arith, nat_tests)

pub returns-else-not-is_ascii_digit : goal.returns-else-not-is_ascii_digit
returns-else-not-is_ascii_digit c = let rule = tag-some c.args.tag.now (omega arith) in grind (arith, nat_tests)
