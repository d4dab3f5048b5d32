-- `text::keys::put_key` meets its contract.
use native.Mathlib.Omega.{arith}
use borrow.Author.Rules.{rules}
use Rattle.misc.proofs.PutLaws.{puts-there, puts-short}
use Rattle.text.proofs.KeyTextLaws.{key-put, key-long}
use Rattle.text.proofs.keys.put_key.Goals as goal

pub returns-then-left-key_len : goal.returns-then-left-key_len
returns-then-left-key_len c = let size = key-long c.args.uuid c.args.tag.now (search rules) in
    puts-short _ _ (omega (arith, c.if-left-key_len.true, c.key_len.ensures, c.left.ensures, size))

pub returns : goal.returns
returns c = let size = key-long c.args.uuid c.args.tag.now (search rules) in
    puts-there (omega (arith, c.if-left-key_len.false, c.key_len.ensures, c.left.ensures, size))
    (key-put c.args.uuid c.args.tag.now c.put_uuid.ensures c.put_tag.ensures)
