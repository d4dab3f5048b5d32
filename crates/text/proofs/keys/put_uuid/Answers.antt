-- `text::keys::put_uuid` meets its contract.
use mathlib.Core.Path.{◌≡◌}
use native.Mathlib.Omega.{arith}
use lib.ListN.{length}
use Rattle.misc.proofs.PutLaws.{puts-there, puts-short}
use Rattle.text.proofs.KeyTextLaws.{uuid-put, uuid-long}
use Rattle.text.proofs.keys.put_uuid.Goals as goal

pub returns-then-left-lt-UUID_TEXT : goal.returns-then-left-lt-UUID_TEXT
returns-then-left-lt-UUID_TEXT c = let u = c.args.uuid in
    let whole : length u ≡ 16 = omega arith in
    puts-short _ _ (omega (arith, c.if-left-lt-UUID_TEXT.true, c.left.ensures, uuid-long u whole))

pub returns : goal.returns
returns c = let u = c.args.uuid in
    let whole : length u ≡ 16 = omega arith in
    puts-there (omega (arith, c.if-left-lt-UUID_TEXT.false, c.left.ensures, uuid-long u whole))
    (uuid-put u c.put_hex.ensures c.byte.ensures c.put_hex-2.ensures c.byte-2.ensures c.put_hex-3.ensures c.byte-3.ensures
    c.put_hex-4.ensures c.byte-4.ensures c.put_hex-5.ensures)
