-- `listing::set_text::put_head` meets its contract.
use Rattle.misc.proofs.PutLaws.{◌and◌, puts-fit}
use Rattle.listing.proofs.set_text.put_head.Goals as goal

pub returns : goal.returns
returns c =
    puts-fit c.bytes.ensures and puts-fit c.bytes-2.ensures and puts-fit c.put_decimal.ensures
    and puts-fit c.bytes-3.ensures and puts-fit c.put_decimal-2.ensures and puts-fit c.byte.ensures
