-- `set_join::join::put_joined` meets its contract.
use Rattle.std.proofs.Common.{rules}
use Rattle.misc.proofs.PutLaws.{◌and◌, puts-fit}
use Rattle.set_join.proofs.PutLaws.{put_into}
use Rattle.set_join.proofs.join.put_joined.Goals as goal

pub returns : goal.returns
returns c =
    put_into
    (puts-fit c.put_header.ensures and c.put_entries.ensures and c.put_head_of.ensures and c.put_spliced.ensures and c.put_entries-2.ensures)
    (search (rules, c.put_header.ensures.same, c.put_entries.ensures.same, c.put_head_of.ensures.same, c.put_spliced.ensures.same, c.put_entries-2.ensures.same))
