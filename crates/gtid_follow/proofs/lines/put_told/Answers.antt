-- `gtid_follow::lines::put_told` meets its contract, answer by answer.
use Rattle.misc.proofs.PutLaws.{puts-fit}
use Rattle.gtid_follow.proofs.lines.put_told.Goals as goal

pub returns-in-NoId : goal.returns-in-NoId
returns-in-NoId c = rw c.in-NoId.is (puts-fit c.bytes.ensures)

pub returns-in-Joined : goal.returns-in-Joined
returns-in-Joined c = rw c.in-Joined.is (puts-fit c.bytes-in-Joined.ensures)
