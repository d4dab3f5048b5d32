-- `two_sets::write::head_len` meets its contract.
use Rattle.two_sets.proofs.write.head_len.Goals as goal

pub returns-then-tags : goal.returns-then-tags
returns-then-tags c = rw c.if-tags.true
