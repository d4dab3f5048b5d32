-- `misc::signed::sent_as` meets its contract.
use Rattle.misc.proofs.SignedLaws.{turned, kept}
use Rattle.misc.proofs.signed.sent_as.Goals as goal

pub returns-then-value-lt0 : goal.returns-then-value-lt0
returns-then-value-lt0 c = let n = turned c.args.value c.ranges.value c.if-value-lt0.true in rw n.2 n.4

pub returns : goal.returns
returns c = let n = kept c.args.value c.ranges.value c.if-value-lt0.false in rw n.1 n.3
