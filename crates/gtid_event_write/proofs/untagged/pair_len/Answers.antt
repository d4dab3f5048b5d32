-- `gtid_event_write::untagged::pair_len` meets its contract.
use native.Mathlib.Omega.{arith}
use lib.ListN.{length-append}
use borrow.Author.Tests.{eq-eqb, ne_eqb}
use Rattle.misc.proofs.LeLaws.{length-le_bytes}
use Rattle.gtid_event_write.proofs.untagged.pair_len.Goals as goal

pub returns-then-immediate-original : goal.returns-then-immediate-original
returns-then-immediate-original c = (λ mark. simp (eq-eqb _ _ c.if-immediate-original.true, length-le_bytes), omega arith)

pub returns : goal.returns
returns c = (λ mark. simp (ne_eqb _ _ c.if-immediate-original.false, length-append, length-le_bytes), omega arith)
