-- `misc::bytes::write_bytes` meets its contract.
use Rattle.misc.proofs.OutputLaws.{output-fits, output-short}
use native.Mathlib.Omega.{arith}
use mathlib.Core.Path.{refl}
use Rattle.misc.proofs.Clauses.{both}
use Rattle.misc.proofs.bytes.write_bytes.Goals as goal

pub returns-then-out-len : goal.returns-then-out-len
returns-then-out-len c = both (output-short _ _ _ refl c.if-out-len.true)

pub returns : goal.returns
returns c = both (output-fits (omega arith) (record { holds = c.copy.ensures; ends = omega arith }))
