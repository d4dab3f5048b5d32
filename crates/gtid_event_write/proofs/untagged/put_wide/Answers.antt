-- `gtid_event_write::untagged::put_wide` meets its contract.
use mathlib.Core.Logic.{inl, inr}
use Rattle.misc.proofs.PutLaws.{puts-fit}
use Rattle.gtid_event_write.proofs.untagged.put_wide.Goals as goal

pub returns-then-this-eq-IMMEDIATE_COMMIT_TIMESTAMP_LENGTH : goal.returns-then-this-eq-IMMEDIATE_COMMIT_TIMESTAMP_LENGTH
returns-then-this-eq-IMMEDIATE_COMMIT_TIMESTAMP_LENGTH g c =
    rw c.if-this-eq-IMMEDIATE_COMMIT_TIMESTAMP_LENGTH.true (puts-fit c.u56_le.ensures)

pub returns : goal.returns
returns g c = elim c.requires.0 [
  | inl seven ↦ absurd (c.if-this-eq-IMMEDIATE_COMMIT_TIMESTAMP_LENGTH.false seven)
  | inr four ↦ rw four (puts-fit c.u32_le.ensures)
]
