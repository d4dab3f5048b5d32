-- `abi::gtid_read_present` meets its contract.
use Rattle.abi.proofs.FlatLaws.{handed-out}
use Rattle.abi.proofs.gtid_read_present.Goals as goal

pub returns-in-Ok-clause-value : goal.returns-in-Ok-clause-value
returns-in-Ok-clause-value c = let a = c.args in
    (handed-out a.event_type a.body.now a.out.now (λ i. (c.type_inv.body i).fits) c.in-Ok.ensures.value).0

pub returns-in-Ok-clause-used_after : goal.returns-in-Ok-clause-used_after
returns-in-Ok-clause-used_after c = let a = c.args in
    (handed-out a.event_type a.body.now a.out.now (λ i. (c.type_inv.body i).fits) c.in-Ok.ensures.value).1

pub returns-in-Err-clause-value : goal.returns-in-Err-clause-value
returns-in-Err-clause-value c = let a = c.args in
    rw c.number.ensures (handed-out a.event_type a.body.now a.out.now (λ i. (c.type_inv.body i).fits) c.in-Err.ensures.value).0

pub returns-in-Err-clause-used_after : goal.returns-in-Err-clause-used_after
returns-in-Err-clause-used_after c = let a = c.args in
    rw c.needed.ensures (handed-out a.event_type a.body.now a.out.now (λ i. (c.type_inv.body i).fits) c.in-Err.ensures.value).1
