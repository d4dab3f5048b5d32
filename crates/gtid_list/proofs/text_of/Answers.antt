-- `gtid_list::text_of` meets its contract: what was read tells the listing, and the text has room.
use native.Mathlib.Omega.{arith}
use Rattle.gtid_list.proofs.ProgramLaws.{text-written, text-listed}
use Rattle.gtid_list.proofs.text_of.Goals as goal

pub unwrap-requires : goal.unwrap-requires
unwrap-requires c = let a = c.args in
    text-written a.input.now a.len a.text.now _ _ (λ i. (c.type_inv.input i).fits) (omega arith) c.list_input.ensures.value c.list_input.ensures.out_after

pub returns : goal.returns
returns c = let a = c.args in
    text-listed a.input.now a.len a.text.now _ _ (λ i. (c.type_inv.input i).fits) (omega arith) c.list_input.ensures.value c.list_input.ensures.out_after
    (omega arith) c.unwrap.ensures
