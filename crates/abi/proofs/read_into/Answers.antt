-- `abi::read_into` meets its contract.
use mathlib.Core.Path.{◌∙◌}
use borrow.Author.Rules.{rules}
use Rattle.abi.proofs.FlatLaws.{out-refused, out-short, out-fits}
use Rattle.abi.proofs.read_into.Goals as goal

pub returns-in_err-said-clause-out_after : goal.returns-in_err-said-clause-out_after
returns-in_err-said-clause-out_after c = out-refused c.args.event_type c.args.body.now c.args.out.now c.in_err-said.ensures

pub returns-then-out-lt-RECORD_SIZE-clause-out_after : goal.returns-then-out-lt-RECORD_SIZE-clause-out_after
returns-then-out-lt-RECORD_SIZE-clause-out_after c = let a = c.args in
    out-short a.event_type a.body.now a.out.now (λ i. (c.type_inv.body i).fits) c.in_ok-said.ensures c.if-out-lt-RECORD_SIZE.true

pub returns-clause-out_after : goal.returns-clause-out_after
returns-clause-out_after c = let a = c.args in
    let record_put = c.put_record.ensures in
    search (rules, record_put.same)
    ∙ out-fits a.event_type a.body.now a.out.now (λ i. (c.type_inv.body i).fits) c.in_ok-said.ensures c.if-out-lt-RECORD_SIZE.false record_put.placed
