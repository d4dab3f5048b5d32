-- `abi::flat_binlog::keep_step` meets its contract.
use mathlib.Core.Path.{ap, ◌∙◌}
use borrow.Author.Rules.{rules}
use Rattle.abi.specs.declared.flat_binlog.SaidNumbers.{SaidNumbers}
use Rattle.abi.proofs.FlatBinlogLaws.{step_kept}
use Rattle.abi.proofs.flat_binlog.keep_step.Goals as goal

as_value_reader_after : {A B : Type 0} → A × B → record { value : A; reader_after : B }
as_value_reader_after p = record { value = p.0; reader_after = p.1 }

pub returns : goal.returns
returns c =
    let told = ap (λ (n : SaidNumbers). n.refusal) c.said_numbers-said.ensures in
    let step = c.put_step.ensures in
    as_value_reader_after (told, search (rules, step.same) ∙ step_kept c.args.step c.requires step)
