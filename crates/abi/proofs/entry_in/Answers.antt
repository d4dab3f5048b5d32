-- `abi::entry_in` meets its contract.
use mathlib.Core.Path.{ap, ◌∙◌}
use Rattle.misc.proofs.ParseLaws.{handed-on}
use Rattle.previous_gtids_event.specs.Answers.{entry_read}
use Rattle.abi.proofs.EntryLaws.{entry-headless, entry-by-header}
use Rattle.abi.proofs.entry_in.Goals as goal

pub returns-in_err-header : goal.returns-in_err-header
returns-in_err-header c = handed-on _ c.from_residual.ensures ∙ entry-headless c.args.body.now c.args.at c.in_err-header.ensures

pub returns : goal.returns
returns c = c.entry_at.ensures ∙ ap entry_read (entry-by-header c.args.body.now c.args.at c.in_ok-header.ensures)
