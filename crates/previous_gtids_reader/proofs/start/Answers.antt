-- `previous_gtids_reader::start` meets its contract.
use mathlib.Core.Path.{◌∙◌}
use Rattle.misc.proofs.ParseLaws.{handed-on}
use Rattle.previous_gtids_reader.proofs.StepLaws.{start-refused, start-read}
use Rattle.previous_gtids_reader.proofs.start.Goals as goal

pub returns-in_err-header : goal.returns-in_err-header
returns-in_err-header c = handed-on _ c.from_residual.ensures ∙ start-refused _ c.in_err-header.ensures

pub returns : goal.returns
returns c = start-read _ _ c.in_ok-header.ensures
