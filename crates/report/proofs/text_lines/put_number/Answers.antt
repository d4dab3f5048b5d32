-- `report::text_lines::put_number` meets its contract.
use Rattle.misc.proofs.PutLaws.{◌and◌, puts-fit}
use Rattle.report.proofs.text_lines.put_number.Goals as goal

pub returns : goal.returns
returns c = puts-fit c.byte.ensures and puts-fit c.put_decimal.ensures
