-- `gtid_report::add_next` meets its contract: a report over files and one file more is one over files.
use lib.ListN.{length-take}
use native.Mathlib.Omega.{arith}
use Rattle.gtid_report.proofs.ProgramLaws.{more-built}
use Rattle.gtid_report.proofs.add_next.Goals as goal

pub returns : goal.returns
returns c = more-built c.requires.built c.with_file.ensures (simp length-take (omega arith))
