-- `gtid_report::with_file` meets its contract: what was read tells whether the file is a set, and which.
use native.Mathlib.Omega.{arith}
use Rattle.gtid_report.proofs.ProgramLaws.{file-added}
use Rattle.gtid_report.proofs.with_file.Goals as goal

pub returns : goal.returns
returns c = let a = c.args in
    file-added a.report a.room.now a.len _ (omega arith) c.add.ensures
