-- `gtid_event_read::untagged::read_opening` meets its contract.
-- Assumes nothing.
use mathlib.Core.Path.{◌≡◌, ◌∙◌}
use native.Mathlib.Omega.{arith}
use Rattle.misc.specs.Le.{le_of}
use Rattle.misc.specs.Parse.{part}
use Rattle.misc.proofs.NumberLaws.{number-here}
use Rattle.gtid_event_read.proofs.UntaggedLaws.{uuid-here}
use Rattle.gtid_event_read.proofs.untagged.read_opening.Goals as goal

pub returns : goal.returns
returns c =
    let s = c.args.s.now in
    let sid : c.uuid_bytes-sid.result ≡ part s 1 16 = c.uuid_bytes-sid.ensures ∙ uuid-here s c.requires in
    let gno : c.number_at.result ≡ le_of (part s 17 8) = c.number_at.ensures ∙ number-here s 17 (omega arith) in
    rw (c.new-event.ensures, sid, gno)
