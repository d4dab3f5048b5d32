use Rattle.report.proofs.IdLaws.{sizing-none}
use Rattle.report.proofs.ids.size_at.Goals as goal

pub loop-i-init : goal.loop-i-init
loop-i-init c = sizing-none c.args.set.now c.args.first c.args.count c.requires.first_value
