-- `gtid_follow::lines::put_answer` meets its contract: there is room for the line.
use native.Mathlib.Omega.{arith}
use borrow.Author.Rules.{rules}
use Rattle.gtid_follow.proofs.LineLaws.{line-added}
use Rattle.gtid_follow.proofs.lines.put_answer.Goals as goal

pub returns-clause-added : goal.returns-clause-added
returns-clause-added c = let told = c.put_told.ensures in
    line-added c.args.told c.args.event_type c.args.body.now _ _ c.requires.names (λ i. (c.type_inv.body i).fits)
    (omega (arith, c.with_room-before.ensures.line_room_in_bounds)) told (search (rules, told.same))
