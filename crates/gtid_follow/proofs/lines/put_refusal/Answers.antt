-- `gtid_follow::lines::put_refusal` is safe: what is written lies within the text.
use native.Mathlib.Omega.{arith}
use Rattle.gtid_follow.proofs.LineLaws.{put-within}
use Rattle.gtid_follow.proofs.lines.put_refusal.Goals as goal

pub flushed-requires-2 : goal.flushed-requires-2
flushed-requires-2 c = omega (arith, put-within _ _ _ (omega (arith, c.with_room-before.ensures.line_room_in_bounds)) c.put_refused.ensures)
