-- `gtid_event_write::untagged::len_untagged` meets its contract.
use mathlib.Core.Path.{◌≡◌}
use Prim.Native.Nat.{◌^◌}
use native.Mathlib.Omega.{arith}
use lib.ListN.{length}
use borrow.Author.Rules.{rules}
use Rattle.gtid_event_write.proofs.LayoutLaws.{length-short, length-long}
use Rattle.gtid_event_write.proofs.untagged.len_untagged.Goals as goal

pub returns-then-event-eq0 : goal.returns-then-event-eq0
returns-then-event-eq0 c = let e = c.args.event in
    let sized : length e.sid ≡ 16 = search rules in
    omega (arith, length-short e sized c.if-event-eq0.true)

pub returns : goal.returns
returns c = let e = c.args.event in
    let sized : length e.sid ≡ 16 = search rules in
    omega (arith, length-long e sized c.if-event-eq0.false, c.pair_len.ensures.0 (2 ^ 55), c.pair_len-2.ensures.0 (2 ^ 31))
