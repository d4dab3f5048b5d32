-- `gtid_event_write::writable::cleared_beyond` meets its contract.
use mathlib.Core.Path.{◌≡◌, sym, ap, ◌∙◌}
use Prim.Native.Nat.{◌-◌}
use native.Mathlib.Omega.{arith}
use lib.ListN.{length, take, drop, length-drop}
use lib.Seq.{take_all}
use Rattle.std.proofs.lemmas.List.{drop_min}
use Rattle.gtid_event_write.specs.Writable.{all_zero}
use Rattle.gtid_event_write.proofs.WritableLaws.{joined-next, joined-all}
use Rattle.gtid_event_write.proofs.writable.cleared_beyond.Goals as goal

pub loop-b-preserved : goal.loop-b-preserved
loop-b-preserved c = c.loop-b.invariant ∙ joined-next _ c.loop-b.b-index c.loop-b.joined (omega arith)

pub returns : goal.returns
returns c =
    let tag = c.args.tag.now in
    let from = c.min-from.result in
    let part : take (length tag - from) (drop from tag) ≡ drop from tag = take_all (length tag - from) (drop from tag) (simp length-drop (omega arith)) in
    sym (c.loop-b.invariant ∙ joined-all _ c.loop-b.b-index c.loop-b.joined (omega arith))
    ∙ ap all_zero (part ∙ rw c.min-from.ensures (drop_min c.args.tag_len tag))
