-- `set_join::take_in::join_body` meets its contract.
use Prim.Native.Nat.{◌+◌, ◌-◌}
use mathlib.Core.Path.{◌≡◌, refl, sym, ◌∙◌}
use native.Mathlib.Omega.{arith}
use Rattle.set_join.proofs.EntryLaws.{header-there, next-there}
use Rattle.set_join.proofs.FoldLaws.{folding-none, folding-all, folding-next, folding-room, folding-turn}
use Rattle.set_join.proofs.take_in.join_body.Goals as goal

pub unwrap-header-requires : goal.unwrap-header-requires
unwrap-header-requires c = header-there c.args.body.now c.requires.body_value.0 _ c.header_of.ensures

pub loop-init : goal.loop-init
loop-init c =
    let a = c.args in
    let read = c.requires.body_value in
    record {
      kept = refl;
      spare_kept = refl;
      folding =
          folding-none a.body.now (sym c.unwrap-header.ensures ∙ c.header_of.ensures) read.0 read.1 a.held.now a.is c.requires.held_is _ (omega arith);
    }

pub unwrap-entry-requires : goal.unwrap-entry-requires
unwrap-entry-requires c =
    let f = c.loop.invariant.folding in
    next-there _ _ _ _ f.small (omega arith) f.whole _ c.entry_at.ensures

pub join_entry-set-requires-clause-entry_is : goal.join_entry-set-requires-clause-entry_is
join_entry-set-requires-clause-entry_is c =
    folding-next _ _ _ _ _ _ _ _ c.loop.invariant.folding (omega arith) (sym c.unwrap-entry.ensures ∙ c.entry_at.ensures)

pub join_entry-set-requires-clause-room : goal.join_entry-set-requires-clause-room
join_entry-set-requires-clause-room c =
    let l = c.loop in
    let is = l.invariant in
    folding-room _ _ _ _ _ _ _ _ is.folding (omega arith) (sym c.unwrap-entry.ensures ∙ c.entry_at.ensures) l.spare
    (omega (arith, is.kept, c.requires.room.wide)) (omega (arith, is.kept, is.spare_kept, c.requires.room.alike))
    (omega (arith, is.kept, c.requires.room.small))

pub loop-preserved : goal.loop-preserved
loop-preserved c =
    let l = c.loop in
    let call = c.join_entry-set in
    let n = c.unwrap-header.result.entries in
    let less : n - (l.counter + 1) ≡ n - l.counter - 1 = omega arith in
    record {
      kept = call.auto.held ∙ l.invariant.kept;
      spare_kept = call.auto.spare ∙ l.invariant.spare_kept;
      folding = rw less (folding-turn _ _ _ _ _ _ _ _ l.invariant.folding (omega arith) (sym c.unwrap-entry.ensures ∙ c.entry_at.ensures) _ _
          call.ensures.held_is_2 call.ensures.result_after);
    }

pub returns-clause-result_after : goal.returns-clause-result_after
returns-clause-result_after c = folding-all _ _ _ _ _ _ _ _ c.loop.invariant.folding (omega arith)
