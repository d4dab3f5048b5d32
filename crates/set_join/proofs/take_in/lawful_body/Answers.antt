-- `set_join::take_in::lawful_body` meets its contract.
use Prim.Native.Nat.{◌+◌, ◌-◌}
use mathlib.Core.Path.{◌≡◌, sym, ◌∙◌}
use native.Mathlib.Omega.{arith}
use Rattle.set_join.proofs.EntryLaws.{header-there, next-there}
use Rattle.set_join.proofs.LawfulLaws.{lawful-none, lawful-all, entry-inside, lawful-turn, lawful-stops}
use Rattle.set_join.proofs.take_in.lawful_body.Goals as goal

pub unwrap-header-requires : goal.unwrap-header-requires
unwrap-header-requires c = header-there c.args.body.now c.requires _ c.header_of.ensures

pub loop-init : goal.loop-init
loop-init c = lawful-none c.args.body.now (sym c.unwrap-header.ensures ∙ c.header_of.ensures) c.requires _ (omega arith)

pub unwrap-entry-requires : goal.unwrap-entry-requires
unwrap-entry-requires c =
    let l = c.loop in
    next-there _ _ _ _ l.invariant.small (omega arith) l.invariant.whole _ c.entry_at.ensures

pub slice_bounds-proper_in-end : goal.slice_bounds-proper_in-end
slice_bounds-proper_in-end c = (entry-inside _ _ _ _ c.loop.invariant (omega arith) (sym c.unwrap-entry.ensures ∙ c.entry_at.ensures)).1

pub returns-then-not-proper_in : goal.returns-then-not-proper_in
returns-then-not-proper_in c =
    lawful-stops _ _ _ _ c.loop.invariant (omega arith) (sym c.unwrap-entry.ensures ∙ c.entry_at.ensures) _ c.proper_in.ensures c.if-not-proper_in.true

pub loop-preserved : goal.loop-preserved
loop-preserved c =
    let n = c.unwrap-header.result.entries in
    let less : n - (c.loop.counter + 1) ≡ n - c.loop.counter - 1 = omega arith in
    rw less
    (lawful-turn _ _ _ _ c.loop.invariant (omega arith) (sym c.unwrap-entry.ensures ∙ c.entry_at.ensures) _ c.proper_in.ensures c.if-not-proper_in.false)

pub returns : goal.returns
returns c = lawful-all _ _ _ _ c.loop.invariant (omega arith)
