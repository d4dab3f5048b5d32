-- `set_join::take_in::merge` meets its contract.
use Prim.Native.Nat.{ℕ}
use mathlib.Core.List.{List}
use mathlib.Core.Path.{refl, ap, ◌∙◌}
use native.Mathlib.Omega.{arith}
use lib.ListN.{replicate, length-replicate}
use Rattle.misc.specs.Output.{output_of, answer_of}
use Rattle.previous_gtids_event.specs.Entry.{Entry}
use Rattle.previous_gtids_event.specs.Previous.{previous}
use Rattle.gtid_sets.specs.TakeIn.{union}
use Rattle.set_check.specs.SetOf.{entries_of}
use Rattle.set_join.specs.Answers.{saved}
use Rattle.set_join.specs.TakeIn.{held_set}
use Rattle.set_join.specs.declared.Held.{Held}
use Rattle.set_join.proofs.JoinInLaws.{into-starts, into-set}
use Rattle.misc.proofs.Clauses.{both}
use Rattle.set_join.proofs.take_in.merge.Goals as goal

pub join_body-joined-requires-clause-held_is : goal.join_body-joined-requires-clause-held_is
join_body-joined-requires-clause-held_is g c =
    let w = c.write_bytes in
    let buffer = replicate {A = ℕ} g.row.N 0 in
    let size = length-replicate {A = ℕ} g.row.N 0 in
    rw c.lent.ensures
    (into-starts _ _ c.requires.fits c.args.body.now buffer _ (omega (arith, c.requires.room.0, size)) w.ensures.out_after w.auto.out
    buffer refl (omega (arith, c.requires.room.1, size))).0

pub join_body-joined-requires-clause-room : goal.join_body-joined-requires-clause-room
join_body-joined-requires-clause-room g c =
    let w = c.write_bytes in
    let buffer = replicate {A = ℕ} g.row.N 0 in
    let size = length-replicate {A = ℕ} g.row.N 0 in
    rw c.lent.ensures
    (into-starts _ _ c.requires.fits c.args.body.now buffer _ (omega (arith, c.requires.room.0, size)) w.ensures.out_after w.auto.out
    buffer refl (omega (arith, c.requires.room.1, size))).1

pub returns : goal.returns
returns g c =
    let out = c.args.out.now in
    let w = c.write_bytes in
    let buffer = replicate {A = ℕ} g.row.N 0 in
    let size = length-replicate {A = ℕ} g.row.N 0 in
    let wrote = c.write_set.ensures in
    let first = into-set _ _ c.requires.fits c.args.body.now buffer _ (omega (arith, c.requires.room.0, size)) w.ensures.out_after w.auto.out in
    let read = entries_of (previous c.args.body.now) in
    let all = c.join_body-joined.ensures.result_after ∙ ap (λ (h : Held). union read (held_set w.new.out h)) c.lent.ensures ∙ ap (union read) first in
    both (
      wrote.value ∙ ap (λ (x : List Entry). answer_of out (saved x)) all,
      wrote.out_after ∙ ap (λ (x : List Entry). output_of out (saved x)) all,
    )
