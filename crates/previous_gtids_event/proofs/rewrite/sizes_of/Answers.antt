use lib.Dec.{ltb}
use mathlib.Core.Bool.{◌||◌}
use Prim.Native.Nat.{◌+◌, ◌*◌}
use native.Mathlib.Omega.{arith}
use mathlib.Core.Path.{sym, ◌∙◌}
use Rattle.misc.proofs.ParseLaws.{handed-on, answered-err}
use Rattle.misc.proofs.Walk.{walk-next, walk_refused, walk_end}
use Rattle.previous_gtids_event.specs.Inside.{whole_told}
use Rattle.previous_gtids_event.specs.Previous.{entry_at}
use Rattle.previous_gtids_event.proofs.Rewriting.{gathered, sizes_after, sizes-end, sized}
use Rattle.previous_gtids_event.proofs.Reading.{whole-told}
use Rattle.previous_gtids_event.proofs.rewrite.sizes_of.Goals as goal

pub returns-in_err-read-clause-value : goal.returns-in_err-read-clause-value
returns-in_err-read-clause-value c = let l = c.loop in
    let e = answered-err whole_told _ c.in_err-read.ensures.value in
    handed-on _ c.from_residual.ensures
    ∙ sym (walk_refused sizes_after _ _ _ (gathered l.tagged l.plain l.full) l.at l.counter l.invariant.so_far (omega arith) _ e)

pub loop-preserved : goal.loop-preserved
loop-preserved c = let header = c.args.header in
    let s = c.args.body.now in
    let l = c.loop in
    let r = c.in_ok-read.read in
    let places = c.in_ok-read.ensures.places in
    let m = sized header.tagged s l.at r (whole-told header.tagged s l.at r c.in_ok-read.ensures.value) _ c.varlen_uint_size.ensures.0 in
    record {
      within = places.2;
      plain_within = omega (arith, places);
      full_within = omega (arith, places);
      so_far = walk-next sizes_after (entry_at header.tagged s) header.entries _ (gathered l.tagged l.plain l.full) l.at l.counter l.invariant.so_far
          (omega arith) m.entry _ m.is
          (gathered (l.tagged || ltb 0 r.value.tag_len) (l.plain + (24 + 16 * r.value.intervals))
          (l.full + (24 + 16 * r.value.intervals + c.varlen_uint_size.result + r.value.tag_len)))
          (m.more l.tagged l.plain l.full);
    }

pub returns-clause-value : goal.returns-clause-value
returns-clause-value c = let header = c.args.header in
    let l = c.loop in
    sym (walk_end sizes_after (entry_at header.tagged c.args.body.now) header.entries _ (gathered l.tagged l.plain l.full) l.at l.counter
    l.invariant.so_far (omega arith)
    ∙ sizes-end l.tagged l.plain l.full l.at)
