use mathlib.Core.Path.{◌≡◌}
use native.Mathlib.Omega.{arith}
use Rattle.two_sets.specs.Marks.{going}
use Rattle.two_sets.specs.Pairs.{source_of}
use Rattle.two_sets.proofs.WriteLaws.{none-put, some-put}
use Rattle.two_sets.proofs.write.put_entry.Goals as goal
use Rattle.two_sets.proofs.write.put_entry.Goals.{then-key, else-key}

pub returns-then-marks-eq0-clause-where_fits : goal.returns-then-marks-eq0-clause-where_fits
returns-then-marks-eq0-clause-where_fits g c =
    let a = c.args in
    let marks = c.put_marks-marks.ensures in
    none-put a.first.now a.second.now a.pair.key c.requires.key_is a.tags (going g.O.Operation.op a.first.now a.second.now a.pair.sides) _
    marks.counted a.out.now _ a.at (omega arith) (marks.none (omega arith))

pub returns-clause-where_fits : goal.returns-clause-where_fits
returns-clause-where_fits g c =
    let a = c.args in
    let marks = c.put_marks-marks.ensures in
    let source : source_of a.first.now a.second.now a.pair.key ≡ c.if-key.set.now =
    elim c.if-key.branch [ then-key w ↦ rw w.if-key.true (cc) | else-key w ↦ rw w.if-key.false (cc) ] in
    some-put a.first.now a.second.now a.pair.key c.requires.key_is a.tags (going g.O.Operation.op a.first.now a.second.now a.pair.sides) _
    marks.counted a.out.now _ a.at c.if-marks-eq0.false _ source _ _ _ _ c.head_len.ensures marks.fits c.put_key.ensures
