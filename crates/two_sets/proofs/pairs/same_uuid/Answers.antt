use Rattle.std.specs.declared.cmp.Ordering.TheVariants.{Less, Equal, Greater}
use Rattle.two_sets.proofs.PairLaws.{tags-say}
use Rattle.two_sets.proofs.pairs.same_uuid.Goals as goal

pub returns-in-Less : goal.returns-in-Less
returns-in-Less c =
    let a = c.args in
    rw (c.pair_of.ensures, c.key_of-key.ensures)
    (tags-say a.first.now a.second.now a.from c.requires.cursors_are _ _ c.entry_here-one.ensures c.entry_here-two.ensures c.requires.uuid_next Less
    (rw (c.piece.ensures, c.piece-2.ensures) at c.in-Less.ensures))

pub returns-in-Equal : goal.returns-in-Equal
returns-in-Equal c =
    let a = c.args in
    rw (c.pair_of-in-Equal.ensures, c.key_of-key.ensures)
    (tags-say a.first.now a.second.now a.from c.requires.cursors_are _ _ c.entry_here-one.ensures c.entry_here-two.ensures c.requires.uuid_next Equal
    (rw (c.piece.ensures, c.piece-2.ensures) at c.in-Equal.ensures))

pub returns-in-Greater : goal.returns-in-Greater
returns-in-Greater c =
    let a = c.args in
    rw (c.pair_of-in-Greater.ensures, c.key_of.ensures)
    (tags-say a.first.now a.second.now a.from c.requires.cursors_are _ _ c.entry_here-one.ensures c.entry_here-two.ensures c.requires.uuid_next Greater
    (rw (c.piece.ensures, c.piece-2.ensures) at c.in-Greater.ensures))
