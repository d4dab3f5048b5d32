use mathlib.Core.Path.{refl}
use Rattle.two_sets.proofs.PairLaws.{first_next, second-next}
use Rattle.two_sets.proofs.pairs.next_pair.Goals as goal

pub returns-in-Less : goal.returns-in-Less
returns-in-Less c = rw (c.pair_of.ensures, c.key_of.ensures)
    (first_next c.args.first.now c.args.second.now c.args.from c.requires.cursors_are _ _ c.entry_here-one.ensures refl
    c.in-Less.ensures).1

pub returns-in-Greater : goal.returns-in-Greater
returns-in-Greater c = rw (c.pair_of-in-Greater.ensures, c.key_of-in-Greater.ensures)
    (second-next c.args.first.now c.args.second.now c.args.from c.requires.cursors_are _ _ refl c.entry_here-two.ensures
    c.in-Greater.ensures).1
