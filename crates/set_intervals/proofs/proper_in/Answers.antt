-- `set_intervals::proper_in` meets its contract.
use mathlib.Core.Path.{◌∙◌, ap}
use borrow.Author.Rules.{rules}
use borrow.Author.Tests.{tests}
use Rattle.std.proofs.lemmas.Iterator.{YieldsList-from_slice, YieldsList-from_map_by}
use Rattle.std.proofs.lemmas.Iterator.Search.{all_from_yields_List}
use Rattle.packets.specs.Gno.{interval, is_interval}
use Rattle.gtid_sets.specs.TakeIn.{proper}
use Rattle.set_intervals.specs.Intervals.{interval_of, told}
use Rattle.set_intervals.specs.declared.Interval as mine
use Rattle.set_intervals.proofs.Walks.{all_proper}
use Rattle.set_intervals.proofs.proper_in.Goals as goal

pub returns : goal.returns
returns c =
    let cs = c.chunks.result.now in
    all_from_yields_List is_interval _ _ _ c.all.ensures.ran
    (YieldsList-from_map_by _ (λ (i : mine.Interval). interval i.start i.end) interval_of (YieldsList-from_slice cs cc) (cc) (λ x r q k. search rules))
    (λ x b q k. search (rules, tests))
    ∙ all_proper (told cs) ∙ ap proper c.chunks.ensures
