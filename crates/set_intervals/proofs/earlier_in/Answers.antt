-- `set_intervals::earlier_in` meets its contract.
use mathlib.Core.Path.{◌∙◌, ap}
use borrow.Author.Rules.{rules}
use borrow.Author.Tests.{tests}
use Rattle.std.proofs.lemmas.Iterator.{YieldsList-from_slice, YieldsList-from_map_by}
use Rattle.std.proofs.lemmas.Iterator.Search.{YieldsList-from_take_while}
use Rattle.std.proofs.lemmas.Iterator.Consumers.{count_from_yields_List}
use Rattle.std.proofs.lemmas.List.Folds.{length-prefix_len}
use Rattle.packets.specs.Gno.{interval}
use Rattle.gtid_sets.specs.Splice.{earlier}
use Rattle.set_intervals.specs.Intervals.{interval_of, told}
use Rattle.set_intervals.specs.declared.Interval as mine
use Rattle.set_intervals.proofs.Walks.{ends-before, earlier-is}
use Rattle.set_intervals.proofs.earlier_in.Goals as goal

pub returns : goal.returns
returns c =
    let cs = c.chunks.result.now in
    count_from_yields_List c.take_while.result _ c.count.ensures.ran
    (YieldsList-from_take_while _ (ends-before c.args.a)
    (YieldsList-from_map_by _ (λ (i : mine.Interval). interval i.start i.end) interval_of (YieldsList-from_slice cs cc) (cc) (λ x r q k. search rules))
    c.take_while.ensures.closure c.take_while.ensures.done (λ x b q k. search (rules, tests)))
    ∙ length-prefix_len (ends-before c.args.a) (told cs) ∙ earlier-is c.args.a (told cs) ∙ ap (earlier c.args.a) c.chunks.ensures
