-- `set_check::limits::over` meets its contract.
use mathlib.Core.Path.{ap, ◌∙◌}
use mir.Val.{bool_byte}
use lib.Dec.{ltb}
use Rattle.packets.proofs.Tests.{split, tests}
use Rattle.gtid_sets.proofs.LimitLaws.{max_of_entry-is, over_none, over-one}
use Rattle.set_check.proofs.limits.over.Goals as goal

pub returns : goal.returns
returns c =
    let n = c.args.count in
    split (ltb 1024 n)
    (λ h. let e = c.from.ensures ∙ ap bool_byte h in (omega (tests, e, over-one n (omega (tests, max_of_entry-is))), omega (tests, e)))
    (λ h. let e = c.from.ensures ∙ ap bool_byte h in (omega (tests, e, over_none n (omega (tests, max_of_entry-is))), omega (tests, e)))
