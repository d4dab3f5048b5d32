-- `misc::signed::write_varlen_int` meets its contract.
-- Assumes nothing.
use Rattle.misc.specs.Signed.{sent_as}
use mir.Facts.{to_z-of_z}
use mathlib.Core.Path.{◌≡◌, ap, ◌∙◌}
use Rattle.misc.proofs.Clauses.{both}
use Rattle.misc.proofs.signed.write_varlen_int.Goals as goal

pub returns : goal.returns
returns c = both (let e : c.sent_as.result ≡ sent_as c.args.value =
    c.sent_as.ensures ∙ ap sent_as (to_z-of_z c.ranges.value) in
    rw (← e) (c.write_varlen_uint.ensures.value, c.write_varlen_uint.ensures.out_after))
