-- `listing::event_text::write_refused` meets its contract.
use Rattle.std.proofs.Common.{rules}
use mathlib.Core.Path.{◌≡◌, refl, ◌∙◌}
use native.Mathlib.Omega.{arith}
use Rattle.misc.proofs.OutputLaws.{output-short}
use Rattle.misc.proofs.PutLaws.{puts-fit}
use Rattle.text.specs.Lines.{refused_text}
use Rattle.listing.proofs.EventTextLaws.{fits_whole}
use Rattle.misc.proofs.Clauses.{both}
use Rattle.listing.proofs.event_text.write_refused.Goals as goal

pub returns-then-out-len : goal.returns-then-out-len
returns-then-out-len c =
    both (output-short c.args.out.now (refused_text c.args.refusal) _ c.refused_len-len.ensures.0 (omega arith))

pub returns : goal.returns
returns c =
    let whole = fits_whole _ c.refused_len-len.ensures.0 refl (omega arith) (puts-fit c.put_refused.ensures) in
    let left : _ ≡ c.put_refused.new.put.out.now = search (rules, c.put_refused.ensures.same) in
    both (whole.0, left ∙ whole.1)
