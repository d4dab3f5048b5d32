-- `misc::signed::read_varlen_int` meets its contract.
use mathlib.Core.Path.{sym, ap, ◌∙◌}
use mir.Syntax.{w64}
use mir.Facts.{to_z-of_z}
use Rattle.misc.specs.Parse.{read_of, parsed}
use Rattle.misc.proofs.SignedLaws.{signed-refused, signed-read}
use Rattle.misc.proofs.ParseLaws.{handed-on, read-ok, read-err}
use Rattle.misc.proofs.signed.read_varlen_int.Goals as goal

pub returns-in_err-sent : goal.returns-in_err-sent
returns-in_err-sent c = let e = read-err _ (sym c.in_err-sent.was ∙ c.read_varlen_uint.ensures) in
    handed-on _ c.from_residual.ensures ∙ ap read_of (sym (signed-refused c.args.s.now c.args.at e))

pub returns : goal.returns
returns c = let e = read-ok _ (sym c.in_ok-sent.was ∙ c.read_varlen_uint.ensures) in
    ap (λ z. read_of (parsed z c.in_ok-sent.sent.next)) (to_z-of_z {w = w64} (record { sfits = c.meant_by.type_inv }) ∙ c.meant_by.ensures)
    ∙ ap read_of (sym (signed-read c.args.s.now c.args.at e))
