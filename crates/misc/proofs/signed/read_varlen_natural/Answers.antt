-- `misc::signed::read_varlen_natural` meets its contract.
use mathlib.Core.Path.{sym, ap, ◌∙◌}
use Rattle.misc.specs.Parse.{read_of}
use Rattle.misc.proofs.SignedLaws.{natural-even, natural-odd, natural-refused}
use Rattle.misc.proofs.ParseLaws.{handed-on, read-ok, read-err}
use Rattle.misc.proofs.signed.read_varlen_natural.Goals as goal

pub returns-in_err-sent : goal.returns-in_err-sent
returns-in_err-sent c = let e = read-err _ (sym c.in_err-sent.was ∙ c.read_varlen_uint.ensures) in
    handed-on _ c.from_residual.ensures ∙ ap read_of (sym (natural-refused c.args.s.now c.args.at e))

pub returns-then-sent-eq0 : goal.returns-then-sent-eq0
returns-then-sent-eq0 c = let e = read-ok _ (sym c.in_ok-sent.was ∙ c.read_varlen_uint.ensures) in
    ap read_of (sym (natural-even _ _ e c.if-sent-eq0.true))

pub returns : goal.returns
returns c = let e = read-ok _ (sym c.in_ok-sent.was ∙ c.read_varlen_uint.ensures) in
    ap read_of (sym (natural-odd _ _ e c.if-sent-eq0.false))
