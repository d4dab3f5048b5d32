use mathlib.Core.Path.{refl, sym, ◌∙◌}
use native.Mathlib.Omega.{arith}
use Rattle.gtid_event_write.specs.Size.{payload_size}
use Rattle.gtid_event_write.proofs.SizeLaws.{size-found, size-passed, size-last, size-told, size-too-great}
use Rattle.gtid_event_write.proofs.size.payload_size.Goals as goal

as_value_value_2 : {A B : Type 0} → A × B → record { value : A; value_2 : B }
as_value_value_2 p = record { value = p.0; value_2 = p.1 }

pub returns-then-fields-ge-FIELDS_TOP : goal.returns-then-fields-ge-FIELDS_TOP
returns-then-fields-ge-FIELDS_TOP c = as_value_value_2 ((size-too-great _ c.if-fields-ge-FIELDS_TOP.true, λ few. absurd (omega arith)))

pub loop-n-init : goal.loop-n-init
unfolding payload_size
loop-n-init c = refl

pub returns-then-varlen_uint_size-n : goal.returns-then-varlen_uint_size-n
returns-then-varlen_uint_size-n c = as_value_value_2 (let w = c.loop-n in
    size-told _ _ c.if-fields-ge-FIELDS_TOP.false
    (size-found w.n _ _ (omega arith) (omega arith) (sym c.varlen_uint_size.ensures.0 ∙ c.if-varlen_uint_size-n.true) ∙ w.invariant))

pub loop-n-preserved : goal.loop-n-preserved
loop-n-preserved c = let w = c.loop-n in
    size-passed w.n _ _ (omega arith) (omega arith) (λ e. c.if-varlen_uint_size-n.false (c.varlen_uint_size.ensures.0 ∙ e)) ∙ w.invariant

pub returns : goal.returns
returns c = as_value_value_2 (let w = c.loop-n in
    size-told _ _ c.if-fields-ge-FIELDS_TOP.false (size-last w.n _ _ (omega arith) (omega arith) ∙ w.invariant))
