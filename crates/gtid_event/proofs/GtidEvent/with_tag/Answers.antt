-- `gtid_event::GtidEvent::with_tag` meets its contract.
-- Assumes nothing.
use Rattle.gtid_event.specs.Event.{with_tag}
use Rattle.packets.proofs.TagLaws.{tag-at-most-32}
use Rattle.packets.specs.Tag.{is_tag}
use lib.Seq.{take_all}
use native.Mathlib.Omega.{arith}
use mathlib.Core.Bool.{true}
use mathlib.Core.Path.{◌≡◌, sym, ◌∙◌}
use Rattle.gtid_event.proofs.GtidEvent.with_tag.Goals as goal

pub overflow_cast-self : goal.overflow_cast-self
overflow_cast-self c = omega (arith, tag-at-most-32 c.args.tag.now (sym c.is_tag.ensures ∙ c.if-is_tag.true))

pub returns-then-is_tag : goal.returns-then-is_tag
unfolding with_tag
returns-then-is_tag c =
    let tag = c.args.tag.now in
    let is : is_tag tag ≡ true = sym c.is_tag.ensures ∙ c.if-is_tag.true in
    let whole = take_all 32 tag (tag-at-most-32 tag is) in
    rw (is, c.tag_bytes-self.ensures, whole)

pub returns : goal.returns
unfolding with_tag
returns c = rw (sym c.is_tag.ensures ∙ c.if-is_tag.false)
