-- `gtid_event_read::Fields::read_tag` meets its contract.
-- Assumes nothing.
use mathlib.Core.Path.{◌≡◌, sym, ◌∙◌}
use mathlib.Core.Bool.{true}
use native.Mathlib.Omega.{arith}
use lib.Seq.{take_all}
use Rattle.misc.proofs.ParseLaws.{handed-on}
use Rattle.packets.proofs.TagLaws.{tag-at-most-32}
use Rattle.packets.specs.Tag.{is_tag}
use Rattle.gtid_event_read.specs.Fields.{tag_at}
use Rattle.gtid_event_read.proofs.Fields.read_tag.Goals as goal

pub returns-in_err-read : goal.returns-in_err-read
unfolding tag_at
returns-in_err-read c = rw (handed-on _ c.from_residual.ensures) (rw c.in_err-read.ensures)

pub overflow_cast-self : goal.overflow_cast-self
overflow_cast-self c = omega (arith, tag-at-most-32 c.in_ok-read.read.value.now (sym c.is_tag.ensures ∙ c.if-is_tag.true))

pub returns-then-is_tag : goal.returns-then-is_tag
unfolding tag_at
returns-then-is_tag c =
    let bytes = c.in_ok-read.read.value.now in
    let is : is_tag bytes ≡ true = sym c.is_tag.ensures ∙ c.if-is_tag.true in
    rw (c.in_ok-read.ensures, is, c.tag_bytes-self.ensures, take_all 32 bytes (tag-at-most-32 bytes is))

pub returns : goal.returns
unfolding tag_at
returns c = rw (c.in_ok-read.ensures, sym c.is_tag.ensures ∙ c.if-is_tag.false)
