-- `listing::event_text::write_id` meets its contract.
use Rattle.std.proofs.Common.{rules}
use Prim.Native.Nat.{ℕ, ◌+◌, ◌≤◌}
use mathlib.Core.Path.{◌≡◌, refl, ◌∙◌}
use native.Mathlib.Omega.{arith}
use lib.ListN.{length, take}
use Rattle.misc.proofs.OutputLaws.{output-short}
use Rattle.misc.proofs.PutLaws.{puts-fit}
use Rattle.gtid_event.specs.declared.GtidEvent.{GtidEvent}
use Rattle.text.specs.Digits.{decimal}
use Rattle.text.specs.Keys.{tag_text}
use Rattle.text.proofs.KeyTextLaws.{key-long}
use Rattle.listing.specs.EventText.{record_text}
use Rattle.listing.proofs.EventTextLaws.{fits_whole, id-long, id-put}
use Rattle.misc.proofs.Clauses.{both}
use Rattle.listing.proofs.event_text.write_id.Goals as goal

-- an event with a uuid of 16 bytes and a tag inside its field of 32
module _ (e : GtidEvent) (fits : (length e.sid ≡ 16) × (e.tag_len ≤ 32) × (length e.tag ≡ 32)) where
  long : (k n : ℕ) → k ≡ 36 + length (tag_text (take e.tag_len e.tag)) → n ≡ length (decimal e.gno) → 7 + k + n ≡ length (record_text e)
  long k n p q = omega (arith, id-long e.sid (take e.tag_len e.tag) e.gno, key-long e.sid (take e.tag_len e.tag) fits.0)

pub returns-then-out-len : goal.returns-then-out-len
returns-then-out-len c =
    let size = long c.args.event c.requires _ _ c.key_len.ensures c.decimal_len.ensures.0 in
    both (output-short c.args.out.now (record_text c.args.event) _ size (omega arith))

pub returns : goal.returns
returns c =
    let e = c.args.event in
    let size = long e c.requires _ _ c.key_len.ensures c.decimal_len.ensures.0 in
    let run = id-put e.sid (take e.tag_len e.tag) e.gno (puts-fit c.bytes.ensures) (puts-fit c.put_key.ensures)
    (puts-fit c.byte.ensures) (puts-fit c.put_decimal.ensures) (puts-fit c.byte-2.ensures) in
    let whole = fits_whole _ size refl (omega (arith, c.if-out-len.false)) run in
    let left : _ ≡ c.byte-2.new.self.out.now =
    search (rules, c.bytes.ensures.same, c.put_key.ensures.same, c.byte.ensures.same, c.put_decimal.ensures.same, c.byte-2.ensures.same) in
    both (whole.0, left ∙ whole.1)
