-- How many bytes a tagged record has that can be written: 37 to 156, and never 128. It has 34 to 152 bytes of fields; with up to 124 of them
-- the size that counts itself takes one byte and is 127 at most, with 125 and more it takes two and is 129 at least.
use Rattle.std.specs.Prelude.{ℕ, ◌≤◌, ◌≡◌, true, length}
use Rattle.gtid_event.specs.Event.{tagged}
use Rattle.gtid_event.specs.Fits.{Fits}
use Rattle.gtid_event.specs.declared.GtidEvent.{GtidEvent}
use Rattle.gtid_event_write.specs.Writable.{writable}
use Rattle.gtid_event_write.specs.Write.{event_bytes}

-- a tagged record that can be written
pub record TaggedOne (e : GtidEvent) : Type 0 where
  pub fits : Fits e
  pub has_tag : tagged e ≡ true
  pub able : writable e ≡ true

-- some such record has so many bytes
abbrev pub Reached : ℕ → Type 0
Reached n = (e : GtidEvent) × TaggedOne e × (length (event_bytes e) ≡ n)

pub record Totals : Type 0 where
  pub least : (e : GtidEvent) → TaggedOne e → 37 ≤ length (event_bytes e)
  pub most : (e : GtidEvent) → TaggedOne e → length (event_bytes e) ≤ 156
  pub never_128 : (e : GtidEvent) → TaggedOne e → length (event_bytes e) ≡ 128 → ⊥
  -- both ends are reached, and both sides of 128
  pub reaches_37 : Reached 37
  pub reaches_127 : Reached 127
  pub reaches_129 : Reached 129
  pub reaches_156 : Reached 156
