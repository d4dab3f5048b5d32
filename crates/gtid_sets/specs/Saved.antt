-- Offering events to a saved set, as bytes.
use Rattle.std.specs.Prelude.{ℕ, List}
use Rattle.previous_gtids_event.specs.Previous.{GoodKey}
use Rattle.previous_gtids_event.specs.Rewrite.{body_bytes}
use Rattle.gtid_sets.specs.Run.{Event, anonymous, broken, names, after}
use Rattle.gtid_sets.specs.Lent.{Lent, form, unfit, lent_set}

-- the set's bytes after an event; bytes that are no set stay as they are
abbrev pub grown : Lent → List ℕ → Event → List ℕ
grown (form s) bs e = body_bytes (after s e)
grown unfit bs e = bs

abbrev pub saved_after : List ℕ → Event → List ℕ
saved_after bs e = grown (lent_set bs) bs e

-- an event names no id, or one whose key is as keys are read
abbrev pub GoodEvent : Event → Type 0
GoodEvent anonymous = Unit {0}
GoodEvent (broken r) = Unit {0}
GoodEvent (names k n) = GoodKey k
