-- A GTID event by its type, and what the calls answer.
use Rattle.std.specs.Prelude.{ℕ, Bool, true, false, ◌&&◌, ◌||◌, List, eqb, get_or, Result}
use Rattle.misc.specs.Pick.{pick}
use Rattle.misc.specs.Refusal.{wrong_type, absent_id}
use Rattle.misc.specs.declared.refusal.Refusal.{Refusal}
use Rattle.misc.specs.Parse.{Parse, refuse, mapped, judged, answered}
use Rattle.misc.specs.Body.{of_body}
use Rattle.misc.specs.Mark.{has_bit}
use Rattle.gtid_event.specs.declared.GtidEvent.{GtidEvent}
use Rattle.gtid_event_read.specs.Seen.{Seen, untagged_seen, bits_of}
use Rattle.gtid_event_read.specs.Untagged.{untagged}
use Rattle.gtid_event_read.specs.Tagged.{tagged}
use Rattle.gtid_event_read.specs.declared.GtidRead.{GtidRead}

-- 33 and 34 are untagged, 42 is tagged, and no other type is served
unfoldable pub seen : ℕ → List ℕ → Parse Seen
seen type s =
    of_body s (pick (eqb type 33 || eqb type 34) (mapped untagged_seen (untagged s)) (pick (eqb type 42) (tagged s) (refuse wrong_type)))

-- its record alone
abbrev pub record_in : Parse Seen → Parse GtidEvent
record_in p = mapped (λ x. x.event) p

unfoldable pub gtid : ℕ → List ℕ → Parse GtidEvent
gtid type s = record_in (seen type s)

-- where its id is asked for: a tagged event must have been sent with its uuid and its gno (fields 1 and 2)
abbrev pub sends_id : ℕ → Seen → Bool
sends_id type x = pick (eqb type 42) (get_or x.present 1 false && get_or x.present 2 false) true

unfoldable pub named : ℕ → List ℕ → Parse Seen
named type s = judged (sends_id type) absent_id (seen type s)

-- ---- answers

abbrev pub told : Seen → ℕ → GtidRead
told x next = record { used = next; event = x.event; present = bits_of x.present }

abbrev pub gtid_read : Parse Seen → Result GtidRead Refusal
gtid_read p = answered told p

-- whether an answer tells that the id was sent, where one is asked for
abbrev pub tells_id : ℕ → ℕ → Bool
tells_id type bits = pick (eqb type 42) (has_bit 1 bits && has_bit 2 bits) true

abbrev pub untagged_read : Parse GtidEvent → Result GtidRead Refusal
untagged_read p = gtid_read (mapped untagged_seen p)
