-- What writing a record gives, and its length.
use Rattle.std.specs.Prelude.{ℕ, List, length, Result, Ok, Err}
use Rattle.misc.specs.Pick.{pick}
use Rattle.misc.specs.Refusal.{not_writable}
use Rattle.misc.specs.declared.refusal.Refusal.{Refusal}
use Rattle.misc.specs.Output.{Output, refused, bytes}
use Rattle.gtid_event.specs.Event.{tagged}
use Rattle.gtid_event.specs.declared.GtidEvent.{GtidEvent}
use Rattle.gtid_event_write.specs.Writable.{writable}
use Rattle.gtid_event_write.specs.Layout.{tagged_bytes, untagged_bytes}

unfoldable pub event_bytes : GtidEvent → List ℕ
event_bytes e = pick (tagged e) (tagged_bytes e) (untagged_bytes e)

unfoldable pub event_output : GtidEvent → Output
event_output e = pick (writable e) (bytes (event_bytes e)) (refused not_writable)

unfoldable pub length_of : GtidEvent → Result ℕ Refusal
length_of e = pick (writable e) (Ok (length (event_bytes e))) (Err not_writable)
