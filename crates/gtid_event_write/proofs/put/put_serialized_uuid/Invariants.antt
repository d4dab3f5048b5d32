-- `gtid_event_write::put::put_serialized_uuid` meets its contract. The invariant: the items so far are placed where they fit.
use lib.ListN.{take}
use Rattle.misc.specs.Put.{PutsWhereFits}
use Rattle.gtid_event_write.specs.Layout.{items_bytes}
use Rattle.gtid_event_write.proofs.put.put_serialized_uuid.Given as goal

abbrev pub invariant-loop-b : goal.invariant-loop-b
invariant-loop-b l = PutsWhereFits l.initial.put (items_bytes (take l.b-index l.b-items)) l.put
