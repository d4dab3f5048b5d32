-- The statements of `specs/Exact.antt` for records.
use Rattle.promises.specs.PlainFaults.{RecordFault}
use Rattle.promises.specs.Exact.{EventsExact}
use Rattle.gtid_event_write.specs.Write.{event_output}
use Rattle.promises.proofs.Exactly.{writes-exactly}
use Rattle.promises.proofs.WritingExact.{tag-exact, new-exact, length-exact, write-given, write-forced, write-writes, write-written}
use Rattle.promises.proofs.EventExact.{event-exact}
use Rattle.promises.proofs.Naming.{naming-exact}

pub events-exact : EventsExact
events-exact = record {
  with_tag = tag-exact;
  new_tagged = new-exact;
  read = event-exact;
  read_named = naming-exact;
  write = λ e out. writes-exactly (event_output e) out (RecordFault e) _ (write-given e) (write-forced e) (write-writes e) (write-written e);
  length = length-exact;
}
