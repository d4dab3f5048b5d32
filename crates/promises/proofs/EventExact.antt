-- An event is refused with a number exactly where, by the layouts, a case of that number holds of its bytes.
use Prim.Native.Nat.{ℕ, ◌≤◌}
use mathlib.Core.Bool.{◌||◌}
use mathlib.Core.List.{List}
use mathlib.Core.Logic.{inl, inr}
use lib.Dec.{eqb, leb}
use lib.ListN.{length}
use borrow.Author.Tests.{leb-true, leb-false, eqb-true, eqb-false, le-leb, lt-leb, ne_eqb}
use Rattle.misc.specs.Refusal.{too_long, wrong_type}
use Rattle.misc.specs.Parse.{Bytes, refusal_in}
use Rattle.misc.specs.Body.{body_limit}
use Rattle.gtid_sets.proofs.Bools.{or-false-parts}
use Rattle.gtid_event_read.specs.Seen.{untagged_seen}
use Rattle.gtid_event_read.specs.Untagged.{untagged}
use Rattle.gtid_event_read.specs.Read.{seen, gtid_read}
use Rattle.gtid_event_read.proofs.ReadLaws.{one_of}
use Rattle.promises.specs.Faults.{EventFault}
use Rattle.promises.specs.Exact.{RefusesExactly}
use Rattle.promises.proofs.Gives.{Gives, refuse-gives, pick_gives, mapped-gives}
use Rattle.promises.proofs.Forces.{Refuses, is-refused, same-refused}
use Rattle.promises.proofs.StopsGiven.{untagged-stops, tagged-stops}
use Rattle.promises.proofs.UntaggedForced.{untagged-forced}
use Rattle.promises.proofs.UntaggedFaulty.{untagged-stop, untagged-faulty}
use Rattle.promises.proofs.TaggedRefused.{tagged-refused}
use Rattle.promises.proofs.TaggedFaulty.{tagged-faulty}
use Rattle.promises.proofs.Exactly.{reads-exactly, answers-exactly}

pub event-refused : (type : ℕ) (s : List ℕ) (n : ℕ) → EventFault type s n → Refuses (seen type s) n
unfolding seen
event-refused type s n (EventFault.too_long h) = is-refused too_long (rw (lt-leb (length s) body_limit h))
event-refused type s n (EventFault.wrong_type short a b c) =
    is-refused wrong_type (rw (le-leb (length s) body_limit short, ne_eqb type 33 a, ne_eqb type 34 b, ne_eqb type 42 c))
event-refused type s n (EventFault.untagged short (inl is) fault) =
    same-refused (untagged-forced s (untagged-stop s n fault)) (λ r e. rw (le-leb (length s) body_limit short, is, e))
event-refused type s n (EventFault.untagged short (inr is) fault) =
    same-refused (untagged-forced s (untagged-stop s n fault)) (λ r e. rw (le-leb (length s) body_limit short, is, e))
event-refused type s n (EventFault.tagged short is fault) =
    same-refused (tagged-refused s n fault) (λ r e. rw (le-leb (length s) body_limit short, is) e)

pub event-faulty : (type : ℕ) (s : List ℕ) → Bytes s → Gives (EventFault type s) (seen type s)
unfolding seen
event-faulty type s are =
    pick_gives (EventFault type s) (leb (length s) body_limit) _ _
    (λ short.
    let fits : length s ≤ body_limit = leb-true (length s) body_limit short in
    pick_gives (EventFault type s) (eqb type 33 || eqb type 34) _ _
    (λ either. mapped-gives (EventFault type s) untagged_seen (untagged s)
    (λ r e. EventFault.untagged fits (one_of type either) (untagged-faulty s are (untagged-stops s are r e))))
    (λ neither.
    let (not-33, not-34) = or-false-parts (eqb type 33) (eqb type 34) neither in
    pick_gives (EventFault type s) (eqb type 42) _ _
    (λ is r e. EventFault.tagged fits (eqb-true type 42 is) (tagged-faulty s are (tagged-stops s r e)))
    (λ not-42. refuse-gives (EventFault type s) wrong_type
    (EventFault.wrong_type fits (eqb-false type 33 not-33) (eqb-false type 34 not-34) (eqb-false type 42 not-42)))))
    (λ long. refuse-gives (EventFault type s) too_long (EventFault.too_long (leb-false (length s) body_limit long)))

pub event-exact : (type : ℕ) (s : List ℕ) → Bytes s → RefusesExactly (refusal_in (gtid_read (seen type s))) (EventFault type s)
event-exact type s are =
    answers-exactly _ _ _ (reads-exactly (EventFault type s) (seen type s) (event-faulty type s are) (event-refused type s))
