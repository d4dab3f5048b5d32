-- Offering an event to a set: the answer, and the set after it.
use Rattle.std.specs.Prelude.{ℕ, Bool, true, false, ◌&&◌, List, eqb}
use Rattle.misc.specs.Pick.{pick}
use Rattle.misc.specs.declared.refusal.Refusal.{Refusal}
use Rattle.misc.specs.Refusal.{bad_gno}
use Rattle.packets.specs.Gno.{is_gno}
use Rattle.packets.specs.Key.{Key, same}
use Rattle.previous_gtids_event.specs.Entry.{Entry}
use Rattle.gtid_sets.specs.Set.{has, add}
use Rattle.gtid_sets.specs.Limits.{Judged, fine, breaks, limits, is_full}

-- what an event says: no id (type 34), nothing, since it is refused by itself, or an id
pub data Event : Type 0 where
  anonymous : Event
  broken : Refusal → Event
  names : Key → ℕ → Event

pub data Answer : Type 0 where
  no_id already taken : Answer
  refused : Refusal → Answer

-- in this order: the gno rule, whether the id is a member, and the limits of the set with it
abbrev pub answered : Bool → Bool → Judged → Answer
answered false present result = refused bad_gno
answered true true result = already
answered true false fine = taken
answered true false (breaks r) = refused r

abbrev pub answer : List Entry → Event → Answer
answer s anonymous = no_id
answer s (broken r) = refused r
answer s (names k n) = answered (is_gno n) (has s k n) (limits (add k n s))

abbrev pub is_taken : Answer → Bool
is_taken no_id = false
is_taken already = false
is_taken taken = true
is_taken (refused r) = false

-- the set after an event: only "taken" changes it
abbrev pub after : List Entry → Event → List Entry
after s anonymous = s
after s (broken r) = s
after s (names k n) = pick (is_taken (answer s (names k n))) (add k n s) s

-- ---- what demand 3 speaks of

-- "taken" or "already there": the event's id is a member after it
abbrev pub is_member : Answer → Bool
is_member no_id = false
is_member already = true
is_member taken = true
is_member (refused r) = false

-- whether the event names the id (k, n)
abbrev pub is_of : Event → Key → ℕ → Bool
is_of anonymous k n = false
is_of (broken r) k n = false
is_of (names j m) k n = same k j && eqb n m

abbrev pub for_full : Answer → Bool
for_full no_id = false
for_full already = false
for_full taken = false
for_full (refused r) = is_full r
