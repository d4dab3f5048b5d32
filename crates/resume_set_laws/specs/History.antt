-- Demand 3 on bytes: which ids are members after a list of events, whatever gives them to the set, and replay. Then the same of any offer, and how
-- many ids there are after offers.
use Rattle.std.specs.Prelude.{ℕ, ◌+◌, ◌≤◌, ◌≡◌, Bool, false, ◌&&◌, ◌||◌, List, [], ◌∷◌, ◌++◌, length, take, ltb, eqb, Result, Ok, Err}
use Rattle.misc.specs.declared.refusal.WriteError.{WriteError}
use Rattle.misc.specs.Refusal.{number, error_number, error_needed, full, crowded}
use Rattle.misc.specs.Parse.{Bytes}
use Rattle.packets.specs.Key.{Key, same}
use Rattle.previous_gtids_event.specs.Entry.{Entry}
use Rattle.previous_gtids_event.specs.Layout.{BodyLaid}
use Rattle.gtid_sets.specs.Set.{has}
use Rattle.gtid_sets.specs.Limits.{longest_set}
use Rattle.gtid_sets.specs.Run.{Event, anonymous, broken, names}
use Rattle.gtid_sets.specs.Lent.{Lent, form, unfit, lent_set, SetLaid}
use Rattle.gtid_sets.specs.Total.{total}
use Rattle.set_join.specs.Answers.{take_in_answers, take_in_leaves}
use Rattle.resume_set.specs.Answers.{event_of}
use Rattle.resume_set.specs.declared.Offered.{Offered}
use Rattle.resume_set.specs.declared.Offered.TheVariants.{NoId, AlreadyThere, Taken}

-- ---- what an event comes to that is given to a set, whatever gives it

-- ids: none, one, or all of some entries
pub data Ids : Type 0 where
  none : Ids
  one : Key → ℕ → Ids
  all : List Entry → Ids

abbrev pub among : Ids → Key → ℕ → Bool
among none k n = false
among (one j m) k n = same k j && eqb n m
among (all es) k n = has es k n

-- refused, with a number and the length that it names; or accepted, with the ids that are members by it, and the bytes of the set that is kept
pub data Outcome : Type 0 where
  refused : ℕ → ℕ → Outcome
  accepted : Ids → List ℕ → Outcome

-- after a refusal the set before is kept, and no id is a member by it
abbrev pub kept_in : List ℕ → Outcome → List ℕ
kept_in set (refused n len) = set
kept_in set (accepted ids next) = next

abbrev pub ids_in : Outcome → Ids
ids_in (refused n len) = none
ids_in (accepted ids next) = ids

-- ---- a run

abbrev pub kept : {T : Type 0} → (List ℕ → T → Outcome) → List ℕ → T → List ℕ
kept comes set t = kept_in set (comes set t)

-- the set that is kept after a list of events
abbrev pub kept_all : {T : Type 0} → (List ℕ → T → Outcome) → List ℕ → List T → List ℕ
kept_all comes set [] = set
kept_all comes set (t ∷ ts) = kept_all comes (kept comes set t) ts

-- whether the id is a member by one of them
abbrev pub granted : {T : Type 0} → (List ℕ → T → Outcome) → List ℕ → List T → Key → ℕ → Bool
granted comes set [] k n = false
granted comes set (t ∷ ts) k n = among (ids_in (comes set t)) k n || granted comes (kept comes set t) ts k n

-- no event of a run comes to such a thing
abbrev pub Never : {T : Type 0} → (List ℕ → T → Outcome) → (Outcome → Bool) → List ℕ → List T → Type 0
Never comes such set [] = Unit {0}
Never comes such set (t ∷ ts) = (such (comes set t) ≡ false) × Never comes such (kept comes set t) ts

-- it holds of each
abbrev pub All : {T : Type 0} → (T → Type 0) → List T → Type 0
All P [] = Unit {0}
All P (t ∷ ts) = P t × All P ts

-- and of each pair of two lists that are alike long
abbrev pub AllPairs : {T : Type 0} → (T → T → Type 0) → List T → List T → Type 0
AllPairs P [] [] = Unit {0}
AllPairs P [] (u ∷ us) = ⊥
AllPairs P (t ∷ ts) [] = ⊥
AllPairs P (t ∷ ts) (u ∷ us) = P t u × AllPairs P ts us

-- refused for full: the set would pass its limits (16), or an entry its own (17)
abbrev pub for_full : Outcome → Bool
for_full (refused n len) = eqb n (number full) || eqb n (number crowded)
for_full (accepted ids next) = false

-- refused for room (13): with the length that is needed
abbrev pub for_room : Outcome → Bool
for_room (refused n len) = eqb n 13 && ltb 0 len
for_room (accepted ids next) = false

-- ---- members

-- whether some bytes are a set that has the id
abbrev pub lent_has : Lent → Key → ℕ → Bool
lent_has (form s) k n = has s k n
lent_has unfit k n = false

abbrev pub member : List ℕ → Key → ℕ → Bool
member set k n = lent_has (lent_set set) k n

-- a body that take in accepts, lent some output: the entries that the layout says, and the bytes of the set that it writes
pub record TakesIn (body : List ℕ) (es : List Entry) (set : List ℕ) : Type 0 where
  pub are_bytes : Bytes body
  pub used : ℕ
  pub laid : BodyLaid body es used
  pub out : List ℕ
  pub len : ℕ
  pub accepts : take_in_answers body out ≡ Ok len
  pub writes : take len (take_in_leaves body out) ≡ set

-- from a body that was taken in, after any such events: the set's bytes are a set, and its members are the ids of the body and those that events
-- made members; so it is after each of a list, since its beginnings are lists too
abbrev pub Tells : {T : Type 0} → (T → Type 0) → (List ℕ → T → Outcome) → Type 0
Tells {T} Good comes = (body : List ℕ) (es : List Entry) (set : List ℕ) (ts : List T) → TakesIn body es set → All Good ts
    → ((s : List Entry) × (lent_set (kept_all comes set ts) ≡ form s))
    × ((k : Key) (n : ℕ) → member (kept_all comes set ts) k n ≡ has es k n || granted comes set ts k n)

-- ---- replay

-- a run that was never refused for full, with 16 or 17, stopped after some events, saved, and fed the whole list again from the start ends with
-- identical bytes; and the second run is refused neither for full nor for room
abbrev pub Again : {T : Type 0} → (T → Type 0) → (T → Type 0) → (T → T → Type 0) → (List ℕ → T → Outcome) → Type 0
Again {T} Good Roomy Same comes = (body : List ℕ) (es : List Entry) (set : List ℕ) (before after again : List T) → TakesIn body es set
    → All Good (before ++ after) → All Roomy (before ++ after) → Never comes for_full set (before ++ after)
    → AllPairs Same again (before ++ after) → All Roomy again
    → (kept_all comes (kept_all comes set before) again ≡ kept_all comes set (before ++ after))
    × Never comes for_full (kept_all comes set before) again × Never comes for_room (kept_all comes set before) again

-- ---- offers

-- an event that is offered: its type and body, and the output that is lent with it, as it was
pub record Turn : Type 0 where
  pub type : ℕ
  pub body : List ℕ
  pub out : List ℕ

-- an offer: from the bytes of a set, what it answers and what it leaves in the output
pub record Offering : Type 0 where
  pub answers : List ℕ → Turn → Result Offered WriteError
  pub leaves : List ℕ → Turn → List ℕ

-- the id of an event, the one that was sent in it (by its layout: `named` of `Answers` of promises)
abbrev pub id_of : Event → Ids
id_of anonymous = none
id_of (broken r) = none
id_of (names k n) = one k n

-- what an answer comes to: "taken" and "already there" make the event's id a member, and the set is what was written
abbrev pub offered_in : Event → List ℕ → Result Offered WriteError → Outcome
offered_in e out (Ok (NoId len)) = accepted none (take len out)
offered_in e out (Ok (AlreadyThere len)) = accepted (id_of e) (take len out)
offered_in e out (Ok (Taken len)) = accepted (id_of e) (take len out)
offered_in e out (Err x) = refused (error_number x) (error_needed x)

abbrev pub comes_to : Offering → List ℕ → Turn → Outcome
comes_to f set t = offered_in (event_of t.type t.body) (f.leaves set t) (f.answers set t)

-- its body is bytes; its output has the length of the longest set; and the same event, with whatever output
abbrev pub OfBytes : Turn → Type 0
OfBytes t = Bytes t.body

abbrev pub Roomy : Turn → Type 0
Roomy t = longest_set ≤ length t.out

abbrev pub SameEvent : Turn → Turn → Type 0
SameEvent t u = (t.type ≡ u.type) × (t.body ≡ u.body)

abbrev pub TellsHistory : Offering → Type 0
TellsHistory f = Tells OfBytes (comes_to f)

abbrev pub Replays : Offering → Type 0
Replays f = Again OfBytes Roomy SameEvent (comes_to f)

-- a refusal changes nothing: neither the output nor the set that is kept
abbrev pub RefusalsKeep : Offering → Type 0
RefusalsKeep f = (set : List ℕ) (t : Turn) (x : WriteError) → f.answers set t ≡ Err x → (f.leaves set t ≡ t.out) × (kept (comes_to f) set t ≡ set)

-- ---- totals (CR 13)

-- 1 for "taken"
abbrev pub takes : Result Offered WriteError → ℕ
takes (Ok (NoId len)) = 0
takes (Ok (AlreadyThere len)) = 0
takes (Ok (Taken len)) = 1
takes (Err x) = 0

-- how many offers of a run are answered "taken"
abbrev pub takings : Offering → List ℕ → List Turn → ℕ
takings f set [] = 0
takings f set (t ∷ ts) = takes (f.answers set t) + takings f (kept (comes_to f) set t) ts

-- a number of a set, and 0 for what is none
abbrev pub lent_number : (List Entry → ℕ) → Lent → ℕ
lent_number f (form s) = f s
lent_number f unfit = 0

-- over any offers to a set the number of its ids grows by that of the answers "taken"
abbrev pub CountsTaken : Offering → Type 0
CountsTaken f = (set : List ℕ) (s : List Entry) (ts : List Turn) → SetLaid set s → All OfBytes ts
    → lent_number total (lent_set (kept_all (comes_to f) set ts)) ≡ total s + takings f set ts
