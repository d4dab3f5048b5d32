-- Demand 3, replay, whatever gives the events: if an event comes to the same with another output that has room, and changes nothing where it is
-- given again to a set that has its ids, then a run that was never refused for full, stopped and fed again from its start, ends in identical bytes.
use Prim.Native.Nat.{ℕ}
use mathlib.Core.Path.{◌≡◌, refl, sym, ap, ◌∙◌}
use mathlib.Core.Bool.{Bool, true, false, or-true}
use mathlib.Core.List.{List, [], ◌∷◌, ◌++◌}
use Rattle.packets.specs.Key.{Key}
use Rattle.previous_gtids_event.specs.Entry.{Entry}
use Rattle.gtid_sets.specs.Set.{has}
use Rattle.gtid_sets.specs.TakeIn.{taken_set}
use Rattle.gtid_sets.specs.Lent.{form, lent_set}
use Rattle.resume_set_laws.specs.History.{Outcome, among, ids_in, kept, kept_all, granted, Never, All, AllPairs, for_full, for_room, Again}
use Rattle.resume_set_laws.proofs.Starts.{starts}
use Rattle.resume_set_laws.proofs.AnyRun.{EachKeeps, all-events}

-- ---- what is asked of one event

-- it comes to the same as another, and is not refused for room
pub record Alike {T : Type 0} (comes : List ℕ → T → Outcome) (set : List ℕ) (t u : T) : Type 0 where
  pub same_kept : kept comes set u ≡ kept comes set t
  pub same_full : for_full (comes set u) ≡ for_full (comes set t)
  pub has_room : for_room (comes set u) ≡ false

-- it leaves the set as it is, and is refused neither for full nor for room
pub record Stays {T : Type 0} (comes : List ℕ → T → Outcome) (set : List ℕ) (t : T) : Type 0 where
  pub still : kept comes set t ≡ set
  pub not_full : for_full (comes set t) ≡ false
  pub has_room : for_room (comes set t) ≡ false

pub record Repeats {T : Type 0} (Good Roomy : T → Type 0) (Same : T → T → Type 0) (comes : List ℕ → T → Outcome) : Type 0 where
  pub keeps : EachKeeps Good comes
  -- the same event, given to the same set
  pub alike : (set : List ℕ) (s : List Entry) (t u : T) → lent_set set ≡ form s → Good t → Roomy t → Roomy u → Same u t → Alike comes set t u
  -- and given to a set that has the ids of what it came to, unless that was a refusal for full
  pub stays : (set : List ℕ) (s : List Entry) (t : T) → lent_set set ≡ form s → Good t → Roomy t → for_full (comes set t) ≡ false
      → (later : List ℕ) (l : List Entry) (u : T) → lent_set later ≡ form l → ((k : Key) (n : ℕ) → among (ids_in (comes set t)) k n ≡ true → has l k n ≡ true)
      → Roomy u → Same u t → Stays comes later u

-- ---- parts of runs

all-front : {T : Type 0} (P : T → Type 0) (xs ys : List T) → All P (xs ++ ys) → All P xs
all-front P [] ys h = tt
all-front P (t ∷ xs) ys h = (h.0, all-front P xs ys h.1)

module _ {T : Type 0} (comes : List ℕ → T → Outcome) where
  kept_append : (set : List ℕ) (xs ys : List T) → kept_all comes set (xs ++ ys) ≡ kept_all comes (kept_all comes set xs) ys
  kept_append set [] ys = refl
  kept_append set (t ∷ xs) ys = kept_append (kept comes set t) xs ys

  never-front : (such : Outcome → Bool) (set : List ℕ) (xs ys : List T) → Never comes such set (xs ++ ys) → Never comes such set xs
  never-front such set [] ys h = tt
  never-front such set (t ∷ xs) ys h = (h.0, never-front such (kept comes set t) xs ys h.1)

  never-rest : (such : Outcome → Bool) (set : List ℕ) (xs ys : List T) → Never comes such set (xs ++ ys) → Never comes such (kept_all comes set xs) ys
  never-rest such set [] ys h = h
  never-rest such set (t ∷ xs) ys h = never-rest such (kept comes set t) xs ys h.1

-- ---- the second run

-- from some set it ends as another run does, and is refused neither for full nor for room
record Redone {T : Type 0} (comes : List ℕ → T → Outcome) (set : List ℕ) (ts us : List T) : Type 0 where
  ends : kept_all comes set us ≡ kept_all comes set ts
  not_full : Never comes for_full set us
  has_room : Never comes for_room set us

module _ {T : Type 0} (Good Roomy : T → Type 0) (Same : T → T → Type 0) (comes : List ℕ → T → Outcome) (repeats : Repeats Good Roomy Same comes) where
  -- the same events from the same set
  follow : (set : List ℕ) (s : List Entry) (ts us : List T) → lent_set set ≡ form s → All Good ts → All Roomy ts → Never comes for_full set ts
      → AllPairs Same us ts → All Roomy us → Redone comes set ts us
  follow set s [] [] lent ok room never same room-again = record { ends = refl; not_full = tt; has_room = tt }
  follow set s [] (u ∷ us) lent ok room never same room-again = absurd same
  follow set s (t ∷ ts) [] lent ok room never same room-again = absurd same
  follow set s (t ∷ ts) (u ∷ us) lent ok room never same room-again =
      let one = repeats.keeps set s t lent ok.0 in
      let a = repeats.alike set s t u lent ok.0 room.0 room-again.0 same.0 in
      let rest = follow (kept comes set t) one.next ts us one.lent ok.1 room.1 never.1 same.1 room-again.1 in
      record {
        ends = ap (λ (x : List ℕ). kept_all comes x us) a.same_kept ∙ rest.ends;
        not_full = (a.same_full ∙ never.0, rw a.same_kept rest.not_full);
        has_room = (a.has_room, rw a.same_kept rest.has_room);
      }

  -- the events before the stop change nothing, since the set has what they came to; then the others follow
  redo : (set : List ℕ) (s : List Entry) (before behind again : List T) (later : List ℕ) (l : List Entry) → lent_set set ≡ form s → lent_set later ≡ form l
      → ((k : Key) (n : ℕ) → granted comes set before k n ≡ true → has l k n ≡ true) → All Good (before ++ behind) → All Roomy (before ++ behind)
      → Never comes for_full set before → Never comes for_full later behind → AllPairs Same again (before ++ behind) → All Roomy again
      → Redone comes later behind again
  redo set s [] behind again later l lent is those ok room quiet never same room-again = follow later l behind again is ok room never same room-again
  redo set s (t ∷ xs) behind [] later l lent is those ok room quiet never same room-again = absurd same
  redo set s (t ∷ xs) behind (u ∷ us) later l lent is those ok room quiet never same room-again =
      let one = repeats.keeps set s t lent ok.0 in
      let a = repeats.stays set s t lent ok.0 room.0 quiet.0 later l u is (λ k n h. those k n (rw h)) room-again.0 same.0 in
      let rest = redo (kept comes set t) one.next xs behind us later l one.lent is
      (λ k n h. those k n (rw h (or-true (among (ids_in (comes set t)) k n))))
      ok.1 room.1 quiet.1 never same.1 room-again.1 in
      record {
        ends = ap (λ (x : List ℕ). kept_all comes x us) a.still ∙ rest.ends;
        not_full = (a.not_full, rw a.still rest.not_full);
        has_room = (a.has_room, rw a.still rest.has_room);
      }

  pub again-from : Again Good Roomy Same comes
  again-from body es set before behind again takes ok room never same room-again =
      let s = taken_set es in
      let lent = starts body es set takes in
      let mid = all-events Good comes repeats.keeps set s before lent (all-front Good before behind ok) in
      let run = redo set s before behind again (kept_all comes set before) mid.last lent mid.lent
      (λ k n h. mid.members k n ∙ rw h (or-true (has s k n)))
      ok room (never-front comes for_full set before behind never) (never-rest comes for_full set before behind never) same room-again in
      (run.ends ∙ sym (kept_append comes set before behind), run.not_full, run.has_room)
