-- The reader by value, and the work bytes that are lent to it: which place in the file the two stand for.
use Rattle.std.specs.Prelude.{ℕ, zero, suc, ◌+◌, ◌-◌, ◌≤◌, ◌<◌, ◌≡◌, Bool, true, ◌&&◌, List, [], length, take, drop, leb, ltb, Result, Ok, Err}
use Rattle.misc.specs.Pick.{pick}
use Rattle.misc.specs.declared.refusal.Refusal.{Refusal}
use Rattle.misc.specs.Refusal.{number, not_writable}
use Rattle.binlog.specs.Stop.{stop_number, numbered, stop_for, no_room}
use Rattle.binlog.specs.Place.{Place, opening, heading, inside, passing, whole, ended, stopped, arrived}
use Rattle.binlog.specs.Walk.{Walk, reached, waits, walked}
use Rattle.binlog.specs.declared.Phase.{Phase}
use Rattle.binlog.specs.declared.Phase.TheVariants as phase
use Rattle.binlog.specs.declared.Walked.{Walked}

-- the work bytes hold the longest body and a trailer; a header is held there before its body
abbrev pub work_len : ℕ
work_len = 65540

-- a phase as this crate makes it
abbrev pub made : Phase → Bool
made (phase.Opening n) = ltb n 4
made (phase.Header have) = ltb have 19
made (phase.Body type left have) = (ltb 0 left && leb left work_len) && leb have (work_len - left)
made (phase.Skip left) = ltb 0 left
made (phase.Whole type have) = leb have work_len
made phase.Ended = true
made (phase.Stopped r n) = ltb 0 r

-- how many work bytes it needs
abbrev pub needs : Phase → ℕ
needs (phase.Opening n) = work_len
needs (phase.Header have) = work_len
needs (phase.Body type left have) = work_len
needs (phase.Skip left) = work_len
needs (phase.Whole type have) = work_len
needs phase.Ended = 0
needs (phase.Stopped r n) = 0

abbrev pub sound : Phase → ℕ → Bool
sound p room = made p && leb (needs p) room

-- the place that it stands for, with its work bytes
abbrev pub place_in : Phase → List ℕ → Place
place_in (phase.Opening n) w = opening n
place_in (phase.Header have) w = heading (take have w)
place_in (phase.Body type left have) w = inside type left (take have w)
place_in (phase.Skip left) w = passing left
place_in (phase.Whole type have) w = whole type (take have w)
place_in phase.Ended w = ended
place_in (phase.Stopped r n) w = stopped (numbered r) n

-- any phase with any work bytes: 12 for one that no call made, 13 for too few work bytes
unfoldable pub place_of : Phase → List ℕ → Place
place_of p w = pick (sound p (length w)) (place_in p w) (pick (made p) (stopped no_room work_len) (stopped (stop_for not_writable) 0))

-- and back: the phase of a place, and what the work bytes hold at their front
abbrev pub phase_of : Place → Phase
phase_of (opening n) = phase.Opening n
phase_of (heading came) = phase.Header (length came)
phase_of (inside type n came) = phase.Body type n (length came)
phase_of (passing n) = phase.Skip n
phase_of (whole type body) = phase.Whole type (length body)
phase_of ended = phase.Ended
phase_of (stopped r n) = phase.Stopped (stop_number r) n

abbrev pub held_at : Place → List ℕ
held_at (opening n) = []
held_at (heading came) = came
held_at (inside type n came) = came
held_at (passing n) = []
held_at (whole type body) = body
held_at ended = []
held_at (stopped r n) = []

-- bytes stand at the front of others
pub record Front (bs w : List ℕ) : Type 0 where
  pub short : length bs ≤ length w
  pub is : take (length bs) w ≡ bs

-- ---- `walk`

abbrev pub walk_answers : Walk → Walked
walk_answers (reached p used) = record { phase = phase_of p; used = used }

abbrev pub walk_holds : Walk → List ℕ
walk_holds (reached p used) = held_at p

-- ---- `end`

-- the phase after the end was named: as `end_of` has it of the place
abbrev pub end_in : Phase → Phase
end_in (phase.Opening n) = phase.Stopped 1 0
end_in (phase.Header zero) = phase.Ended
end_in (phase.Header (suc n)) = phase.Stopped 1 0
end_in (phase.Body type left have) = phase.Stopped 1 0
end_in (phase.Skip left) = phase.Stopped 1 0
end_in (phase.Whole type have) = phase.Whole type have
end_in phase.Ended = phase.Ended
end_in (phase.Stopped r n) = phase.Stopped r n

unfoldable pub end_answers : Phase → Phase
end_answers p = pick (made p) (end_in p) (phase.Stopped (number not_writable) 0)

-- ---- inside

-- a phase that stands for a place, whatever the work bytes hold
pub record Starts (place : Place) (p : Phase) : Type 0 where
  pub is : (w : List ℕ) → place_in p w ≡ place
  pub fit : (room : ℕ) → work_len ≤ room → sound p room ≡ true

-- the same where a header may be refused
abbrev pub phase_in : Result Phase Refusal → Phase
phase_in (Ok p) = p
phase_in (Err r) = phase.Stopped (number r) 0

pub record Begins (place : Place) (r : Result Phase Refusal) : Type 0 where
  pub starts : Starts place (phase_in r)

-- the same for n bytes of an event that are to come, whatever its trailer
pub record Ready (type n : ℕ) (p : Phase) : Type 0 where
  pub starts : (t : ℕ) → Starts (arrived t type n []) p

-- a part of a walk through what is left of a chunk: from a phase and its work bytes to later ones, over so many bytes
pub record Moves (t : ℕ) (rest w : List ℕ) (p : Phase) (w' : List ℕ) (p' : Phase) (n : ℕ) : Type 0 where
  pub goes : (used : ℕ) → walked t (place_in p w) used rest ≡ walked t (place_in p' w') (used + n) (drop n rest)
  pub fit : sound p' (length w') ≡ true
  pub on : 0 < n
  pub within : n ≤ length rest

-- the same where the work bytes stay as they are
pub record Steps (rest : List ℕ) (p p' : Phase) (n : ℕ) : Type 0 where
  pub moves : (t : ℕ) (w : List ℕ) → work_len ≤ length w → Moves t rest w p w p' n

-- whether the reader waits for its caller
pub record Waiting (p : Phase) (r : Bool) : Type 0 where
  pub is : (w : List ℕ) → waits (place_in p w) ≡ r

-- what a walk comes to, in the reader's own terms: the phase with the work bytes stands for the place that was reached, and is sound
pub record WalkIs (wanted : Walk) (chunk w : List ℕ) (p : Phase) (used : ℕ) : Type 0 where
  pub is : reached (place_of p w) used ≡ wanted
  pub fit : sound p (length w) ≡ true
  pub within : used ≤ length chunk
