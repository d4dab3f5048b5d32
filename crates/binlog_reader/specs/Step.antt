-- A step through a chunk: a walk up to the first event that is whole, a refusal or the chunk's end; such an event is judged at once.
use Rattle.std.specs.Prelude.{ℕ, min, Bool, List, [], ◌∷◌, ◌++◌, length, take, drop}
use Rattle.misc.specs.Refusal.{not_a_set}
use Rattle.binlog.specs.Format.{trailer}
use Rattle.binlog.specs.Stop.{stop_number, stop_for}
use Rattle.binlog.specs.Place.{Place, opening, heading, inside, passing, whole, ended, stopped}
use Rattle.binlog.specs.Run.{Run, at, answered, settled}
use Rattle.binlog.specs.Walk.{Walk, reached, walked}
use Rattle.binlog.specs.Held.{place_of, phase_of, held_at, end_answers}
use Rattle.binlog.specs.declared.Phase.{Phase}
use Rattle.binlog.specs.declared.Phase.TheVariants as phase
use Rattle.gtid_sets.specs.Lent.{Lent, form, unfit, lent_set}
use Rattle.binlog_reader.specs.Does.{Judged, does}
use Rattle.binlog_reader.specs.declared.Said.{Said}
use Rattle.binlog_reader.specs.declared.Said.TheVariants.{MoreWanted, Ended, Event, Refused}
use Rattle.binlog_reader.specs.declared.Reader.{Reader}
use Rattle.binlog_reader.specs.declared.Answer.{Answer}

-- a run over a set's bytes
abbrev pub SetRun : Type 0
SetRun = Run (List ℕ) Judged

-- the run after a step, with the answer of this step alone, and how many bytes of the chunk were used
pub data Stepped : Type 0 where
  stepped : SetRun → ℕ → Stepped

abbrev pub settled_at : ℕ → ℕ → List ℕ → Walk → Stepped
settled_at room t set (reached p used) = stepped (settled (does room) t p set []) used

-- from a place, with a set, where there is room for a set of so many bytes, and each event has a trailer of t
unfoldable pub steps : ℕ → ℕ → Place → List ℕ → List ℕ → Stepped
steps room t p set chunk = settled_at room t set (walked t p 0 chunk)

abbrev pub run_in : Stepped → SetRun
run_in (stepped run used) = run

-- ---- a reader, its work bytes, the buffer that has its set at the front, and the length of the room for the set after an event

abbrev pub step_of : Reader → List ℕ → List ℕ → ℕ → List ℕ → Stepped
step_of r work set spare chunk = steps (min (length set) spare) (trailer r.checksums) (place_of r.phase work) (take r.len set) chunk

-- what is said where no event was judged
abbrev pub said_at : Place → Said
said_at (opening n) = MoreWanted
said_at (heading came) = MoreWanted
said_at (inside type n came) = MoreWanted
said_at (passing n) = MoreWanted
said_at (whole type body) = MoreWanted
said_at ended = Ended
said_at (stopped r n) = Refused (stop_number r) n

-- what a step says: an event's answer, with its type and the length of its body; or how the reader is
abbrev pub said_of : SetRun → Said
said_of (at p set []) = said_at p
said_of (at p set (j ∷ js)) = Event j.told j.type (length j.body)

-- how long the set is then
abbrev pub len_of : ℕ → SetRun → ℕ
len_of len (at p set []) = len
len_of len (at p set (j ∷ js)) = length set

abbrev pub place_after : SetRun → Place
place_after (at p set js) = p

abbrev pub reader_of : Reader → SetRun → Reader
reader_of r run = record { phase = phase_of (place_after run); checksums = r.checksums; len = len_of r.len run }

-- what it answers,
abbrev pub step_answers : Reader → Stepped → Answer
step_answers r (stepped run used) = record { said = said_of run; used = used; reader = reader_of r run }

-- what it leaves in the buffer of the set, and likewise in the room for the set after an event: that set at the front, if one was judged and accepted
abbrev pub step_leaves : List ℕ → SetRun → List ℕ
step_leaves buffer (at p set []) = buffer
step_leaves buffer (at p set (j ∷ js)) = set ++ drop (length set) buffer

-- and what then stands at the front of the work bytes: the body of that event, or what has come of a header or a body
abbrev pub step_holds : SetRun → List ℕ
step_holds (at p set []) = held_at p
step_holds (at p set (j ∷ js)) = j.body

-- ---- `begin` and `end`

abbrev pub begins_at : Lent → Place
begins_at unfit = stopped (stop_for not_a_set) 0
begins_at (form s) = opening 0

-- a reader at a place, of a set of so many bytes
abbrev pub step_at : Place → Bool → ℕ → Answer
step_at p checksums len = record { said = said_at p; used = 0; reader = record { phase = phase_of p; checksums = checksums; len = len } }

abbrev pub begin_answers : List ℕ → Bool → Answer
begin_answers set checksums = step_at (begins_at (lent_set set)) checksums (length set)

-- what is said in a phase where no event was judged
abbrev pub said_in : Phase → Said
said_in (phase.Opening n) = MoreWanted
said_in (phase.Header have) = MoreWanted
said_in (phase.Body type left have) = MoreWanted
said_in (phase.Skip left) = MoreWanted
said_in (phase.Whole type have) = MoreWanted
said_in phase.Ended = Ended
said_in (phase.Stopped r n) = Refused r n

-- the reader in such a phase, where so many bytes were used
abbrev pub rests_in : Reader → Phase → ℕ → Answer
rests_in r p used = record { said = said_in p; used = used; reader = record { phase = p; checksums = r.checksums; len = r.len } }

abbrev pub end_answers_of : Reader → Answer
end_answers_of r = rests_in r (end_answers r.phase) 0

-- ---- inside

-- the run after an event was judged that a walk found: with the length of the set in its buffer, that buffer, and the length of the room
abbrev pub settled_in : ℕ → List ℕ → ℕ → ℕ → List ℕ → SetRun
settled_in len set spare type body = answered (take len set) [] (does (min (length set) spare) (take len set) type body)
