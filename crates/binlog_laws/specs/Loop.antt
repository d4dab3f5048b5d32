-- The caller's loop: what arrives is given to the reader chunk by chunk, and of a chunk what a step didn't use is given to the next step.
use Rattle.std.specs.Prelude.{ℕ, ◌≤◌, min, ◌≡◌, false, List, [], ◌∷◌, map, length, take, drop}
use Rattle.binlog.specs.Format.{trailer}
use Rattle.binlog.specs.Place.{Place}
use Rattle.binlog.specs.Run.{at, Word, chunk, end, hear}
use Rattle.binlog.specs.Walk.{is_whole}
use Rattle.binlog.specs.Held.{work_len, place_of, Front}
use Rattle.binlog_reader.specs.Does.{Judged, does}
use Rattle.binlog_reader.specs.Step.{Stepped, SetRun, run_in, step_of, step_answers, step_leaves, step_holds, end_answers_of}
use Rattle.binlog_reader.specs.declared.Said.{Said}
use Rattle.binlog_reader.specs.declared.Said.TheVariants.{MoreWanted, Ended, Event, Refused}
use Rattle.binlog_reader.specs.declared.Reader.{Reader}
use Rattle.binlog_reader.specs.declared.Answer.{Answer}
use Rattle.binlog_laws.specs.Files.{read_in}

-- a reader, and the bytes that are lent to it
pub record Lending : Type 0 where
  pub reader : Reader
  pub work : List ℕ
  pub set : List ℕ
  pub spare : List ℕ

-- the step that its promise speaks of
abbrev pub stepped : Lending → List ℕ → Stepped
stepped m bs = step_of m.reader m.work m.set (length m.spare) bs

-- what `step` promises of its answer and of all lent bytes
pub record StepsTo (m : Lending) (bs : List ℕ) (r : Answer) (m' : Lending) : Type 0 where
  pub answers : r ≡ step_answers m.reader (stepped m bs)
  pub reader : m'.reader ≡ r.reader
  pub set : m'.set ≡ step_leaves m.set (run_in (stepped m bs))
  pub spare : m'.spare ≡ step_leaves m.spare (run_in (stepped m bs))
  pub holds : Front (step_holds (run_in (stepped m bs))) m'.work
  pub work : length m'.work ≡ length m.work

-- and `end`
pub record EndsTo (m : Lending) (r : Answer) (m' : Lending) : Type 0 where
  pub answers : r ≡ end_answers_of m.reader
  pub is : m' ≡ record { reader = r.reader; work = m.work; set = m.set; spare = m.spare }

-- the loop, with all that the steps say
pub data Drives : Lending → List Word → List Said → Lending → Type 0 where
  done : {m : Lending} → Drives m [] [] m
  -- the step used all of the chunk
  used : {m m' m'' : Lending} {bs : List ℕ} {r : Answer} {ws : List Word} {said : List Said} → StepsTo m bs r m' → r.used ≡ length bs
      → Drives m' ws said m'' → Drives m (chunk bs ∷ ws) (r.said ∷ said) m''
  -- it refused: what is left of the chunk isn't given again
  refused : {m m' m'' : Lending} {bs : List ℕ} {r : Answer} {ws : List Word} {said : List Said} {n len : ℕ} → StepsTo m bs r m'
      → r.said ≡ Refused n len → Drives m' ws said m'' → Drives m (chunk bs ∷ ws) (r.said ∷ said) m''
  -- else the caller goes on with the rest of it
  more : {m m' m'' : Lending} {bs : List ℕ} {r : Answer} {ws : List Word} {said : List Said} → StepsTo m bs r m'
      → Drives m' (chunk (drop r.used bs) ∷ ws) said m'' → Drives m (chunk bs ∷ ws) (r.said ∷ said) m''
  ends : {m m' m'' : Lending} {r : Answer} {ws : List Word} {said : List Said} → EndsTo m r m'
      → Drives m' ws said m'' → Drives m (end ∷ ws) (r.said ∷ said) m''

-- a reader with its lent bytes stands for a run over a file: for its place and for its set, which stands at the front of its buffer
pub record Stands (room : ℕ) (m : Lending) (run : SetRun) : Type 0 where
  pub place : Place
  pub kept : List ℕ
  pub judged : List Judged
  pub is : run ≡ at place kept judged
  pub between : is_whole place ≡ false
  pub stands : place_of m.reader.phase m.work ≡ place
  pub front : take m.reader.len m.set ≡ kept
  pub work : work_len ≤ length m.work
  pub rooms : min (length m.set) (length m.spare) ≡ room

-- the events that were said, one after another
abbrev pub events_said : List Said → List Said
events_said [] = []
events_said (MoreWanted ∷ said) = events_said said
events_said (Ended ∷ said) = events_said said
events_said (Event t type n ∷ said) = Event t type n ∷ events_said said
events_said (Refused r n ∷ said) = events_said said

-- so the loop comes to the run, whatever it says on the way: the lent bytes stand for what was heard, and the events that were said are those that
-- the run answered
abbrev pub DrivesHears : Type 0
DrivesHears = (room : ℕ) (m m' : Lending) (place : Place) (kept : List ℕ) (ws : List Word) (said : List Said)
    → Stands room m (at place kept []) → Drives m ws said m'
    → let run : SetRun = hear (does room) (trailer m.reader.checksums) (at place kept []) ws in
    Stands room m' run × (events_said said ≡ map (λ (j : Judged). Event j.told j.type (length j.body)) (read_in run).judged)
