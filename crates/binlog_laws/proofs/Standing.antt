-- A reader with its lent bytes stands for a place and a set, and so it does after each step.
use Prim.Native.Nat.{ℕ, ◌≤◌, min}
use mathlib.Core.Path.{◌≡◌, refl, sym, ap, ◌∙◌}
use mathlib.Core.Bool.{Bool, true, false}
use mathlib.Core.List.{List, [], ◌∷◌, ◌++◌, map}
use native.Mathlib.Omega.{arith}
use lib.ListN.{length, take, drop, length-append, length-drop}
use lib.Seq.{take-append_seam}
use Rattle.binlog.specs.Format.{trailer}
use Rattle.binlog.specs.Place.{Place, opening, heading, inside, passing, whole, ended, stopped}
use Rattle.binlog.specs.Run.{at, feed}
use Rattle.binlog.specs.Walk.{is_whole}
use Rattle.binlog.specs.Held.{work_len, place_of, phase_of, held_at, Front}
use Rattle.binlog.specs.declared.Phase.TheVariants as phase
use Rattle.binlog.proofs.RunLaws.{still-stopped}
use Rattle.binlog.proofs.PlaceLaws.{FitPlace, fit-place, place-back, place-between}
use Rattle.binlog_reader.specs.Does.{Judged, does}
use Rattle.binlog_reader.specs.Step.{Stepped, stepped, SetRun, steps, said_at, said_of}
use Rattle.binlog_reader.specs.declared.Said.{Said}
use Rattle.binlog_reader.specs.declared.Said.TheVariants.{MoreWanted, Ended, Event, Refused}
use Rattle.binlog_reader.specs.declared.Reader.{Reader}
use Rattle.binlog_reader.specs.declared.Answer.{Answer}
use Rattle.binlog_laws.specs.Loop as loop
use Rattle.binlog_laws.specs.Loop.{Lending, StepsTo, Stands, events_said}
use Rattle.binlog_laws.specs.Files.{read_in}
use Rattle.binlog_laws.proofs.StepRun.{after, Went, moved, told, trailer-short, step_run, went}

-- ---- the lent bytes stand for a place and a set

pub record StandsAt (room t : ℕ) (m : Lending) (p : Place) (kept : List ℕ) : Type 0 where
  pub trails : trailer m.reader.checksums ≡ t
  pub between : is_whole p ≡ false
  pub stands : place_of m.reader.phase m.work ≡ p
  pub front : take m.reader.len m.set ≡ kept
  pub work : work_len ≤ length m.work
  pub rooms : min (length m.set) (length m.spare) ≡ room

pub stands-in : (room t : ℕ) (m : Lending) (p : Place) (kept : List ℕ) (said : List Judged) → StandsAt room t m p kept → Stands room m (at p kept said)
stands-in room t m p kept said s = record {
  place = p;
  kept = kept;
  judged = said;
  is = refl;
  between = s.between;
  stands = s.stands;
  front = s.front;
  work = s.work;
  rooms = s.rooms;
}

abbrev pub StandsFor : ℕ → ℕ → Lending → SetRun → Type 0
StandsFor room t m (at p kept said) = StandsAt room t m p kept

-- ---- after a step

-- bytes over the front of a buffer that has room for them
over-length : (bs l : List ℕ) → length bs ≤ length l → length (bs ++ drop (length bs) l) ≡ length l
over-length bs l h = rw (length-append, length-drop) (omega arith)

module _ (room t : ℕ) (m m' : Lending) (bs : List ℕ) (r : Answer) (p : Place) (kept : List ℕ) (s : StandsAt room t m p kept) (to : StepsTo m bs r m') where
  is-step : loop.stepped m bs ≡ steps room t p kept bs
  is-step = rw (s.rooms, s.trails, s.stands, s.front)

  -- so it is for any run that is the step's
  step-stands : (run : SetRun) (n : ℕ) → loop.stepped m bs ≡ stepped run n → Went room kept run → StandsFor room t m' run
  step-stands run n e (moved q still fit) =
      let reads : m'.reader ≡ record { phase = phase_of q; checksums = m.reader.checksums; len = m.reader.len } =
      to.reader ∙ ap (λ (x : Answer). x.reader) to.answers ∙ rw e in
      let set : m'.set ≡ m.set = to.set ∙ rw e in
      let spare : m'.spare ≡ m.spare = to.spare ∙ rw e in
      let held : Front (held_at q) m'.work = rw e at to.holds in
      let enough : work_len ≤ length m'.work = omega (arith, to.work, s.work) in
      record {
        trails = ap (λ (x : Reader). trailer x.checksums) reads ∙ s.trails;
        between = still;
        stands = ap (λ (x : Reader). place_of x.phase m'.work) reads ∙ place-back q m'.work fit enough held;
        front = ap (λ (x : Reader). take x.len m'.set) reads ∙ ap (take m.reader.len) set ∙ s.front;
        work = enough;
        rooms = rw (set, spare) s.rooms;
      }
  step-stands run n e (told j next fits) =
      let reads : m'.reader ≡ record { phase = phase.Header 0; checksums = m.reader.checksums; len = length next } =
      to.reader ∙ ap (λ (x : Answer). x.reader) to.answers ∙ rw e in
      let set : m'.set ≡ next ++ drop (length next) m.set = to.set ∙ rw e in
      let spare : m'.spare ≡ next ++ drop (length next) m.spare = to.spare ∙ rw e in
      let enough : work_len ≤ length m'.work = omega (arith, to.work, s.work) in
      let both : min (length m.set) (length m.spare) ≡ room = s.rooms in
      let long-set : length (next ++ drop (length next) m.set) ≡ length m.set = over-length next m.set (omega arith) in
      let long-spare : length (next ++ drop (length next) m.spare) ≡ length m.spare = over-length next m.spare (omega arith) in
      record {
        trails = ap (λ (x : Reader). trailer x.checksums) reads ∙ s.trails;
        between = refl;
        stands = ap (λ (x : Reader). place_of x.phase m'.work) reads ∙ place-between m'.work enough;
        front = ap (λ (x : Reader). take x.len m'.set) reads ∙ ap (take (length next)) set ∙ take-append_seam next (drop (length next) m.set);
        work = enough;
        rooms = rw (set, spare, long-set, long-spare) both;
      }

  fit-now : FitPlace p
  fit-now = rw (← s.stands) (fit-place m.reader.phase m.work)

  few : t ≤ 4
  few = rw (← s.trails) (trailer-short m.reader.checksums)

-- ---- what is said

abbrev pub is_refusal : Said → Bool
is_refusal MoreWanted = false
is_refusal Ended = false
is_refusal (Event t type n) = false
is_refusal (Refused r n) = true

abbrev pub as_said : List Judged → List Said
as_said js = map (λ (j : Judged). Event j.told j.type (length j.body)) js

abbrev pub judged_in : SetRun → List Judged
judged_in run = (read_in run).judged

quiet : (q : Place) (said : List Said) → events_said (said_at q ∷ said) ≡ events_said said
quiet (opening n) said = refl
quiet (heading came) said = refl
quiet (inside type n came) said = refl
quiet (passing n) said = refl
quiet (whole type body) said = refl
quiet ended said = refl
quiet (stopped r n) said = refl

says-run : (room : ℕ) (kept : List ℕ) (run : SetRun) (said : List Said) → Went room kept run
    → events_said (said_of run ∷ said) ≡ as_said (judged_in run) ++ events_said said
says-run room kept run said (moved q still fit) = quiet q said
says-run room kept run said (told j next fits) = refl

-- a step that says a refusal has stopped
refusal-stops : (room t : ℕ) (q : Place) (kept : List ℕ) (said : List Judged) (bs : List ℕ) → is_refusal (said_at q) ≡ true
    → feed (does room) t (at q kept said) bs ≡ at q kept said
refusal-stops room t (opening n) kept said bs h = absurd (let z : ◌≡◌ {A = ℕ} 0 1 = cc in omega arith)
refusal-stops room t (heading came) kept said bs h = absurd (let z : ◌≡◌ {A = ℕ} 0 1 = cc in omega arith)
refusal-stops room t (inside type n came) kept said bs h = absurd (let z : ◌≡◌ {A = ℕ} 0 1 = cc in omega arith)
refusal-stops room t (passing n) kept said bs h = absurd (let z : ◌≡◌ {A = ℕ} 0 1 = cc in omega arith)
refusal-stops room t (whole type body) kept said bs h = absurd (let z : ◌≡◌ {A = ℕ} 0 1 = cc in omega arith)
refusal-stops room t ended kept said bs h = absurd (let z : ◌≡◌ {A = ℕ} 0 1 = cc in omega arith)
refusal-stops room t (stopped r n) kept said bs h = still-stopped (does room) t r n kept said bs

run-stops : (room t : ℕ) (kept : List ℕ) (before : List Judged) (run : SetRun) (bs : List ℕ) → Went room kept run → is_refusal (said_of run) ≡ true
    → feed (does room) t (after before run) bs ≡ after before run
run-stops room t kept before run bs (moved q still fit) h = refusal-stops room t q kept (before ++ []) bs h
run-stops room t kept before run bs (told j next fits) h = absurd (let z : ◌≡◌ {A = ℕ} 0 1 = cc in omega arith)

-- ---- all of it together

pub record AfterStep (room t : ℕ) (m' : Lending) (bs : List ℕ) (r : Answer) (p : Place) (kept : List ℕ) (before : List Judged) : Type 0 where
  pub run : SetRun
  pub stands : StandsFor room t m' (after before run)
  pub feeds : feed (does room) t (at p kept before) bs ≡ feed (does room) t (after before run) (drop r.used bs)
  pub says : (said : List Said) → events_said (r.said ∷ said) ≡ as_said (judged_in run) ++ events_said said
  pub stops : is_refusal r.said ≡ true → (rest : List ℕ) → feed (does room) t (after before run) rest ≡ after before run

stands_after : (room t : ℕ) (m : Lending) (before : List Judged) (run : SetRun) → StandsFor room t m run → StandsFor room t m (after before run)
stands_after room t m before (at p kept said) s = s

pub after-step : (room t : ℕ) (m m' : Lending) (bs : List ℕ) (r : Answer) (p : Place) (kept : List ℕ) (before : List Judged) → StandsAt room t m p kept
    → StepsTo m bs r m' → AfterStep room t m' bs r p kept before
after-step room t m m' bs r p kept before s to = go (loop.stepped m bs) refl
  where
    go : (x : Stepped) → loop.stepped m bs ≡ x → AfterStep room t m' bs r p kept before
    go (stepped run n) e =
        let is = is-step room t m m' bs r p kept s to in
        let so : steps room t p kept bs ≡ stepped run n = sym is ∙ e in
        let w : Went room kept run =
        rw so at (went room t (few room t m m' bs r p kept s to) p kept bs (fit-now room t m m' bs r p kept s to)) in
        let said : r.said ≡ said_of run = ap (λ (x : Answer). x.said) to.answers ∙ rw e in
        let uses : r.used ≡ n = ap (λ (x : Answer). x.used) to.answers ∙ rw e in
        record {
          run = run;
          stands = stands_after room t m' before run (step-stands room t m m' bs r p kept s to run n e w);
          feeds = rw uses (step_run room t p kept bs before run n s.between so);
          says = λ more. rw said (says-run room kept run more w);
          stops = λ h rest. run-stops room t kept before run rest w (rw said at h);
        }
