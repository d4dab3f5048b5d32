-- The caller's loop: whatever the steps say on the way, it comes to the run over what arrives.
use Prim.Native.Nat.{ℕ, ◌≤◌, min}
use mathlib.Core.Path.{◌≡◌, refl, sym, ap, ◌∙◌}
use mathlib.Core.Bool.{Bool, true, false}
use mathlib.Core.List.{List, [], ◌∷◌, ◌++◌, append-nil, append_assoc}
use lib.ListN.{length, take, drop}
use lib.Seq.{drop-length}
use Rattle.misc.specs.Refusal.{not_a_set}
use Rattle.binlog.specs.Stop.{stop_for}
use Rattle.binlog.specs.Format.{trailer}
use Rattle.binlog.specs.Place.{Place}
use Rattle.binlog.specs.Run.{at, Word, chunk, end_of, feed, hear}
use Rattle.binlog.specs.Walk.{is_whole}
use Rattle.binlog.specs.Held.{work_len, place_of, phase_of, Front, end_answers}
use Rattle.binlog.proofs.PlaceLaws.{place-stopped, place-begin}
use Rattle.gtid_sets.specs.Lent.{Lent, form, unfit, lent_set}
use Rattle.binlog_reader.specs.Does.{Judged, does}
use Rattle.binlog_reader.specs.Step.{SetRun, begins_at, begin_answers}
use Rattle.binlog_reader.specs.declared.Said.{Said}
use Rattle.binlog_reader.specs.declared.Said.TheVariants.{Event}
use Rattle.binlog_reader.specs.declared.Reader.{Reader}
use Rattle.binlog_reader.specs.declared.Answer.{Answer}
use Rattle.binlog_laws.specs.Files.{start_of}
use Rattle.binlog_laws.specs.Loop.{Lending, Drives, done, used, refused, more, ends, Stands, events_said, DrivesHears}
use Rattle.binlog_laws.proofs.StepRun.{after}
use Rattle.binlog_laws.proofs.Standing.{StandsAt, StandsFor, stands-in, is_refusal, as_said, judged_in, AfterStep, after-step}
use Rattle.binlog_laws.proofs.EndStands.{quiet-in, end-stands}

-- ---- the whole loop

record Driven (room : ℕ) (m : Lending) (before : List Judged) (said : List Said) (run : SetRun) : Type 0 where
  stands : Stands room m run
  events : as_said before ++ events_said said ≡ as_said (judged_in run)

said-append : (a b : List Judged) → as_said (a ++ b) ≡ as_said a ++ as_said b
said-append [] b = refl
said-append (j ∷ a) b = ap (λ (x : List Said). Event j.told j.type (length j.body) ∷ x) (said-append a b)

after-judged : (before : List Judged) (run : SetRun) → judged_in (after before run) ≡ before ++ judged_in run
after-judged before (at p kept said) = refl

all-used : (n : ℕ) (bs : List ℕ) → n ≡ length bs → drop n bs ≡ []
all-used n bs h = rw h (drop-length bs)

-- one step more, in front
module _ (room t : ℕ) (m m' : Lending) (bs : List ℕ) (r : Answer) (p : Place) (kept : List ℕ) (before : List Judged) (said : List Said) (ws : List Word)
    (a : AfterStep room t m bs r p kept before) where
  -- where the whole chunk comes to what these words come to behind the step
  one_more : (us : List Word) → hear (does room) t (at p kept before) (chunk bs ∷ ws) ≡ hear (does room) t (after before a.run) us
      → Driven room m' (judged_in (after before a.run)) said (hear (does room) t (after before a.run) us)
      → Driven room m' before (r.said ∷ said) (hear (does room) t (at p kept before) (chunk bs ∷ ws))
  one_more us e d = record {
    stands = rw e d.stands;
    events =
        ap (λ (x : List Said). as_said before ++ x) (a.says said)
        ∙ sym (append_assoc (as_said before) (as_said (judged_in a.run)) (events_said said))
        ∙ ap (λ (x : List Said). x ++ events_said said) (sym (said-append before (judged_in a.run)) ∙ ap as_said (sym (after-judged before a.run)))
        ∙ d.events ∙ ap (λ (x : SetRun). as_said (judged_in x)) (sym e);
  }

  comes-to : feed (does room) t (at p kept before) bs ≡ after before a.run
      → hear (does room) t (at p kept before) (chunk bs ∷ ws) ≡ hear (does room) t (after before a.run) ws
  comes-to e = ap (λ (x : SetRun). hear (does room) t x ws) e

  when-used : r.used ≡ length bs → feed (does room) t (at p kept before) bs ≡ after before a.run
  when-used all = a.feeds ∙ ap (feed (does room) t (after before a.run)) (all-used r.used bs all)

  when-refused : is_refusal r.said ≡ true → feed (does room) t (at p kept before) bs ≡ after before a.run
  when-refused h = a.feeds ∙ a.stops h (drop r.used bs)

  with_rest : hear (does room) t (at p kept before) (chunk bs ∷ ws)
      ≡ hear (does room) t (after before a.run) (chunk (drop r.used bs) ∷ ws)
  with_rest = ap (λ (x : SetRun). hear (does room) t x ws) a.feeds

module _ (room t : ℕ) where
  drives : (m m' : Lending) (run : SetRun) (ws : List Word) (said : List Said) → StandsFor room t m run → Drives m ws said m'
      → Driven room m' (judged_in run) said (hear (does room) t run ws)
  drives m m' (at p kept before) _ _ s done = record { stands = stands-in room t m p kept before s; events = append-nil (as_said before) }
  drives m m'' (at p kept before) _ _ s (used {m'} {bs} {r} {ws} {said} to all rest) =
      let a = after-step room t m m' bs r p kept before s to in
      one_more room t m' m'' bs r p kept before said ws a ws
      (comes-to room t m' m'' bs r p kept before said ws a (when-used room t m' m'' bs r p kept before said ws a all))
      (drives m' m'' (after before a.run) ws said a.stands rest)
  drives m m'' (at p kept before) _ _ s (refused {m'} {bs} {r} {ws} {said} to h rest) =
      let a = after-step room t m m' bs r p kept before s to in
      one_more room t m' m'' bs r p kept before said ws a ws
      (comes-to room t m' m'' bs r p kept before said ws a (when-refused room t m' m'' bs r p kept before said ws a (ap is_refusal h)))
      (drives m' m'' (after before a.run) ws said a.stands rest)
  drives m m'' (at p kept before) _ _ s (more {m'} {bs} {r} {ws} {said} to rest) =
      let a = after-step room t m m' bs r p kept before s to in
      one_more room t m' m'' bs r p kept before said ws a (chunk (drop r.used bs) ∷ ws) (with_rest room t m' m'' bs r p kept before said ws a)
      (drives m' m'' (after before a.run) (chunk (drop r.used bs) ∷ ws) said a.stands rest)
  drives m m'' (at p kept before) _ _ s (ends {m'} {r} {ws} {said} to rest) =
      let d = drives m' m'' (at (end_of p) kept before) ws said (end-stands room t m m' r p kept s to) rest in
      let none : events_said (r.said ∷ said) ≡ events_said said = rw to.answers (quiet-in (end_answers m.reader.phase) said) in
      record { stands = d.stands; events = ap (λ (x : List Said). as_said before ++ x) none ∙ d.events }

pub drives-hears : DrivesHears
drives-hears room m m' place kept ws said s d =
    let first : at place kept [] ≡ at s.place s.kept s.judged = s.is in
    let p : s.place ≡ place = cc in
    let k : s.kept ≡ kept = cc in
    let now : StandsAt room (trailer m.reader.checksums) m place kept = record {
      trails = refl;
      between = rw p at s.between;
      stands = s.stands ∙ p;
      front = s.front ∙ k;
      work = s.work;
      rooms = s.rooms;
    } in
    let all = drives room (trailer m.reader.checksums) m m' (at place kept []) ws said now d in
    (all.stands, all.events)

-- a reader that `begin` made, whose set stands at the front of its buffer
pub begin-stands : (m : Lending) (set : List ℕ) (checksums : Bool) → m.reader ≡ (begin_answers set checksums).reader → Front set m.set
    → work_len ≤ length m.work → Stands (min (length m.set) (length m.spare)) m (start_of set)
begin-stands m set checksums is front enough = record {
  place = begins_at (lent_set set);
  kept = set;
  judged = [];
  is = refl;
  between = begin-between (lent_set set);
  stands = ap (λ (x : Reader). place_of x.phase m.work) is ∙ begin-place (lent_set set) m.work enough;
  front = ap (λ (x : Reader). take x.len m.set) is ∙ front.is;
  work = enough;
  rooms = refl;
}
  where
    begin-between : (l : Lent) → is_whole (begins_at l) ≡ false
    begin-between unfit = refl
    begin-between (form s) = refl

    begin-place : (l : Lent) (w : List ℕ) → work_len ≤ length w → place_of (phase_of (begins_at l)) w ≡ begins_at l
    begin-place unfit w h = place-stopped (stop_for not_a_set) 0 w
    begin-place (form s) w h = place-begin w h
