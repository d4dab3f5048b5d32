-- A step of the reader, as far as the program asks: what it used lies in the chunk, and is something where there may be more; the set stays
-- in its buffer; and an event that was answered stands in the work bytes, and has an id if it is told one.
use Prim.Native.Nat.{ℕ, ◌-◌, ◌≤◌, ◌<◌, min}
use mathlib.Core.Path.{◌≡◌, refl, sym, ◌∙◌}
use mathlib.Core.Bool.{Bool, true, false}
use mathlib.Core.List.{List, []}
use native.Mathlib.Omega.{arith}
use lib.Dec.{leb, eqb}
use lib.ListN.{length, take, drop, length-drop}
use lib.Seq.{length-take-le}
use borrow.Author.Tests.{leb-true, eqb-false}
use Rattle.misc.specs.Pick.{pick}
use Rattle.misc.specs.Output.{Output, refused, bytes}
use Rattle.packets.proofs.Tests.{split}
use Rattle.previous_gtids_event.specs.Previous.{previous}
use Rattle.previous_gtids_event.specs.Rewrite.{body_bytes}
use Rattle.gtid_sets.specs.Run as run
use Rattle.gtid_sets.specs.Run.{Event, Answer, no_id, already, taken, answer, after}
use Rattle.gtid_sets.specs.Lent.{Lent, form, unfit, lent_set}
use Rattle.resume_set.specs.Answers.{event_of}
use Rattle.set_join.specs.JoinIn.{joined_in}
use Rattle.binlog.specs.Format.{trailer}
use Rattle.binlog.specs.Place.{Place, opening, heading, inside, passing, whole, ended, stopped}
use Rattle.binlog.specs.Run.{Done, did, fails, at, answered}
use Rattle.binlog.specs.Walk.{Walk, reached, waits, is_whole, walked}
use Rattle.binlog.specs.Held.{made, sound, place_in, place_of, phase_of, Front}
use Rattle.binlog.specs.declared.Phase.{Phase}
use Rattle.binlog.specs.declared.Phase.TheVariants as phase
use Rattle.binlog.proofs.WalkRun.{walk-waits, walk-all, walk-within, walk-some, either}
use Rattle.binlog_reader.specs.Does.{fitted, offered_as, offers, joins, acts, tells}
use Rattle.binlog_reader.specs.Step.{stepped, settled_at, steps, run_in, step_of, step_answers, step_holds, said_at, begins_at, step_at, begin_answers}
use Rattle.binlog_reader.specs.declared.Told.{Told}
use Rattle.binlog_reader.specs.declared.Told.TheVariants.{NoId, AlreadyThere, Taken, Joined}
use Rattle.binlog_reader.specs.declared.Reader.{Reader}
use Rattle.binlog_reader.specs.declared.Answer as declared
use Rattle.gtid_follow.specs.declared.Walk.{Walk as Going}
use Rattle.gtid_follow.specs.declared.Turn.{Turn}
use Rattle.gtid_follow.specs.declared.Turn.TheVariants.{On, Over}
use Rattle.gtid_follow.specs.Program.{Names, StandsIn, goes_on, is_event, walk_in, UsesMore, Fits}

-- ---- an event that is accepted

record Did (room type : ℕ) (t : Told) (bs : List ℕ) : Type 0 where
  pub short : length bs ≤ room
  pub names : Names t type

module _ (room type : ℕ) (t : Told) (bs : List ℕ) where
  fitted-did : (u : Told) (cs : List ℕ) → Names u type → fitted room u cs ≡ did t bs → Did room type t bs
  fitted-did u cs names e = split (leb (length cs) room)
      (λ h.
      let f : ◌≡◌ {A = Done (List ℕ) Told} (did u cs) (did t bs) = rw h at e in
      let same : u ≡ t = cc in
      let bytes : cs ≡ bs = cc in
      record { short = rw (← bytes) (leb-true (length cs) room h); names = rw (← same) names })
      (λ h.
      let f = rw h at e in
      let z : ◌≡◌ {A = ℕ} 0 1 = cc in
      absurd (omega arith))

  joins-did : (o : Output) → joins room o ≡ did t bs → Did room type t bs
  joins-did (refused r) e = absurd (let z : ◌≡◌ {A = ℕ} 0 1 = cc in omega arith)
  joins-did (bytes cs) e = fitted-did Joined cs tt e

  offered-did : (a : Answer) (cs : List ℕ) → (type ≡ 35 → ⊥) → offered_as room a cs ≡ did t bs → Did room type t bs
  offered-did no_id cs other e = fitted-did NoId cs tt e
  offered-did already cs other e = fitted-did AlreadyThere cs other e
  offered-did taken cs other e = fitted-did Taken cs other e
  offered-did (run.refused r) cs other e = absurd (let z : ◌≡◌ {A = ℕ} 0 1 = cc in omega arith)

  offers-did : (l : Lent) (v : Event) → (type ≡ 35 → ⊥) → offers room l v ≡ did t bs → Did room type t bs
  offers-did unfit v other e = absurd (let z : ◌≡◌ {A = ℕ} 0 1 = cc in omega arith)
  offers-did (form s) v other e = offered-did (answer s v) (body_bytes (after s v)) other e

  acts-did : (set body : List ℕ) → acts room set type body ≡ did t bs → Did room type t bs
  unfolding acts
  acts-did set body e = split (eqb type 35)
      (λ h. joins-did (joined_in (lent_set set) (previous body)) (rw h at e))
      (λ h. offers-did (lent_set set) (event_of type body) (eqb-false type 35 h) (rw h at e))

-- ---- a phase in which no event waits for its answer

phase-place : (p : Phase) (w : List ℕ) → is_event p ≡ false → is_whole (place_in p w) ≡ false
phase-place (phase.Opening n) w h = refl
phase-place (phase.Header have) w h = refl
phase-place (phase.Body type left have) w h = refl
phase-place (phase.Skip left) w h = refl
phase-place (phase.Whole type have) w h = h
phase-place phase.Ended w h = refl
phase-place (phase.Stopped r n) w h = refl

place-of : (p : Phase) (w : List ℕ) → is_event p ≡ false → is_whole (place_of p w) ≡ false
unfolding place_of
place-of p w h = split (sound p (length w)) (λ s. rw s (phase-place p w h)) (λ s. rw s (split (made p) (λ m. rw m) (λ m. rw m)))

place-phase : (q : Place) → is_whole q ≡ false → is_event (phase_of q) ≡ false
place-phase (opening n) h = refl
place-phase (heading came) h = refl
place-phase (inside type n came) h = refl
place-phase (passing n) h = refl
place-phase (whole type body) h = h
place-phase ended h = refl
place-phase (stopped r n) h = refl

going_waits : (q : Place) → is_whole q ≡ false → goes_on (said_at q) ≡ true → waits q ≡ false
going_waits (opening n) h e = refl
going_waits (heading came) h e = refl
going_waits (inside type n came) h e = refl
going_waits (passing n) h e = refl
going_waits (whole type body) h e = h
going_waits ended h e = refl
going_waits (stopped r n) h e = sym e

stands-in : (work : ℕ) (q : Place) → StandsIn work (said_at q)
stands-in work (opening m) = tt
stands-in work (heading came) = tt
stands-in work (inside u m came) = tt
stands-in work (passing m) = tt
stands-in work (whole u body) = tt
stands-in work ended = tt
stands-in work (stopped r m) = tt

-- ---- a step

-- of a chunk of so many bytes, with a buffer for the set and work bytes of so many
pub record StepFits (chunk set work : ℕ) (r : declared.Answer) : Type 0 where
  pub used : r.used ≤ chunk
  pub kept : r.reader.len ≤ set
  pub answered : is_event r.reader.phase ≡ false
  pub some : goes_on r.said ≡ true → 0 < r.used
  pub stands : StandsIn work r.said

module _ (reader : Reader) (set work chunk : ℕ) (inside-set : reader.len ≤ set) (kept : List ℕ) where
  -- where no event was judged
  rests : (q : Place) (n : ℕ) → is_whole q ≡ false → n ≤ chunk → (waits q ≡ false → 0 < n)
      → StepFits chunk set work (step_answers reader (stepped (at q kept []) n))
  rests q n h most some =
      record {
        used = most;
        kept = inside-set;
        answered = place-phase q h;
        some = λ e. some (going_waits q h e);
        stands = stands-in work q;
      }

  -- where one was
  judges : (room type n : ℕ) (body : List ℕ) → room ≤ set → 0 < n → n ≤ chunk → (d : Done (List ℕ) Told) → acts room kept type body ≡ d
      → (w : List ℕ) → length w ≤ work → Front (step_holds (answered kept [] (tells type body d))) w
      → StepFits chunk set work (step_answers reader (stepped (answered kept [] (tells type body d)) n))
  judges room type n body less some most (fails r m) e w room-w f = rests (stopped r m) n refl most (λ z. some)
  judges room type n body less some most (did t bs) e w room-w f =
      let d = acts-did room type t bs kept body e in
      record {
        used = most;
        kept = omega (arith, d.short);
        answered = refl;
        some = λ z. some;
        stands = (d.names, omega (arith, f.short));
      }

  settles : (room t : ℕ) → room ≤ set → (q : Place) (n : ℕ) → n ≤ chunk → (waits q ≡ false → 0 < n) → (is_whole q ≡ true → 0 < n)
      → (w : List ℕ) → length w ≤ work → Front (step_holds (run_in (settled_at room t kept (reached q n)))) w
      → StepFits chunk set work (step_answers reader (settled_at room t kept (reached q n)))
  settles room t less (opening m) n most some found w room-w f = rests (opening m) n refl most some
  settles room t less (heading came) n most some found w room-w f = rests (heading came) n refl most some
  settles room t less (inside type m came) n most some found w room-w f = rests (inside type m came) n refl most some
  settles room t less (passing m) n most some found w room-w f = rests (passing m) n refl most some
  settles room t less (whole type body) n most some found w room-w f =
      judges room type n body less (found refl) most (acts room kept type body) refl w room-w f
  settles room t less ended n most some found w room-w f = rests ended n refl most some
  settles room t less (stopped r m) n most some found w room-w f = rests (stopped r m) n refl most some

-- a walk that ends at an event began elsewhere
walk-found : (t : ℕ) (bs : List ℕ) (p q : Place) (n : ℕ) → 0 < length bs → is_whole p ≡ false → walked t p 0 bs ≡ reached q n → is_whole q ≡ true → 0 < n
walk-found t bs p q n some still e found = either (waits p)
    (λ w.
    let here = walk-waits t p 0 bs w in
    let same : p ≡ q = cc in
    let z : ◌≡◌ {A = Bool} true false = sym found ∙ rw (← same) still in
    absurd (let y : ◌≡◌ {A = ℕ} 0 1 = cc in omega arith))
    (λ w. walk-some t bs p 0 q n some w e)

step_fits : (reader : Reader) (work set : List ℕ) (spare : ℕ) (bs work' : List ℕ) (r : declared.Answer) → is_event reader.phase ≡ false
    → reader.len ≤ length set → 0 < length bs → r ≡ step_answers reader (step_of reader work set spare bs)
    → Front (step_holds (run_in (step_of reader work set spare bs))) work' → StepFits (length bs) (length set) (length work') r
unfolding steps
step_fits reader work set spare bs work' r still short some is f =
    rw is (go (walked t p 0 bs) refl f)
  where
    t : ℕ
    t = trailer reader.checksums

    p : Place
    p = place_of reader.phase work

    room : ℕ
    room = min (length set) spare

    kept : List ℕ
    kept = take reader.len set

    go : (x : Walk) → walked t p 0 bs ≡ x → Front (step_holds (run_in (settled_at room t kept x))) work'
        → StepFits (length bs) (length set) (length work') (step_answers reader (settled_at room t kept x))
    go (reached q n) e f =
        settles reader (length set) (length work') (length bs) short kept room t (omega arith) q n (omega (arith, walk-within t bs p 0 q n e))
        (λ w. let all = walk-all t bs p 0 q n e w in omega arith)
        (walk-found t bs p q n some (place-of reader.phase work still) e)
        work' (omega arith) f

-- of what is left of a chunk from a place on
pub rest-fits : (reader : Reader) (work set : List ℕ) (spare : ℕ) (chunk : List ℕ) (from : ℕ) (work' : List ℕ) (r : declared.Answer)
    → is_event reader.phase ≡ false → reader.len ≤ length set → from < length chunk
    → r ≡ step_answers reader (step_of reader work set spare (take (length chunk - from) (drop from chunk)))
    → Front (step_holds (run_in (step_of reader work set spare (take (length chunk - from) (drop from chunk))))) work'
    → StepFits (length chunk - from) (length set) (length work') r
rest-fits reader work set spare chunk from work' r still short before is f =
    let rest = length-drop from chunk in
    let all = length-take-le (length chunk - from) (drop from chunk) (omega arith) in
    rw all at (step_fits reader work set spare (take (length chunk - from) (drop from chunk)) work' r still short (omega arith) is f)

-- ---- the beginning

begins : (l : Lent) (checksums : Bool) (len : ℕ) → is_event (step_at (begins_at l) checksums len).reader.phase ≡ false
begins unfit checksums len = refl
begins (form s) checksums len = refl

pub begin-fits : (set : List ℕ) (checksums : Bool) (r : declared.Answer) → r ≡ begin_answers set checksums
    → (r.reader.len ≤ length set) × (is_event r.reader.phase ≡ false)
begin-fits set checksums r e = rw e (omega arith, begins (lent_set set) checksums (length set))

-- ---- a turn

-- it holds the walk, whether that goes on or not
module _ (walk : Going) (turn : Turn) (on : Bool) (is : turn ≡ pick on (On walk) (Over walk)) where
  pub turn-fits : {set text : ℕ} → Fits set text walk → Fits set text (walk_in turn)
  turn-fits fits = split on (λ h. rw (is, h) fits) (λ h. rw (is, h) fits)

  pub turn-uses : {from chunk : ℕ} → walk.used ≤ chunk → (on ≡ true → from < walk.used) → UsesMore from chunk turn
  turn-uses most more = split on (λ h. rw (is, h) (most, more h)) (λ h. rw (is, h) most)

-- the same lengths, said otherwise
pub fits-as : {set set' text text' : ℕ} {walk : Going} → set ≡ set' → text ≡ text' → Fits set text walk → Fits set' text' walk
fits-as same also fits = rw (← same, ← also) fits
