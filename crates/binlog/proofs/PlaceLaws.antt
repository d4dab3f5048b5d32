-- Places that come up have a phase that is made, and with their bytes at the front of the work bytes the phase stands for the place again.
use Prim.Native.Nat.{ℕ, zero, suc, ◌+◌, ◌-◌, ◌≤◌}
use mathlib.Core.Path.{◌≡◌, refl, sym, ap, ◌∙◌}
use mathlib.Core.Bool.{true}
use mathlib.Core.List.{List, [], ◌∷◌, ◌++◌}
use native.Mathlib.Omega.{arith}
use lib.ListN.{length, take, get_or, length-append, length-take}
use lib.Dec.{ltb, leb, eqb}
use borrow.Author.Tests.{ltb-true, ltb-false, leb-true, lt-ltb, le-leb}
use Rattle.misc.specs.Body.{body_limit}
use Rattle.misc.proofs.ParseLaws.{pick-either}
use Rattle.binlog.specs.Format.{the_opening, type_in, size_in, is_read}
use Rattle.binlog.specs.Stop.{Stop, stop, stop_number}
use Rattle.binlog.specs.Place.{Place, opening, heading, inside, passing, whole, ended, stopped, opened, arrived, passed, judged, headed, next}
use Rattle.binlog.specs.Run.{end_of}
use Rattle.binlog.specs.Walk.{reached, waits, walked}
use Rattle.binlog.specs.Held.{work_len, made, needs, sound, place_in, place_of, phase_of, held_at, Front}
use Rattle.binlog.specs.declared.Phase.{Phase}
use Rattle.binlog.specs.declared.Phase.TheVariants as phase
use Rattle.binlog.proofs.WalkRun.{either}
use Rattle.binlog.proofs.PhaseLaws.{both, place-sound, sound-by, phase-kept, front-none}

-- a place that comes up
abbrev pub FitPlace : Place → Type 0
FitPlace p = made (phase_of p) ≡ true

-- ---- where a byte leads

pub fit-stopped : (r : Stop) (n : ℕ) → FitPlace (stopped r n)
fit-stopped (stop m) n = lt-ltb 0 (m + 1) (omega arith)

fit_opened : (n : ℕ) → FitPlace (opened n)
fit_opened n = either (ltb n 4) (λ h. rw (h, h)) (λ h. rw h)

fit_passed : (n : ℕ) → FitPlace (passed n)
fit_passed zero = refl
fit_passed (suc n) = lt-ltb 0 (suc n) (omega arith)

fit-arrived : (t type n : ℕ) (came : List ℕ) → n + length came ≤ work_len → FitPlace (arrived t type n came)
fit-arrived t type zero came h = le-leb (length (take (length came - t) came)) work_len (rw length-take (omega arith))
fit-arrived t type (suc n) came h =
    rw (lt-ltb 0 (suc n) (omega arith), le-leb (suc n) work_len (omega arith), le-leb (length came) (work_len - suc n) (omega arith))

module _ (t : ℕ) (few : t ≤ 4) where
  fit-judged : (type size : ℕ) → FitPlace (judged t type size)
  unfolding judged body_limit
  fit-judged type size =
      either (ltb size (19 + t)) (λ h. rw h)
      (λ h. rw h (either (is_read type)
      (λ r. rw r (either (leb (size - (19 + t)) 65536)
      (λ l. let least = ltb-false size (19 + t) h in let most = leb-true (size - (19 + t)) 65536 l in rw l (fit-arrived t type (size - 19) [] (omega arith)))
      (λ l. rw l)))
      (λ r. rw r (fit_passed (size - 19)))))

  fit-headed : (came : List ℕ) → FitPlace (headed t came)
  unfolding headed
  fit-headed came = either (ltb (length came) 19) (λ h. rw (h, h)) (λ h. rw h (fit-judged (type_in came) (size_in came)))

  pub fit_next : (p : Place) (b : ℕ) → FitPlace p → FitPlace (next t p b)
  fit_next (opening n) b f = either (eqb b (get_or the_opening n 0)) (λ h. rw h (fit_opened (n + 1))) (λ h. rw h)
  fit_next (heading came) b f = fit-headed (came ++ b ∷ [])
  fit_next (inside type n came) b f =
      let (x, y) = both _ _ f in
      let (z, l) = both _ _ x in
      let some = ltb-true 0 n z in
      let most = leb-true n work_len l in
      let rest = leb-true (length came) (work_len - n) y in
      fit-arrived t type (n - 1) (came ++ b ∷ []) (rw length-append (omega arith))
  fit_next (passing n) b f = fit_passed (n - 1)
  fit_next (whole type body) b f = f
  fit_next ended b f = refl
  fit_next (stopped r n) b f = f

  -- where a walk leads
  pub fit-walked : (bs : List ℕ) (p : Place) (used : ℕ) (q : Place) (n : ℕ) → FitPlace p → walked t p used bs ≡ reached q n → FitPlace q
  fit-walked [] p used q n f e = let z : p ≡ q = cc in rw z at f
  fit-walked (b ∷ bs) p used q n f e =
      pick-either (waits p) e
      (λ w g. let z : p ≡ q = cc in rw z at f)
      (λ w g. fit-walked bs (next t p b) (used + 1) q n (fit_next p b f) g)

-- and the end
pub fit-end : (p : Place) → FitPlace p → FitPlace (end_of p)
fit-end (opening n) f = refl
fit-end (heading []) f = refl
fit-end (heading (b ∷ came)) f = refl
fit-end (inside type n came) f = refl
fit-end (passing n) f = refl
fit-end (whole type body) f = f
fit-end ended f = refl
fit-end (stopped r n) f = f

-- where any phase stands
pub fit-place : (p : Phase) (w : List ℕ) → FitPlace (place_of p w)
unfolding place_of
fit-place p w =
    either (sound p (length w))
    (λ s. rw s (ap made (phase-kept p w s) ∙ (both _ _ s).0))
    (λ s. rw s (either (made p) (λ m. rw m) (λ m. rw m)))

-- ---- from one call to the next

-- the phase tells which place it is
pub place-back-in : (p : Place) (w : List ℕ) → Front (held_at p) w → place_in (phase_of p) w ≡ p
place-back-in (opening n) w f = refl
place-back-in (heading came) w f = ap heading f.is
place-back-in (inside type n came) w f = ap (inside type n) f.is
place-back-in (passing n) w f = refl
place-back-in (whole type body) w f = ap (whole type) f.is
place-back-in ended w f = refl
place-back-in (stopped (stop m) n) w f = let one : m + 1 - 1 ≡ m = omega arith in ap (λ (x : ℕ). stopped (stop x) n) one

pub place-back-needs : (p : Place) (w : List ℕ) → FitPlace p → needs (phase_of p) ≤ length w → Front (held_at p) w → place_of (phase_of p) w ≡ p
place-back-needs p w fit room f = place-sound (phase_of p) w (sound-by (phase_of p) (length w) fit room) ∙ place-back-in p w f

-- the phase of a place that comes up, with its bytes at the front of enough work bytes, stands for the place
pub needs-most : (p : Phase) → needs p ≤ work_len
needs-most (phase.Opening n) = omega arith
needs-most (phase.Header have) = omega arith
needs-most (phase.Body type left have) = omega arith
needs-most (phase.Skip left) = omega arith
needs-most (phase.Whole type have) = omega arith
needs-most phase.Ended = omega arith
needs-most (phase.Stopped r n) = omega arith

pub place-back : (p : Place) (w : List ℕ) → FitPlace p → work_len ≤ length w → Front (held_at p) w → place_of (phase_of p) w ≡ p
place-back p w fit room f = let few = needs-most (phase_of p) in place-back-needs p w fit (omega arith) f

-- the phases that a caller makes itself: at the start, behind an event that was judged well, and at a refusal of its own
pub place-begin : (w : List ℕ) → work_len ≤ length w → place_of (phase.Opening 0) w ≡ opening 0
place-begin w room = place-back (opening 0) w refl room (front-none w)

pub place-between : (w : List ℕ) → work_len ≤ length w → place_of (phase.Header 0) w ≡ heading []
place-between w room = place-back (heading []) w refl room (front-none w)

pub place-stopped : (r : Stop) (n : ℕ) (w : List ℕ) → place_of (phase.Stopped (stop_number r) n) w ≡ stopped r n
place-stopped r n w = place-back-needs (stopped r n) w (fit-stopped r n) (omega arith) (front-none w)

-- an event that is whole: its body stands at the front of the work bytes
abbrev have_in : Phase → ℕ
have_in (phase.Opening n) = 0
have_in (phase.Header have) = have
have_in (phase.Body type left have) = have
have_in (phase.Skip left) = 0
have_in (phase.Whole type have) = have
have_in phase.Ended = 0
have_in (phase.Stopped r n) = 0

have-held : (q : Place) → length (held_at q) ≡ have_in (phase_of q)
have-held (opening n) = refl
have-held (heading came) = refl
have-held (inside type n came) = refl
have-held (passing n) = refl
have-held (whole type body) = refl
have-held ended = refl
have-held (stopped r n) = refl

pub whole-told : (q : Place) (w : List ℕ) (type len : ℕ) → Front (held_at q) w → phase_of q ≡ phase.Whole type len
    → (q ≡ whole type (take len w)) × (len ≤ length w)
whole-told q w type len f e =
    let size : length (held_at q) ≡ len = have-held q ∙ ap have_in e in
    (sym (place-back-in q w f) ∙ ap (λ (p : Phase). place_in p w) e, omega (arith, f.short))

-- ---- a walk from any phase

needs-next : (t : ℕ) (p : Place) (b : ℕ) → needs (phase_of (next t p b)) ≤ needs (phase_of p)
needs-next t (opening n) b = needs-most (phase_of (next t (opening n) b))
needs-next t (heading came) b = needs-most (phase_of (next t (heading came) b))
needs-next t (inside type n came) b = needs-most (phase_of (next t (inside type n came) b))
needs-next t (passing n) b = needs-most (phase_of (next t (passing n) b))
needs-next t (whole type body) b = omega arith
needs-next t ended b = omega arith
needs-next t (stopped r n) b = omega arith

needs-walked : (t : ℕ) (bs : List ℕ) (p : Place) (used : ℕ) (q : Place) (n : ℕ) → walked t p used bs ≡ reached q n → needs (phase_of q) ≤ needs (phase_of p)
needs-walked t [] p used q n e = let z : p ≡ q = cc in rw z (omega arith)
needs-walked t (b ∷ bs) p used q n e =
    pick-either (waits p) e
    (λ w g. let z : p ≡ q = cc in rw z (omega arith))
    (λ w g.
    let one = needs-next t p b in
    let more = needs-walked t bs (next t p b) (used + 1) q n g in
    omega arith)

needs-place : (p : Phase) (w : List ℕ) → needs (phase_of (place_of p w)) ≤ length w
unfolding place_of
needs-place p w =
    either (sound p (length w))
    (λ s. rw (s, phase-kept p w s) (leb-true (needs p) (length w) (both (made p) (leb (needs p) (length w)) s).1))
    (λ s. rw s (either (made p) (λ m. rw m (omega arith)) (λ m. rw m (omega arith))))

-- what `walk` answers stands, with the work bytes as it leaves them, for the place that was reached
pub walk-stands : (t : ℕ) → t ≤ 4 → (p : Phase) (w w' chunk : List ℕ) (q : Place) (n : ℕ) → length w' ≡ length w
    → walked t (place_of p w) 0 chunk ≡ reached q n → Front (held_at q) w' → place_of (phase_of q) w' ≡ q
walk-stands t few p w w' chunk q n same e f =
    let a = needs-walked t chunk (place_of p w) 0 q n e in
    let b = needs-place p w in
    place-back-needs q w' (fit-walked t few chunk (place_of p w) 0 q n (fit-place p w) e) (omega arith) f
