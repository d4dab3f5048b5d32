-- Laws of the reader by value: what a sound phase says, and that phase and work bytes stand for one place.
use Prim.Native.Nat.{ℕ, ◌+◌, ◌-◌, ◌≤◌, ◌<◌}
use mathlib.Core.Path.{◌≡◌, refl, ap}
use mathlib.Core.Bool.{Bool, true, false, ◌&&◌}
use mathlib.Core.List.{List, []}
use native.Mathlib.Omega.{arith}
use lib.ListN.{length, take}
use lib.Dec.{leb-zero}
use lib.Seq.{length-take-le}
use borrow.Author.Tests.{ltb-true, leb-true, lt-ltb, le-leb}
use Rattle.binlog.specs.Stop.{stop_number, numbered}
use Rattle.binlog.specs.Held.{work_len, made, needs, sound, place_in, place_of, phase_of, held_at, Front}
use Rattle.binlog.specs.declared.Phase.{Phase}
use Rattle.binlog.specs.declared.Phase.TheVariants as phase

-- ---- phases that are sound

pub sound-body : (type left have room : ℕ) → 0 < left → have + left ≤ work_len → work_len ≤ room → sound (phase.Body type left have) room ≡ true
sound-body type left have room l h r =
    rw (lt-ltb 0 left l, le-leb left work_len (omega arith), le-leb have (work_len - left) (omega arith), le-leb work_len room r)

pub sound-header : (have room : ℕ) → have < 19 → work_len ≤ room → sound (phase.Header have) room ≡ true
sound-header have room h r = rw (lt-ltb have 19 h, le-leb work_len room r)

pub sound-whole : (type have room : ℕ) → have ≤ work_len → work_len ≤ room → sound (phase.Whole type have) room ≡ true
sound-whole type have room h r = rw (le-leb have work_len h, le-leb work_len room r)

pub sound-stopped : (r n room : ℕ) → 0 < r → sound (phase.Stopped r n) room ≡ true
sound-stopped r n room h = rw (lt-ltb 0 r h) (leb-zero room)

-- ---- what a sound phase says

pub both : (a b : Bool) → (a && b) ≡ true → (a ≡ true) × (b ≡ true)
both true true e = (refl, refl)
both true false e = (refl, e)
both false b e = (e, absurd (let z : ◌≡◌ {A = ℕ} 0 1 = cc in omega arith))

module _ {p : Phase} {room : ℕ} where
  pub opening-fit : (n : ℕ) → p ≡ phase.Opening n → sound p room ≡ true → (n < 4) × (work_len ≤ room)
  opening-fit n e s = let (a, b) = both _ _ (rw e at s) in (ltb-true n 4 a, leb-true work_len room b)

  pub header-fit : (n : ℕ) → p ≡ phase.Header n → sound p room ≡ true → (n < 19) × (work_len ≤ room)
  header-fit n e s = let (a, b) = both _ _ (rw e at s) in (ltb-true n 19 a, leb-true work_len room b)

  pub skip-fit : (n : ℕ) → p ≡ phase.Skip n → sound p room ≡ true → (0 < n) × (work_len ≤ room)
  skip-fit n e s = let (a, b) = both _ _ (rw e at s) in (ltb-true 0 n a, leb-true work_len room b)

  pub body-fit : (type left have : ℕ) → p ≡ phase.Body type left have → sound p room ≡ true → (0 < left) × (have + left ≤ work_len) × (work_len ≤ room)
  body-fit type left have e s =
      let (a, r) = both _ _ (rw e at s) in
      let (b, z) = both _ _ a in
      let (x, y) = both _ _ b in
      let most = leb-true left work_len y in
      let rest = leb-true have (work_len - left) z in
      (ltb-true 0 left x, omega arith, leb-true work_len room r)

  pub whole-fit : (type have : ℕ) → p ≡ phase.Whole type have → sound p room ≡ true → (have ≤ work_len) × (work_len ≤ room)
  whole-fit type have e s = let (a, b) = both _ _ (rw e at s) in (leb-true have work_len a, leb-true work_len room b)

stopped-fit : (r n room : ℕ) → sound (phase.Stopped r n) room ≡ true → 0 < r
stopped-fit r n room s = ltb-true 0 r (both _ _ s).0

-- ---- the place of a sound phase: its phase again, and its bytes at the front of the work bytes

pub renumber : (r : ℕ) → 0 < r → stop_number (numbered r) ≡ r
renumber r h = omega arith

pub phase-kept : (p : Phase) (w : List ℕ) → sound p (length w) ≡ true → phase_of (place_in p w) ≡ p
phase-kept (phase.Opening n) w s = refl
phase-kept (phase.Header have) w s =
    let (h, r) = header-fit {p = phase.Header have} {room = length w} have refl s in
    ap phase.Header (length-take-le have w (omega arith))
phase-kept (phase.Body type left have) w s =
    let (l, h, r) = body-fit {p = phase.Body type left have} {room = length w} type left have refl s in
    ap (phase.Body type left) (length-take-le have w (omega arith))
phase-kept (phase.Skip left) w s = refl
phase-kept (phase.Whole type have) w s =
    let (h, r) = whole-fit {p = phase.Whole type have} {room = length w} type have refl s in
    ap (phase.Whole type) (length-take-le have w (omega arith))
phase-kept phase.Ended w s = refl
phase-kept (phase.Stopped r n) w s = ap (λ (x : ℕ). phase.Stopped x n) (renumber r (stopped-fit r n (length w) s))

pub front-none : (w : List ℕ) → Front [] w
front-none w = record { short = omega arith; is = refl }

front-some : (n : ℕ) (w : List ℕ) → n ≤ length w → Front (take n w) w
front-some n w h = let size = length-take-le n w h in record { short = omega arith; is = rw size }

pub front_kept : (p : Phase) (w : List ℕ) → sound p (length w) ≡ true → Front (held_at (place_in p w)) w
front_kept (phase.Opening n) w s = front-none w
front_kept (phase.Header have) w s = let (h, r) = header-fit {p = phase.Header have} {room = length w} have refl s in front-some have w (omega arith)
front_kept (phase.Body type left have) w s =
    let (l, h, r) = body-fit {p = phase.Body type left have} {room = length w} type left have refl s in
    front-some have w (omega arith)
front_kept (phase.Skip left) w s = front-none w
front_kept (phase.Whole type have) w s =
    let (h, r) = whole-fit {p = phase.Whole type have} {room = length w} type have refl s in
    front-some have w (omega arith)
front_kept phase.Ended w s = front-none w
front_kept (phase.Stopped r n) w s = front-none w

-- ---- any phase, with any work bytes

pub place-sound : (p : Phase) (w : List ℕ) → sound p (length w) ≡ true → place_of p w ≡ place_in p w
unfolding place_of
place-sound p w s = rw s

pub sound-by : (p : Phase) (room : ℕ) → made p ≡ true → needs p ≤ room → sound p room ≡ true
sound-by p room m h = rw (m, le-leb (needs p) room h)
