-- A step goes on: it uses some of what it is given, or it refuses.
use Prim.Native.Nat.{ℕ, ◌<◌, min}
use mathlib.Core.Path.{◌≡◌, refl, sym, ap, ◌∙◌}
use mathlib.Core.Bool.{true, false}
use mathlib.Core.List.{List, []}
use mathlib.Core.Logic.{◌⊎◌, inl, inr}
use native.Mathlib.Omega.{arith}
use lib.ListN.{length, take}
use Rattle.binlog.specs.Format.{trailer}
use Rattle.binlog.specs.Place.{Place, opening, heading, inside, passing, whole, ended, stopped}
use Rattle.binlog.specs.Run.{settled}
use Rattle.binlog.specs.Walk.{Walk, reached, waits, is_whole, walked}
use Rattle.binlog.specs.Held.{place_of}
use Rattle.binlog.proofs.WalkRun.{either, walk-waits, walk-some}
use Rattle.binlog_reader.specs.Does.{does}
use Rattle.binlog_reader.specs.Step.{Stepped, stepped, SetRun, settled_at, steps, step_answers, said_of}
use Rattle.binlog_reader.specs.declared.Said.{Said}
use Rattle.binlog_reader.specs.declared.Said.TheVariants.{MoreWanted, Ended, Event, Refused}
use Rattle.binlog_reader.specs.declared.Answer.{Answer}
use Rattle.binlog_laws.specs.Loop as loop
use Rattle.binlog_laws.specs.Loop.{Lending, StepsTo, Stands}
use Rattle.binlog_laws.proofs.Standing.{is_refusal}

waiting : (room t : ℕ) (p : Place) (kept : List ℕ) → is_whole p ≡ false → waits p ≡ true → is_refusal (said_of (settled (does room) t p kept [])) ≡ true
waiting room t (opening n) kept h w = w
waiting room t (heading came) kept h w = w
waiting room t (inside type n came) kept h w = w
waiting room t (passing n) kept h w = w
waiting room t (whole type body) kept h w = absurd (let z : ◌≡◌ {A = ℕ} 0 1 = cc in omega arith)
waiting room t ended kept h w = w
waiting room t (stopped r n) kept h w = refl

used-some : (room t : ℕ) (p : Place) (kept bs : List ℕ) (run : SetRun) (n : ℕ) → steps room t p kept bs ≡ stepped run n → is_whole p ≡ false
    → 0 < length bs → (0 < n) ⊎ (is_refusal (said_of run) ≡ true)
unfolding steps
used-some room t p kept bs run n e still some = go (walked t p 0 bs) refl e
  where
    go : (w : Walk) → walked t p 0 bs ≡ w → settled_at room t kept w ≡ stepped run n → (0 < n) ⊎ (is_refusal (said_of run) ≡ true)
    go (reached q k) is f =
        let same : k ≡ n = cc in
        let now : settled (does room) t q kept [] ≡ run = cc in
        either (waits p)
        (λ w.
        let z : q ≡ p = let y : reached q k ≡ reached p 0 = sym is ∙ walk-waits t p 0 bs w in cc in
        inr (rw (← now, z) (waiting room t p kept still w)))
        (λ w. let more = walk-some t bs p 0 q k some w is in inl (omega arith))

refusal_is : (s : Said) → is_refusal s ≡ true → (n : ℕ) × (len : ℕ) × (s ≡ Refused n len)
refusal_is MoreWanted h = absurd (let z : ◌≡◌ {A = ℕ} 0 1 = cc in omega arith)
refusal_is Ended h = absurd (let z : ◌≡◌ {A = ℕ} 0 1 = cc in omega arith)
refusal_is (Event t type n) h = absurd (let z : ◌≡◌ {A = ℕ} 0 1 = cc in omega arith)
refusal_is (Refused n len) h = (n, len, refl)

-- where no event waits to be judged, a step uses some of a chunk that isn't empty, or it refuses
pub onward : (m m' : Lending) (bs : List ℕ) (r : Answer) → is_whole (place_of m.reader.phase m.work) ≡ false → StepsTo m bs r m' → 0 < length bs
    → (0 < r.used) ⊎ ((n : ℕ) × (len : ℕ) × (r.said ≡ Refused n len))
onward m m' bs r still to some = go (loop.stepped m bs) refl
  where
    told : {used : ℕ} {said : Said} → (0 < used) ⊎ (is_refusal said ≡ true) → (0 < used) ⊎ ((n : ℕ) × (len : ℕ) × (said ≡ Refused n len))
    told (inl more) = inl more
    told {said = said} (inr h) = inr (refusal_is said h)

    go : (x : Stepped) → loop.stepped m bs ≡ x → (0 < r.used) ⊎ ((n : ℕ) × (len : ℕ) × (r.said ≡ Refused n len))
    go (stepped run n) e =
        let is : r ≡ step_answers m.reader (stepped run n) = to.answers ∙ ap (step_answers m.reader) e in
        let room = min (length m.set) (length m.spare) in
        rw is (told (used-some room (trailer m.reader.checksums) (place_of m.reader.phase m.work) (take m.reader.len m.set) bs run n e
        still some))

-- so it is with a reader that stands for a run, as it does from `begin` on (`begin-stands`, `drives-hears`)
pub stands-onward : (room : ℕ) (m m' : Lending) (run : SetRun) (bs : List ℕ) (r : Answer) → Stands room m run → StepsTo m bs r m' → 0 < length bs
    → (0 < r.used) ⊎ ((n : ℕ) × (len : ℕ) × (r.said ≡ Refused n len))
stands-onward room m m' run bs r s to some = onward m m' bs r (rw s.stands s.between) to some
