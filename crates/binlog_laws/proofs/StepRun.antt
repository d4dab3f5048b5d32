-- One step through a chunk: what it leaves of the chunk, fed to the run after it, gives what the whole chunk gives; and what it answers and
-- leaves in the lent bytes stands for that run.
use Prim.Native.Nat.{ℕ, ◌-◌, ◌≤◌}
use mathlib.Core.Path.{◌≡◌, refl, sym, ap, ◌∙◌}
use mathlib.Core.Bool.{Bool, true, false}
use mathlib.Core.List.{List, [], ◌∷◌, ◌++◌, append-nil}
use native.Mathlib.Omega.{arith}
use lib.ListN.{length, drop}
use Rattle.binlog.specs.Format.{trailer}
use Rattle.binlog.specs.Place.{Place, opening, heading, inside, passing, whole, ended, stopped}
use Rattle.binlog.specs.Run.{Done, did, fails, at, answered, settled, feed}
use Rattle.binlog.specs.Walk.{Walk, reached, is_whole, walked}
use Rattle.binlog.proofs.WalkRun.{walk-run}
use Rattle.binlog.proofs.PlaceLaws.{FitPlace, fit-stopped, fit-walked}
use Rattle.binlog_reader.specs.Does.{Judged, does}
use Rattle.binlog_reader.specs.Step.{stepped, SetRun, settled_at, steps, run_in}
use Rattle.binlog_laws.proofs.DoesLaws.{did-as}

-- a run with answers before its own
abbrev pub after : List Judged → SetRun → SetRun
after told (at p set new) = at p set (told ++ new)

-- what a step comes to: it moved on and judged nothing, or was refused; or it judged an event
pub data Went (room : ℕ) (kept : List ℕ) : SetRun → Type 0 where
  moved : (p : Place) → is_whole p ≡ false → FitPlace p → Went room kept (at p kept [])
  told : (j : Judged) (next : List ℕ) → length next ≤ room → Went room kept (at (heading []) next (j ∷ []))

pub trailer-short : (c : Bool) → trailer c ≤ 4
trailer-short true = omega arith
trailer-short false = omega arith

module _ (room t : ℕ) where
  answered-after : (set : List ℕ) (said : List Judged) (d : Done (List ℕ) Judged) → answered set said d ≡ after said (answered set [] d)
  answered-after set said (did a set') = refl
  answered-after set said (fails r n) = ap (at (stopped r n) set) (sym (append-nil said))

  settled-after : (p : Place) (set : List ℕ) (said : List Judged) → settled (does room) t p set said ≡ after said (settled (does room) t p set [])
  settled-after (opening n) set said = ap (at (opening n) set) (sym (append-nil said))
  settled-after (heading came) set said = ap (at (heading came) set) (sym (append-nil said))
  settled-after (inside type n came) set said = ap (at (inside type n came) set) (sym (append-nil said))
  settled-after (passing n) set said = ap (at (passing n) set) (sym (append-nil said))
  settled-after (whole type body) set said = answered-after set said (does room set type body)
  settled-after ended set said = ap (at ended set) (sym (append-nil said))
  settled-after (stopped r n) set said = ap (at (stopped r n) set) (sym (append-nil said))

  -- what a step leaves of the chunk, fed to the run after it, gives what the whole chunk gives
  pub step_run : (p : Place) (set chunk : List ℕ) (said : List Judged) (r : SetRun) (used : ℕ) → is_whole p ≡ false
      → steps room t p set chunk ≡ stepped r used
      → feed (does room) t (at p set said) chunk ≡ feed (does room) t (after said r) (drop used chunk)
  unfolding steps
  step_run p set chunk said r used still e = go (walked t p 0 chunk) refl e
    where
      go : (w : Walk) → walked t p 0 chunk ≡ w → settled_at room t set w ≡ stepped r used
          → feed (does room) t (at p set said) chunk ≡ feed (does room) t (after said r) (drop used chunk)
      go (reached q n) is e =
          let run : settled (does room) t q set [] ≡ r = cc in
          let all : n ≡ used = cc in
          let none : n - 0 ≡ used = omega arith in
          walk-run (does room) t set said chunk p 0 q n still is
          ∙ rw (none, settled-after q set said, run)

  went-answered : (set : List ℕ) (type : ℕ) (body : List ℕ) (d : Done (List ℕ) Judged) → does room set type body ≡ d → Went room set (answered set [] d)
  went-answered set type body (did j next) e = told j next (did-as room set type body j next e).fits
  went-answered set type body (fails r n) e = moved (stopped r n) refl (fit-stopped r n)

  went-settled : (p : Place) (set : List ℕ) → FitPlace p → Went room set (settled (does room) t p set [])
  went-settled (opening n) set f = moved (opening n) refl f
  went-settled (heading came) set f = moved (heading came) refl f
  went-settled (inside type n came) set f = moved (inside type n came) refl f
  went-settled (passing n) set f = moved (passing n) refl f
  went-settled (whole type body) set f = went-answered set type body (does room set type body) refl
  went-settled ended set f = moved ended refl f
  went-settled (stopped r n) set f = moved (stopped r n) refl f

  pub went : t ≤ 4 → (p : Place) (set chunk : List ℕ) → FitPlace p → Went room set (run_in (steps room t p set chunk))
  unfolding steps
  went few p set chunk f = go (walked t p 0 chunk) refl
    where
      go : (w : Walk) → walked t p 0 chunk ≡ w → Went room set (run_in (settled_at room t set w))
      go (reached q n) is = went-settled q set (fit-walked t few chunk p 0 q n f is)
