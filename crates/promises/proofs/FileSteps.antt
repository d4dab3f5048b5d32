-- A step that refuses before it looks at a byte (`StepsRefuse` of `specs/Files.antt`).
use Prim.Native.Nat.{ℕ, ◌<◌}
use mathlib.Core.Path.{◌≡◌, refl, ap, ◌∙◌}
use mathlib.Core.Bool.{true}
use mathlib.Core.List.{List, []}
use native.Mathlib.Omega.{arith}
use lib.ListN.{length}
use borrow.Author.Tests.{lt-leb, lt-ltb, le-leb}
use Rattle.misc.specs.Refusal.{not_writable}
use Rattle.binlog.specs.Stop.{Stop, stop_number, numbered, stop_for, no_room}
use Rattle.binlog.specs.Place.{stopped}
use Rattle.binlog.specs.Run.{at}
use Rattle.binlog.specs.Held.{work_len, made, needs, place_of}
use Rattle.binlog.specs.declared.Phase.{Phase}
use Rattle.binlog.specs.declared.Phase.TheVariants as phase
use Rattle.binlog.proofs.WalkRun.{walk-waits}
use Rattle.binlog.proofs.PhaseLaws.{renumber}
use Rattle.binlog.proofs.AnswerLaws.{unmade-place}
use Rattle.binlog_reader.specs.Step.{stepped, steps, step_of}
use Rattle.binlog_reader.specs.declared.Reader.{Reader}
use Rattle.promises.specs.Files.{RefusesAtOnce, StepsRefuse}

-- from a place where the reader has stopped
stays-there : (room t : ℕ) (x : Stop) (n : ℕ) (set chunk : List ℕ) → steps room t (stopped x n) set chunk ≡ stepped (at (stopped x n) set []) 0
unfolding steps
stays-there room t x n set chunk = rw (walk-waits t (stopped x n) 0 chunk refl)

module _ (r : Reader) (work set chunk : List ℕ) (spare : ℕ) where
  at_once : (x : Stop) (n : ℕ) → place_of r.phase work ≡ stopped x n → RefusesAtOnce r (step_of r work set spare chunk) (stop_number x) n
  at_once x n is = rw (is, stays-there _ _ x n _ chunk) (record { answers = refl; leaves = λ buffer. refl })

short-place : (p : Phase) (w : List ℕ) → made p ≡ true → needs p ≡ 65540 → length w < 65540 → place_of p w ≡ stopped no_room work_len
unfolding place_of
short-place p w good need few = rw (good, need, lt-leb 65540 (length w) few)

again-place : (n len : ℕ) (w : List ℕ) → 0 < n → place_of (phase.Stopped n len) w ≡ stopped (numbered n) len
unfolding place_of
again-place n len w some = rw (lt-ltb 0 n some, le-leb 0 (length w) (omega arith))

pub steps-refuse : (r : Reader) (work set chunk : List ℕ) (spare : ℕ) → StepsRefuse r work set chunk spare
steps-refuse r work set chunk spare = record {
  forged = λ bad. at_once r work set chunk spare (stop_for not_writable) 0 (unmade-place r.phase work bad);
  short = λ good need few. at_once r work set chunk spare no_room 65540 (short-place r.phase work good need few);
  again = λ n len some is.
      rw (renumber n some) at (at_once r work set chunk spare (numbered n) len (ap (λ (p : Phase). place_of p work) is ∙ again-place n len work some));
}
