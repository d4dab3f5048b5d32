-- Laws of the parts of a walk: from phase to phase, as the bytes go from place to place.
use Prim.Native.Nat.{ℕ, zero, suc, ◌+◌, ◌-◌, ◌≤◌, ◌<◌}
use mathlib.Core.Path.{◌≡◌, sym, ◌∙◌}
use mathlib.Core.Bool.{true}
use mathlib.Core.List.{List, [], ◌++◌}
use native.Mathlib.Omega.{arith}
use lib.ListN.{length, take, drop}
use lib.Seq.{take-take, length-take-le, drop-length}
use Rattle.misc.specs.declared.refusal.Refusal.{Refusal}
use Rattle.std.specs.Prelude.{Result}
use Rattle.binlog.specs.Format.{type_in, size_in}
use Rattle.binlog.specs.Place.{heading, inside, arrived, passed, judged, headed}
use Rattle.binlog.specs.Walk.{Walk, walked}
use Rattle.binlog.specs.Held.{work_len, sound, place_in, Starts, phase_in, Begins, Moves, Steps, Waiting, WalkIs}
use Rattle.binlog.specs.declared.Phase.{Phase}
use Rattle.binlog.specs.declared.Phase.TheVariants as phase
use Rattle.binlog.proofs.WalkLaws.{headed-short, head-many, read-many, pass-many}
use Rattle.binlog.proofs.WalkRun.{walk-waits}
use Rattle.binlog.proofs.PhaseLaws.{sound-body, sound-header, sound-whole, place-sound}

-- ---- parts of a walk

module _ (rest : List ℕ) (m : ℕ) (some : 0 < m) (fits : m ≤ length rest) where
  pub skip_moves : (left : ℕ) (p : Phase) → m ≤ left → Starts (passed (left - m)) p → Steps rest (phase.Skip left) p m
  skip_moves zero p h s = absurd (omega arith)
  skip_moves (suc left) p h s = record {
    moves = λ t w r. record {
      goes = λ used. pass-many t m (suc left) used rest h fits ∙ rw (s.is w);
      fit = s.fit (length w) r;
      on = some;
      within = fits;
    };
  }

  module _ (t : ℕ) (w w' : List ℕ) (have : ℕ) (same : length w' ≡ length w) (room : work_len ≤ length w) (short : have + m ≤ work_len)
      (copied : take (have + length (take m rest)) w' ≡ take have w ++ take m rest) where
    filled : take (have + m) w' ≡ take have w ++ take m rest
    filled = let size : length (take m rest) ≡ m = length-take-le m rest fits in rw size at copied

    head-goes : have + m ≤ 19 → (used : ℕ) → walked t (heading (take have w)) used rest ≡ walked t (headed t (take (have + m) w')) (used + m) (drop m rest)
    head-goes h used =
        let size : length (take have w) ≡ have = length-take-le have w (omega arith) in
        let fewer : length (take have w) < 19 = omega arith in
        rw (← headed-short t (take have w) fewer, filled) (head-many t m used (take have w) rest (omega arith) fits)

    pub head_more : have + m < 19 → Moves t rest w (phase.Header have) w' (phase.Header (have + m)) m
    head_more h =
        let size : length (take (have + m) w') ≡ have + m = length-take-le (have + m) w' (omega arith) in
        let fewer : length (take (have + m) w') < 19 = omega arith in
        record {
          goes = λ used. head-goes (omega arith) used ∙ rw (headed-short t (take (have + m) w') fewer);
          fit = sound-header (have + m) (length w') h (omega arith);
          on = some;
          within = fits;
        }

    pub head-whole : (r : Result Phase Refusal) → have + m ≡ 19 → Begins (judged t (type_in (take 19 w')) (size_in (take 19 w'))) r
        → Moves t rest w (phase.Header have) w' (phase_in r) m
    unfolding headed
    head-whole r h b =
        let size : length (take 19 w') ≡ 19 = length-take-le 19 w' (omega arith) in
        record {
          goes = λ used. head-goes (omega arith) used ∙ rw (h, size, b.starts.is w');
          fit = b.starts.fit (length w') (omega arith);
          on = some;
          within = fits;
        }

    read_goes : (type left : ℕ) → m ≤ suc left → (used : ℕ)
        → walked t (inside type (suc left) (take have w)) used rest
        ≡ walked t (arrived t type (suc left - m) (take (have + m) w')) (used + m) (drop m rest)
    read_goes type left h used = rw filled (read-many t type m (suc left) used (take have w) rest h fits)

    pub read_more : (type left : ℕ) → have + left ≤ work_len → m < left
        → Moves t rest w (phase.Body type left have) w' (phase.Body type (left - m) (have + m)) m
    read_more type zero l h = absurd (omega arith)
    read_more type (suc left) l h =
        let more : suc left - m ≡ suc (left - m) = omega arith in
        record {
          goes = λ used. read_goes type left (omega arith) used ∙ rw more;
          fit = sound-body type (suc left - m) (have + m) (length w') (omega arith) (omega arith) (omega arith);
          on = some;
          within = fits;
        }

    pub read_whole : (type left : ℕ) → m ≡ left → Moves t rest w (phase.Body type left have) w' (phase.Whole type (have + m - t)) m
    read_whole type zero h = absurd (omega arith)
    read_whole type (suc left) h =
        let none : suc left - m ≡ 0 = omega arith in
        let size : length (take (have + m) w') ≡ have + m = length-take-le (have + m) w' (omega arith) in
        record {
          goes = λ used. read_goes type left (omega arith) used ∙ rw (none, size, take-take (have + m - t) (have + m) w' (omega arith));
          fit = sound-whole type (have + m - t) (length w') (omega arith) (omega arith);
          on = some;
          within = fits;
        }

-- ---- the whole walk

module _ (t : ℕ) (chunk : List ℕ) (p : Phase) (w : List ℕ) (used : ℕ) (wanted : Walk) (fit : sound p (length w) ≡ true)
    (so_far : wanted ≡ walked t (place_in p w) used (drop used chunk)) where
  -- the reader waits
  pub walk_stops : Waiting p true → used ≤ length chunk → WalkIs wanted chunk w p used
  walk_stops waiting h = record {
    is = rw (place-sound p w fit) (sym (so_far ∙ walk-waits t (place_in p w) used (drop used chunk) (waiting.is w)));
    fit = fit;
    within = h;
  }

  -- the chunk is used up
  pub walk_ends : used ≡ length chunk → WalkIs wanted chunk w p used
  walk_ends h =
      let none : drop used chunk ≡ [] = rw h (drop-length chunk) in
      record { is = rw (place-sound p w fit) (sym (so_far ∙ rw none)); fit = fit; within = omega arith }
