-- Laws of the end that is named.
use Prim.Native.Nat.{ℕ, zero, suc, ◌≤◌, ◌<◌}
use mathlib.Core.Path.{◌≡◌, refl, sym}
use mathlib.Core.Bool.{Bool, true, false}
use mathlib.Core.List.{List, [], ◌∷◌}
use native.Mathlib.Omega.{arith}
use lib.ListN.{length, take}
use lib.Dec.{leb-zero}
use Rattle.misc.specs.Refusal as refusals
use Rattle.binlog.specs.Stop.{stop_for}
use Rattle.binlog.specs.Place.{heading, stopped}
use Rattle.binlog.specs.Run.{end_of}
use Rattle.binlog.specs.Walk.{is_whole}
use Rattle.binlog.specs.Held.{work_len, made, sound, place_in, place_of, end_in, end_answers}
use Rattle.binlog.specs.declared.Phase.{Phase}
use Rattle.binlog.specs.declared.Phase.TheVariants as phase
use Rattle.binlog.proofs.PhaseLaws.{both, header-fit, sound-stopped, place-sound, sound-by}
use Rattle.binlog.proofs.PlaceLaws.{needs-most, place-stopped}
use Rattle.binlog.proofs.AnswerLaws.{unmade-place}
use Rattle.binlog.proofs.WalkRun.{either}

-- ---- what the functions answer

pub end-made : (p q : Phase) → made p ≡ true → q ≡ end_in p → q ≡ end_answers p
unfolding end_answers
end-made p q m e = rw m e

pub end-unmade : (p : Phase) → made p ≡ false → phase.Stopped 12 0 ≡ end_answers p
unfolding end_answers
end-unmade p m = rw m

-- ---- which place that is

some-came : (n : ℕ) (w : List ℕ) → 0 < length w → stopped (stop_for refusals.ended) 0 ≡ end_of (heading (take (suc n) w))
some-came n [] h = absurd (omega arith)
some-came n (b ∷ w) h = refl

-- where no event is whole, whatever work bytes are lent later
end-place-in : (p : Phase) (w w' : List ℕ) → sound p (length w) ≡ true → is_whole (place_in p w) ≡ false → place_in (end_in p) w' ≡ end_of (place_in p w)
end-place-in (phase.Opening n) w w' s h = refl
end-place-in (phase.Header zero) w w' s h = refl
end-place-in (phase.Header (suc n)) w w' s h =
    let (few, room) = header-fit {p = phase.Header (suc n)} {room = length w} (suc n) refl s in
    some-came n w (omega arith)
end-place-in (phase.Body type left have) w w' s h = refl
end-place-in (phase.Skip left) w w' s h = refl
end-place-in (phase.Whole type have) w w' s h = absurd (let z : ◌≡◌ {A = Bool} true false = h in let y : ◌≡◌ {A = ℕ} 0 1 = cc in omega arith)
end-place-in phase.Ended w w' s h = refl
end-place-in (phase.Stopped r n) w w' s h = refl

answers-in : (p : Phase) (w : List ℕ) → sound p (length w) ≡ true → end_answers p ≡ end_in p
answers-in p w s = sym (end-made p (end_in p) (both _ _ s).0 refl)

-- with the same work bytes, wherever the reader is
end-place-same : (p : Phase) (w : List ℕ) → sound p (length w) ≡ true → place_in (end_in p) w ≡ end_of (place_in p w)
end-place-same (phase.Opening n) w s = refl
end-place-same (phase.Header zero) w s = refl
end-place-same (phase.Header (suc n)) w s = end-place-in (phase.Header (suc n)) w w s refl
end-place-same (phase.Body type left have) w s = refl
end-place-same (phase.Skip left) w s = refl
end-place-same (phase.Whole type have) w s = refl
end-place-same phase.Ended w s = refl
end-place-same (phase.Stopped r n) w s = refl

end-sound : (p : Phase) (room : ℕ) → sound p room ≡ true → sound (end_in p) room ≡ true
end-sound (phase.Opening n) room s = sound-stopped 1 0 room (omega arith)
end-sound (phase.Header zero) room s = leb-zero room
end-sound (phase.Header (suc n)) room s = sound-stopped 1 0 room (omega arith)
end-sound (phase.Body type left have) room s = sound-stopped 1 0 room (omega arith)
end-sound (phase.Skip left) room s = sound-stopped 1 0 room (omega arith)
end-sound (phase.Whole type have) room s = s
end-sound phase.Ended room s = s
end-sound (phase.Stopped r n) room s = s

pub end-place : (p : Phase) (w : List ℕ) → sound p (length w) ≡ true → place_of (end_answers p) w ≡ end_of (place_of p w)
end-place p w s =
    rw (answers-in p w s, place-sound (end_in p) w (end-sound p (length w) s), place-sound p w s) (end-place-same p w s)

-- and so for any phase, with work bytes enough
pub end-place-room : (p : Phase) (w : List ℕ) → work_len ≤ length w → place_of (end_answers p) w ≡ end_of (place_of p w)
end-place-room p w room =
    either (made p)
    (λ m. end-place p w (sound-by p (length w) m (omega (arith, needs-most p))))
    (λ m. rw (← end-unmade p m, unmade-place p w m) (place-stopped (stop_for refusals.not_writable) 0 w))
