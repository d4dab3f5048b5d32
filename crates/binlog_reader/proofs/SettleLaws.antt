-- Laws of an event that a walk found: it is judged, and the set after it is kept.
use Prim.Native.Nat.{ℕ, ◌≤◌, min}
use mathlib.Core.Path.{◌≡◌, sym, ap, ◌∙◌}
use mathlib.Core.List.{List, ◌++◌, append_assoc}
use native.Mathlib.Omega.{arith}
use lib.ListN.{length, take, drop, take-append-drop}
use lib.Seq.{take-append-le, drop-append-le, length-take-le}
use borrow.Author.Tests.{le-leb}
use Rattle.std.specs.Prelude.{Ok}
use Rattle.misc.specs.Output.{bytes, output_of}
use Rattle.misc.proofs.ParseLaws.{take_min}
use Rattle.binlog.specs.Run.{did}
use Rattle.binlog_reader.specs.Does.{acts, ActedIs}
use Rattle.binlog_reader.specs.Step.{step_leaves, settled_in}
use Rattle.binlog_reader.specs.declared.Acted.{Acted}

-- bytes at the front of a part that is the front of the whole
front_of : (n : ℕ) (bs l : List ℕ) → n ≤ length l → length bs ≤ n → (bs ++ drop (length bs) (take n l)) ++ drop n l ≡ bs ++ drop (length bs) l
front_of n bs l h s =
    let size : length (take n l) ≡ n = length-take-le n l h in
    let rest : drop (length bs) (take n l) ++ drop n l ≡ drop (length bs) l =
    sym (drop-append-le (length bs) (take n l) (drop n l) (omega arith)) ∙ rw (take-append-drop n l) in
    append_assoc bs (drop (length bs) (take n l)) (drop n l) ∙ rw rest

module _ (len type : ℕ) (body set spare : List ℕ) (kept room : ℕ) (kept-is : kept ≡ min len (length set))
    (room-is : room ≡ min (length set) (length spare)) (out : List ℕ) (same : length out ≡ length (take room spare)) (a : Acted)
    (is : ActedIs (acts (length (take room spare)) (take kept set) type body) (take room spare) out (Ok a)) where
  done : acts (min (length set) (length spare)) (take len set) type body ≡ did a.told (take a.len out)
  done =
      let there : length (take room spare) ≡ room = length-take-le room spare (omega arith) in
      let kept_set : take kept set ≡ take len set = rw kept-is (take_min len set) in
      sym (is.is ∙ rw (there, room-is, kept_set))

  size : length (take a.len out) ≡ a.len
  size = length-take-le a.len out is.fit

  in-room : a.len ≤ room
  in-room =
      let there : length (take room spare) ≡ room = length-take-le room spare (omega arith) in
      omega (arith, is.fit)

  -- what was written to the front of the room stands at the front of the whole buffer, where the set after the event is asked for
  pub settled-spare : out ++ drop room spare ≡ step_leaves spare (settled_in len set (length spare) type body)
  settled-spare =
      let left : out ≡ take a.len out ++ drop (length (take a.len out)) (take room spare) = rw (sym is.is) at is.leaves in
      rw done (ap (λ (l : List ℕ). l ++ drop room spare) left ∙ front_of room (take a.len out) spare (omega arith) (omega (arith, size, in-room)))

  -- and copied from there it stands at the front of the set's buffer
  pub settled-set : (set' : List ℕ) → set' ≡ output_of set (bytes (take a.len (out ++ drop room spare)))
      → set' ≡ step_leaves set (settled_in len set (length spare) type body)
  unfolding output_of
  settled-set set' wrote =
      let front : take a.len (out ++ drop room spare) ≡ take a.len out = take-append-le a.len out (drop room spare) is.fit in
      let fits : length (take a.len out) ≤ length set = omega (arith, size, in-room) in
      rw done (wrote ∙ rw (front, le-leb (length (take a.len out)) (length set) fits))
