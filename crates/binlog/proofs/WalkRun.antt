-- A walk through a chunk, then the event that it found, then the rest of the chunk: that is the run over the chunk.
use Prim.Native.Nat.{ℕ, suc, ◌+◌, ◌-◌, ◌≤◌, ◌<◌}
use mathlib.Core.Path.{◌≡◌, refl, sym, ◌∙◌}
use mathlib.Core.Bool.{Bool, true, false}
use mathlib.Core.List.{List, [], ◌∷◌}
use native.Mathlib.Omega.{arith}
use lib.ListN.{length, drop}
use lib.Seq.{drop-nil}
use Rattle.misc.proofs.ParseLaws.{pick-either}
use Rattle.binlog.specs.Place.{Place, opening, heading, inside, passing, whole, ended, stopped, next}
use Rattle.binlog.specs.Walk.{reached, waits, is_whole, walked}
use Rattle.binlog.specs.Run.{Done, at, settled, feed}
use Rattle.binlog.proofs.RunLaws.{still-stopped}

pub walk-waits : (t : ℕ) (p : Place) (used : ℕ) (bs : List ℕ) → waits p ≡ true → walked t p used bs ≡ reached p used
walk-waits t p used [] w = refl
walk-waits t p used (b ∷ bs) w = rw w

pub walk-uses : (t : ℕ) (bs : List ℕ) (p : Place) (used : ℕ) (q : Place) (n : ℕ) → walked t p used bs ≡ reached q n → used ≤ n
walk-uses t [] p used q n e = let z : used ≡ n = cc in omega arith
walk-uses t (b ∷ bs) p used q n e =
    pick-either (waits p) e
    (λ w f. let z : used ≡ n = cc in omega arith)
    (λ w f. let m = walk-uses t bs (next t p b) (used + 1) q n f in omega arith)

-- a walk that doesn't wait has used the whole chunk
pub walk-all : (t : ℕ) (bs : List ℕ) (p : Place) (used : ℕ) (q : Place) (n : ℕ) → walked t p used bs ≡ reached q n → waits q ≡ false → n ≡ used + length bs
walk-all t [] p used q n e w = let z : used ≡ n = cc in omega arith
walk-all t (b ∷ bs) p used q n e w =
    pick-either (waits p) e
    (λ v f. let z : p ≡ q = cc in absurd (let y : ◌≡◌ {A = Bool} true false = sym v ∙ (rw (← z) at w) in let x : ◌≡◌ {A = ℕ} 0 1 = cc in omega arith))
    (λ v f. let m = walk-all t bs (next t p b) (used + 1) q n f w in omega arith)

pub walk-within : (t : ℕ) (bs : List ℕ) (p : Place) (used : ℕ) (q : Place) (n : ℕ) → walked t p used bs ≡ reached q n → n ≤ used + length bs
walk-within t [] p used q n e = let z : used ≡ n = cc in omega arith
walk-within t (b ∷ bs) p used q n e =
    pick-either (waits p) e
    (λ v f. let z : used ≡ n = cc in omega arith)
    (λ v f. let m = walk-within t bs (next t p b) (used + 1) q n f in omega arith)

-- and one that begins where the reader doesn't wait has used a byte
pub walk-some : (t : ℕ) (bs : List ℕ) (p : Place) (used : ℕ) (q : Place) (n : ℕ) → 0 < length bs → waits p ≡ false → walked t p used bs ≡ reached q n
    → used < n
walk-some t [] p used q n h w e = absurd (omega arith)
walk-some t (b ∷ bs) p used q n h w e =
    let f : walked t (next t p b) (used + 1) bs ≡ reached q n = rw w at e in
    let m = walk-uses t bs (next t p b) (used + 1) q n f in
    omega arith

pub either {ℓ} : {X : Type ℓ} (b : Bool) → (b ≡ true → X) → (b ≡ false → X) → X
either true f g = f refl
either false f g = g refl

module _ {S A : Type 0} (does : S → ℕ → List ℕ → Done S A) (t : ℕ) (s : S) (said : List A) where
  pub not-whole : (p : Place) → is_whole p ≡ false → settled does t p s said ≡ at p s said
  not-whole (opening n) h = refl
  not-whole (heading came) h = refl
  not-whole (inside type n came) h = refl
  not-whole (passing n) h = refl
  not-whole (whole type body) h = absurd (let z : ◌≡◌ {A = Bool} true false = h in let y : ◌≡◌ {A = ℕ} 0 1 = cc in omega arith)
  not-whole ended h = refl
  not-whole (stopped r n) h = refl

  waiting : (p : Place) (bs : List ℕ) → is_whole p ≡ false → waits p ≡ true → feed does t (at p s said) bs ≡ at p s said
  waiting (opening n) bs h w = absurd (let y : ◌≡◌ {A = ℕ} 0 1 = cc in omega arith)
  waiting (heading came) bs h w = absurd (let y : ◌≡◌ {A = ℕ} 0 1 = cc in omega arith)
  waiting (inside type n came) bs h w = absurd (let y : ◌≡◌ {A = ℕ} 0 1 = cc in omega arith)
  waiting (passing n) bs h w = absurd (let y : ◌≡◌ {A = ℕ} 0 1 = cc in omega arith)
  waiting (whole type body) bs h w = absurd (let y : ◌≡◌ {A = ℕ} 0 1 = cc in omega arith)
  waiting ended bs h w = absurd (let y : ◌≡◌ {A = ℕ} 0 1 = cc in omega arith)
  waiting (stopped r n) bs h w = still-stopped does t r n s said bs

  whole-waits : (p : Place) → is_whole p ≡ true → waits p ≡ true
  whole-waits (opening n) h = h
  whole-waits (heading came) h = h
  whole-waits (inside type n came) h = h
  whole-waits (passing n) h = h
  whole-waits (whole type body) h = refl
  whole-waits ended h = h
  whole-waits (stopped r n) h = refl

  pub walk-run : (bs : List ℕ) (p : Place) (used : ℕ) (q : Place) (n : ℕ) → is_whole p ≡ false → walked t p used bs ≡ reached q n
      → feed does t (at p s said) bs ≡ feed does t (settled does t q s said) (drop (n - used) bs)
  walk-run [] p used q n h e =
      let z : p ≡ q = cc in
      rw (drop-nil (n - used), ← z) (sym (not-whole p h))
  walk-run (b ∷ bs) p used q n h e =
      pick-either (waits p) e
      (λ w f.
      let z : p ≡ q = cc in
      waiting p (b ∷ bs) h w ∙ rw (← z, not-whole p h) (sym (waiting p (drop (n - used) (b ∷ bs)) h w)))
      (λ w f.
      let m = walk-uses t bs (next t p b) (used + 1) q n f in
      let one : n - used ≡ suc (n - (used + 1)) = omega arith in
      rw one
      (either (is_whole (next t p b))
      (λ y.
      let g = walk-waits t (next t p b) (used + 1) bs (whole-waits (next t p b) y) in
      let z : next t p b ≡ q = cc in
      let m : used + 1 ≡ n = cc in
      let none : n - (used + 1) ≡ 0 = omega arith in
      rw (z, none))
      (λ y. rw (not-whole (next t p b) y) (walk-run bs (next t p b) (used + 1) q n y f))))
