-- What stands from a place of some bytes on, and what was found there up to another place.
use mathlib.Core.Path.{◌≡◌, refl, sym, ap, subst, ◌∙◌}
use mathlib.Core.List.{List, ◌∷◌, ◌++◌, append_assoc, append-nil}
use Prim.Native.Nat.{ℕ, ◌+◌, ◌-◌, ◌≤◌, ◌<◌}
use native.Mathlib.Nat.{add-zero}
use native.Mathlib.Omega.{arith}
use lib.ListN.{length, drop, get_or, length-append, length-drop, take-append-drop}
use lib.Seq.{take-append_seam, drop-append_seam, drop-drop, drop-length, take_at, drop_at, get_or-drop}
use Rattle.misc.specs.Parse.{part}

-- ---- what stands from a place on

pub record From (s : List ℕ) (at : ℕ) (l : List ℕ) : Type 0 where
  pub is : drop at s ≡ l
  pub inside : at ≤ length s

pub from_start : (s : List ℕ) → From s 0 s
from_start s = record { is = refl; inside = omega arith }

module _ (s : List ℕ) (at : ℕ) where
  pub from-size : (l : List ℕ) → From s at l → at + length l ≡ length s
  from-size l h =
      let size : length s - at ≡ length l = sym (length-drop at s) ∙ ap length h.is in
      omega (arith, h.inside)

  module _ (bs rest : List ℕ) (h : From s at (bs ++ rest)) where
    pub from-room : at + length bs ≤ length s
    from-room = omega (arith, from-size (bs ++ rest) h, length-append bs rest)

    pub from_next : From s (at + length bs) rest
    from_next = record {
      is = sym (drop-drop (length bs) at s) ∙ ap (drop (length bs)) h.is ∙ drop-append_seam bs rest;
      inside = from-room;
    }

    pub from-part : (n : ℕ) → n ≡ length bs → part s at n ≡ bs
    from-part n e = rw (e, h.is) (take-append_seam bs rest)

  pub from_first : (b : ℕ) (l : List ℕ) → From s at (b ∷ l) → (get_or s at 0 ≡ b) × (at < length s)
  from_first b l h =
      let place : at + 0 ≡ at = add-zero at in
      let first : get_or s (at + 0) 0 ≡ b = sym (get_or-drop at s 0 0) ∙ ap (λ (x : List ℕ). get_or x 0 0) h.is in
      (rw place at first, omega (arith, from-size (b ∷ l) h))

  -- the next n bytes, and what is behind them
  pub part-from : (n : ℕ) → drop at s ≡ part s at n ++ drop (at + n) s
  part-from n = sym (take-append-drop n (drop at s)) ∙ ap (λ (x : List ℕ). part s at n ++ x) (drop-drop n at s)

-- bytes that begin at a place: the part there, what follows it, and how many there are
pub part-there : (s : List ℕ) (at n : ℕ) (p q : List ℕ) → drop at s ≡ p ++ q → length p ≡ n → part s at n ≡ p
part-there s at n p q e l = rw e (take_at p q n l)

pub after_there : (s : List ℕ) (at n : ℕ) (p q : List ℕ) → drop at s ≡ p ++ q → length p ≡ n → drop (at + n) s ≡ q
after_there s at n p q e l = sym (drop-drop n at s) ∙ rw e (drop_at p q n l)

pub left_there : (s : List ℕ) (at : ℕ) (p q : List ℕ) → drop at s ≡ p ++ q → length s - at ≡ length p + length q
left_there s at p q e = sym (length-drop at s) ∙ ap length e ∙ length-append p q

pub byte-there : (s : List ℕ) (at b : ℕ) (q : List ℕ) → drop at s ≡ b ∷ q → get_or s at 0 ≡ b
byte-there s at b q e =
    let z : at + 0 ≡ at = omega arith in
    ap (λ (i : ℕ). get_or s i 0) (sym z) ∙ sym (get_or-drop at s 0 0) ∙ ap (λ (l : List ℕ). get_or l 0 0) e

-- ---- what was found: at a place stand bytes with a property, and next is the place behind them

pub record Found (P : List ℕ → Type 0) (s : List ℕ) (at next : ℕ) : Type 0 where
  pub bytes : List ℕ
  pub holds : P bytes
  pub is : drop at s ≡ bytes ++ drop next s
  pub inside : next ≤ length s

module _ (s : List ℕ) where
  -- the same bytes have another property
  pub found_as : {P Q : List ℕ → Type 0} {at next : ℕ} → ((bs : List ℕ) → P bs → Q bs) → Found P s at next → Found Q s at next
  found_as f x = record { bytes = x.bytes; holds = f x.bytes x.holds; is = x.is; inside = x.inside }

  -- one part behind another
  pub found-both : {P Q R : List ℕ → Type 0} {at m next : ℕ} → ((a b : List ℕ) → P a → Q b → R (a ++ b)) → Found P s at m → Found Q s m next → Found R s at next
  found-both f x y = record {
    bytes = x.bytes ++ y.bytes;
    holds = f x.bytes y.bytes x.holds y.holds;
    is = x.is ∙ rw y.is (sym (append_assoc x.bytes y.bytes _));
    inside = y.inside;
  }

  pub found-size : {P : List ℕ → Type 0} {at next : ℕ} → (x : Found P s at next) → at ≤ length s → next ≡ at + length x.bytes
  found-size {at = at} {next = next} x h =
      let sizes : length s - at ≡ length x.bytes + (length s - next) =
      sym (length-drop at s) ∙ ap length x.is ∙ length-append x.bytes (drop next s) ∙ ap (λ (n : ℕ). length x.bytes + n) (length-drop next s) in
      omega (arith, x.inside)

  pub found-whole : {P : List ℕ → Type 0} → Found P s 0 (length s) → P s
  found-whole {P} x =
      let all : x.bytes ≡ s = sym (x.is ∙ rw (drop-length s) (append-nil x.bytes)) in
      subst P all x.holds
