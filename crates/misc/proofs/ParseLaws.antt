-- Laws of the language of reading (`specs/Parse.antt`): forward, what an item that is there and one that is cut off give; backward, what
-- a success or a refusal says of the parts; and from an answer back to what was read.
use mathlib.Core.Path.{◌≡◌, refl, sym, ap, ◌∙◌}
use mathlib.Core.Bool.{Bool, true, false}
use mathlib.Core.List.{List}
use Prim.Native.Nat.{ℕ, ◌+◌, ◌≤◌, ◌<◌, min}
use native.Mathlib.Nat.{lt_of_not-le}
use native.Mathlib.Decide.{dec_le}
use native.Mathlib.Omega.{arith}
use lib.Dec.{leb}
use lib.ListN.{length, take, drop, get_or, length-drop}
use lib.Seq.{drop-cons, take_all, length-take-le}
use borrow.Author.Tests.{leb-true, le-leb, lt-leb}
use Rattle.misc.specs.Pick.{pick}
use Rattle.misc.specs.Refusal.{Refusal, number, ended}
use Rattle.misc.specs.Parse.{Parse, refuse, parsed, and_then, mapped, judged, part, bytes_at, byte_at, refusal_of, answered, read_of, parsed_or}
use Rattle.misc.specs.declared.refusal.Refusal.TheVariants as why
use Rattle.misc.specs.declared.Read.{Read}
use Rattle.std.specs.Prelude.{Result, Ok, Err, IsErr, IsErrAnd}

-- one order or the other
pub split {ℓ} : {X : Type ℓ} (a b : ℕ) → (a ≤ b → X) → (b < a → X) → X
split a b f g = elim (dec_le a b) [ yes h ↦ f h | no h ↦ g (lt_of_not-le h) ]

-- there are no bytes beyond the end to be taken
pub take_min : (n : ℕ) (l : List ℕ) → take (min n (length l)) l ≡ take n l
take_min n l = split n (length l)
    (λ h. let m : min n (length l) ≡ n = omega arith in rw m)
    (λ h. let m : min n (length l) ≡ length l = omega arith in rw (m, take_all (length l) l (omega arith), take_all n l (omega arith)))

-- ---- refusals and successes
pub no_zero : (x : Refusal) → number x ≡ 0 → ⊥
no_zero why.Ended e = omega arith
no_zero why.TooLarge e = omega arith
no_zero why.Negative e = omega arith
no_zero why.WrongVersion e = omega arith
no_zero why.UnknownField e = omega arith
no_zero why.BadTag e = omega arith
no_zero why.NoTag e = omega arith
no_zero why.WrongType e = omega arith
no_zero why.SmallPayload e = omega arith
no_zero why.BadLead e = omega arith
no_zero why.TooLong e = omega arith
no_zero why.NotWritable e = omega arith
no_zero why.NotASet e = omega arith
no_zero why.BadGno e = omega arith
no_zero why.Full e = omega arith
no_zero why.Crowded e = omega arith
no_zero why.BadFile e = omega arith
no_zero why.AbsentId e = omega arith
no_zero why.Diverged e = omega arith

pub ok-err : {A E : Type 0} {a : A} {e : E} → ◌≡◌ {A = Result A E} (Ok a) (Err e) → ⊥
ok-err e = let clash : ◌≡◌ {A = ℕ} 0 1 = cc in omega arith

-- what is refused is not read
pub never {ℓ} : {X : Type ℓ} {A : Type 0} {r : Refusal} {a : A} {next : ℕ} → refuse r ≡ parsed a next → X
never e = absurd (let clash : ◌≡◌ {A = ℕ} 0 1 = cc in omega arith)

pub was-parsed : {A : Type 0} (p : Parse A) → refusal_of p ≡ 0 → (a : A) × (next : ℕ) × (p ≡ parsed a next)
was-parsed (refuse x) z = absurd (no_zero x z)
was-parsed (parsed a next) z = (a, next, refl)

pub was-refused : {A : Type 0} (p : Parse A) → (refusal_of p ≡ 0 → ⊥) → (x : Refusal) × (p ≡ refuse x)
was-refused (refuse x) z = (x, refl)
was-refused (parsed a next) z = absurd (z refl)

-- ---- the parts of a success
pub then-parsed : {A B : Type 0} (p : Parse A) (rest : A → ℕ → Parse B) (b : B) (last : ℕ) → and_then p rest ≡ parsed b last
    → (a : A) × (next : ℕ) × (p ≡ parsed a next) × (rest a next ≡ parsed b last)
then-parsed (refuse r) rest b last e = never e
then-parsed (parsed a next) rest b last e = (a, next, refl, e)

pub mapped-parsed : {A B : Type 0} (f : A → B) (p : Parse A) (b : B) (next : ℕ) → mapped f p ≡ parsed b next → (a : A) × (p ≡ parsed a next) × (b ≡ f a)
mapped-parsed f (refuse r) b next e = never e
mapped-parsed f (parsed a n) b next e =
    let same : n ≡ next = cc in
    (a, rw same, cc)

pub judged-parsed : {A : Type 0} (good : A → Bool) (r : Refusal) (p : Parse A) (a : A) (next : ℕ) → judged good r p ≡ parsed a next
    → (p ≡ parsed a next) × (good a ≡ true)
judged-parsed {A} good r (refuse x) a next e = never e
judged-parsed {A} good r (parsed b n) a next e = go (good b) refl e
  where
    go : (t : Bool) → good b ≡ t → pick t (parsed b n) (refuse r) ≡ parsed a next → (parsed b n ≡ parsed a next) × (good a ≡ true)
    go true g f =
        let same : b ≡ a = cc in
        (f, rw same at g)
    go false g f = never f

-- a choice that gave p gave it by one of its two ways
pub pick-either {ℓ} : {X : Type ℓ} {A : Type 0} (t : Bool) {a b p : A} → pick t a b ≡ p → (t ≡ true → a ≡ p → X) → (t ≡ false → b ≡ p → X) → X
pick-either true e f g = f refl e
pick-either false e f g = g refl e

pub pick-parsed : {A : Type 0} (t : Bool) (p : Parse A) (r : Refusal) (a : A) (next : ℕ) → pick t p (refuse r) ≡ parsed a next
    → (t ≡ true) × (p ≡ parsed a next)
pick-parsed true p r a next e = (refl, e)
pick-parsed false p r a next e = never e

-- ---- bytes
module _ (n : ℕ) (s : List ℕ) (at : ℕ) where
  pub bytes-here : at + n ≤ length s → bytes_at n s at ≡ parsed (part s at n) (at + n)
  unfolding bytes_at
  bytes-here h = rw (le-leb (at + n) (length s) h)

  pub bytes-gone : length s < at + n → bytes_at n s at ≡ refuse ended
  unfolding bytes_at
  bytes-gone h = rw (lt-leb (at + n) (length s) h)

  pub bytes-parsed : (bs : List ℕ) (next : ℕ) → bytes_at n s at ≡ parsed bs next → (at + n ≤ length s) × (part s at n ≡ bs) × (at + n ≡ next)
  unfolding bytes_at
  bytes-parsed bs next e =
      let p = pick-parsed (leb (at + n) (length s)) (parsed (part s at n) (at + n)) ended bs next e in
      let q : parsed (part s at n) (at + n) ≡ parsed bs next = p.1 in
      (leb-true (at + n) (length s) p.0, cc, cc)

  pub part_length : at + n ≤ length s → length (part s at n) ≡ n
  part_length h = length-take-le n (drop at s) (rw length-drop (omega arith))

module _ (s : List ℕ) (at : ℕ) where
  pub byte-here : at < length s → byte_at s at ≡ parsed (get_or s at 0) (at + 1)
  unfolding byte_at
  byte-here h = rw (bytes-here 1 s at (omega arith), drop-cons s at 0 h)

  pub byte-gone : length s ≤ at → byte_at s at ≡ refuse ended
  unfolding byte_at
  byte-gone h = rw (bytes-gone 1 s at (omega arith))

  pub byte-parsed : (b next : ℕ) → byte_at s at ≡ parsed b next → (at < length s) × (b ≡ get_or s at 0) × (next ≡ at + 1)
  byte-parsed b next e =
      split (length s) at
      (λ gone. never (sym (byte-gone gone) ∙ e))
      (λ here.
      let p : parsed (get_or s at 0) (at + 1) ≡ parsed b next = sym (byte-here here) ∙ e in
      (here, cc, cc))

-- what a `?` hands on is the error that it met
pub handed-on : {A E : Type 0} {x : E} (r : Result A E) → IsErr r × IsErrAnd r (λ y. y ≡ x) → r ≡ Err x
handed-on (Ok a) h = absurd h.1
handed-on (Err y) h = ap Err h.1

-- ---- from a reader's answer back to what was read
module _ {A B : Type 0} (say : A → ℕ → B) where
  pub answered-ok : (p : Parse A) {b : B} → Ok b ≡ answered say p → (a : A) × (next : ℕ) × (p ≡ parsed a next) × (b ≡ say a next)
  answered-ok (refuse x) e = absurd (ok-err e)
  answered-ok (parsed a next) e = (a, next, refl, cc)

  pub answered-err : (p : Parse A) {x : Refusal} → Err x ≡ answered say p → p ≡ refuse x
  answered-err (refuse y) e = cc
  answered-err (parsed a next) e = absurd (ok-err (sym e))

pub read-ok : {A : Type 0} (p : Parse A) {r : Read A} → Ok r ≡ read_of p → p ≡ parsed r.value r.next
read-ok p e =
    let (v, next, is, same) = answered-ok _ p e in
    is ∙ cc

pub read-err : {A : Type 0} (p : Parse A) {x : Refusal} → Err x ≡ read_of p → p ≡ refuse x
read-err p e = answered-err _ p e

module _ {A : Type 0} (other : A) (p : Parse A) where
  pub or-ok : {r : Read A} → Ok r ≡ read_of p → r.value ≡ parsed_or other p
  or-ok e = sym (ap (parsed_or other) (read-ok p e))

  pub or-err : {x : Refusal} → Err x ≡ read_of p → other ≡ parsed_or other p
  or-err e = sym (ap (parsed_or other) (read-err p e))
