-- From "what is refused has its case" and "a case forces its number" to the statements of `specs/Exact.antt`.
use Prim.Native.Nat.{ℕ}
use mathlib.Core.Path.{◌≡◌, refl, sym, ap, subst, ◌∙◌}
use mathlib.Core.Bool.{Bool, true, false}
use mathlib.Core.List.{List}
use native.Mathlib.Omega.{arith}
use lib.Dec.{leb}
use lib.ListN.{length}
use borrow.Author.Tests.{leb-false, lt-leb}
use Rattle.misc.specs.declared.refusal.Refusal.{Refusal}
use Rattle.misc.specs.declared.refusal.WriteError.{WriteError}
use Rattle.misc.specs.Refusal.{number}
use Rattle.misc.specs.Parse.{Parse, refuse, parsed, refusal_of, refusal_in, answered}
use Rattle.misc.specs.Output.{Output, refused, bytes, answer_of, written_number, written_len}
use Rattle.misc.proofs.ParseLaws.{never, no_zero}
use Rattle.packets.proofs.Tests.{split}
use Rattle.promises.specs.PlainFaults.{ShortFault, WriteFault}
use Rattle.promises.specs.Exact.{RefusesExactly, WritesExactly}
use Rattle.std.specs.Prelude.{Result}
use Rattle.promises.proofs.Gives.{Gives}
use Rattle.promises.proofs.Forces.{Refuses, WriterRefuses}

-- ---- a call that reads

pub reads-exactly : {A : Type 0} (Fault : ℕ → Type 0) (p : Parse A) → Gives Fault p → ((n : ℕ) → Fault n → Refuses p n) → RefusesExactly (refusal_of p) Fault
reads-exactly Fault (refuse x) gives forced n = (
  λ (is, _). subst Fault is (gives x refl),
  λ fault.
      let (r, e, this) = forced n fault in
      let same : x ≡ r = cc in
      (ap number same ∙ this, λ zero. no_zero r (this ∙ zero)),
)
reads-exactly Fault (parsed a next) gives forced n = (
  λ (is, ne). absurd (ne (sym is)),
  λ fault. let (r, e, _) = forced n fault in never (sym e),
)

-- whatever it says of what it read
pub answers-exactly : {A B : Type 0} (say : A → ℕ → B) (Fault : ℕ → Type 0) (p : Parse A) → RefusesExactly (refusal_of p) Fault
    → RefusesExactly (refusal_in (answered say p)) Fault
answers-exactly say Fault (refuse x) exactly = exactly
answers-exactly say Fault (parsed a next) exactly = exactly

-- ---- a call that judges: a test fails, and then it refuses with a number

pub judges-exactly : (refusal k : ℕ) (Fault : ℕ → Type 0) (test : Bool) → (test ≡ true → refusal ≡ 0) → (test ≡ false → refusal ≡ k) → (test ≡ false → Fault k)
    → ((n : ℕ) → Fault n → (n ≡ k) × (test ≡ false)) → (k ≡ 0 → ⊥) → RefusesExactly refusal Fault
judges-exactly refusal k Fault test good bad case only some n = (
  λ (is, ne). split test (λ h. absurd (ne (sym is ∙ good h))) (λ h. subst Fault (sym (bad h) ∙ is) (case h)),
  λ fault.
      let (this, h) = only n fault in
      (bad h ∙ sym this, λ zero. some (sym this ∙ zero)),
)

-- ---- a call that writes

-- what is answered
abbrev pub Answers : Result ℕ WriteError → ℕ → ℕ → Type 0
Answers wrote n len = (written_number wrote ≡ n) × (written_len wrote ≡ len) × (n ≡ 0 → ⊥)

pub short-exactly : (bs out : List ℕ) → WritesExactly (answer_of out (bytes bs)) (ShortFault bs (length out))
unfolding answer_of
short-exactly bs out n len = (given, forced n len)
  where
    given : Answers (answer_of out (bytes bs)) n len → ShortFault bs (length out) n len
    given (is, long, some) = split (leb (length bs) (length out))
        (λ fits. absurd (some (sym is ∙ rw fits)))
        (λ over.
        let number_is : 13 ≡ n = rw over at is in
        let length-is : length bs ≡ len = rw over at long in
        rw (← number_is, ← length-is) (ShortFault.short (leb-false (length bs) (length out) over)))

    forced : (n len : ℕ) → ShortFault bs (length out) n len → Answers (answer_of out (bytes bs)) n len
    forced n len (ShortFault.short more) = rw (lt-leb (length bs) (length out) more) (refl, refl, λ zero. omega arith)

no_output : {X : Type 0} {bs : List ℕ} {r : Refusal} → bytes bs ≡ refused r → X
no_output e = absurd (let z : ◌≡◌ {A = ℕ} 0 1 = cc in omega arith)

pub writes-exactly : (o : Output) (out : List ℕ) (Fault : ℕ → Type 0) (Writes : List ℕ → Type 0) → ((r : Refusal) → o ≡ refused r → Fault (number r))
    → ((n : ℕ) → Fault n → WriterRefuses o n) → ((bs : List ℕ) → o ≡ bytes bs → Writes bs) → ((bs : List ℕ) → Writes bs → o ≡ bytes bs)
    → WritesExactly (answer_of out o) (WriteFault Fault Writes (length out))
unfolding answer_of
writes-exactly (refused x) out Fault Writes gives forced writes written n len = (given, back n len)
  where
    given : (number x ≡ n) × (0 ≡ len) × (n ≡ 0 → ⊥) → WriteFault Fault Writes (length out) n len
    given (is, long, _) = rw (← is, ← long) (WriteFault.itself (gives x refl))

    back : (n len : ℕ) → WriteFault Fault Writes (length out) n len → (number x ≡ n) × (0 ≡ len) × (n ≡ 0 → ⊥)
    back n len (WriteFault.itself fault) =
        let (r, e, this) = forced n fault in
        let same : x ≡ r = cc in
        (ap number same ∙ this, refl, λ zero. no_zero r (this ∙ zero))
    back n len (WriteFault.no_room {bs = bs} w _) = no_output (sym (written bs w))
writes-exactly (bytes bs) out Fault Writes gives forced writes written n len = (given, back n len)
  where
    given : Answers (answer_of out (bytes bs)) n len → WriteFault Fault Writes (length out) n len
    given h = WriteFault.no_room (writes bs refl) ((short-exactly bs out n len).0 h)

    back : (n len : ℕ) → WriteFault Fault Writes (length out) n len → Answers (answer_of out (bytes bs)) n len
    back n len (WriteFault.itself fault) = let (r, e, _) = forced n fault in no_output e
    back n len (WriteFault.no_room {bs = other} w more) =
        let e = written other w in
        let same : other ≡ bs = cc in
        (short-exactly bs out n len).1 (rw same at more)
