-- A refusal is known by its number, and a writer's error by its number and the length that it names.
use Prim.Native.Nat.{ℕ}
use mathlib.Core.Path.{◌≡◌, refl, sym, ap, ◌∙◌}
use native.Mathlib.Omega.{arith}
use mathlib.Core.List.{List}
use lib.Dec.{eqb}
use lib.ListN.{length}
use borrow.Author.Tests.{ne_eqb}
use Rattle.misc.specs.Pick.{pick}
use Rattle.misc.specs.declared.refusal.Refusal.{Refusal}
use Rattle.misc.specs.declared.refusal.WriteError.{WriteError}
use Rattle.misc.specs.declared.refusal.WriteError.TheVariants.{Refused, NoRoom}
use Rattle.misc.specs.Refusal.{number, error_number, error_needed}
use Rattle.misc.specs.declared.refusal.Refusal.TheVariants as why
use Rattle.promises.specs.PlainFaults.{ShortFault, WriteFault}
use Rattle.promises.specs.Exact.{IsRefusal, IsError}

-- the refusal with a number; of numbers that none has nothing is wanted
abbrev named : ℕ → Refusal
named n =
    pick (eqb n 1) why.Ended
    (pick (eqb n 2) why.TooLarge
    (pick (eqb n 3) why.Negative
    (pick (eqb n 4) why.WrongVersion
    (pick (eqb n 5) why.UnknownField
    (pick (eqb n 6) why.BadTag
    (pick (eqb n 7) why.NoTag
    (pick (eqb n 8) why.WrongType
    (pick (eqb n 9) why.SmallPayload
    (pick (eqb n 10) why.BadLead
    (pick (eqb n 11) why.TooLong
    (pick (eqb n 12) why.NotWritable
    (pick (eqb n 14) why.NotASet
    (pick (eqb n 15) why.BadGno
    (pick (eqb n 16) why.Full
    (pick (eqb n 17) why.Crowded
    (pick (eqb n 18) why.BadFile
    (pick (eqb n 21) why.AbsentId
    why.Diverged)))))))))))))))))

abbrev error_named : ℕ → ℕ → WriteError
error_named n len = pick (eqb n 13) (NoRoom len) (Refused (named n))

named-back : (r : Refusal) → named (number r) ≡ r
named-back why.Ended = refl
named-back why.TooLarge = refl
named-back why.Negative = refl
named-back why.WrongVersion = refl
named-back why.UnknownField = refl
named-back why.BadTag = refl
named-back why.NoTag = refl
named-back why.WrongType = refl
named-back why.SmallPayload = refl
named-back why.BadLead = refl
named-back why.TooLong = refl
named-back why.NotWritable = refl
named-back why.NotASet = refl
named-back why.BadGno = refl
named-back why.Full = refl
named-back why.Crowded = refl
named-back why.BadFile = refl
named-back why.AbsentId = refl
named-back why.Diverged = refl

-- 13 is a writer's alone
not-13 : (r : Refusal) → number r ≡ 13 → ⊥
not-13 r is =
    let last : r ≡ why.Diverged = sym (named-back r) ∙ ap named is in
    omega (arith, is, ap number last)

error-back : (x : WriteError) → error_named (error_number x) (error_needed x) ≡ x
error-back (Refused r) = rw (ne_eqb (number r) 13 (not-13 r), named-back r)
error-back (NoRoom n) = refl

pub same_number : (x y : Refusal) → number x ≡ number y → x ≡ y
same_number x y e = sym (named-back x) ∙ rw e (named-back y)

pub same_error : (x y : WriteError) → error_number x ≡ error_number y → error_needed x ≡ error_needed y → x ≡ y
same_error x y e f = sym (error-back x) ∙ rw (e, f) (error-back y)

short-error : {bs : List ℕ} {room n len : ℕ} → ShortFault bs room n len → IsError n len
short-error {bs} (ShortFault.short over) = (NoRoom (length bs), refl, refl)

-- what a call that writes is refused with, where what it was asked to write is refused with a refusal's number
pub write-error : {Fault : ℕ → Type 0} {Gives : List ℕ → Type 0} {room n len : ℕ} → ((m : ℕ) → Fault m → IsRefusal m)
    → WriteFault Fault Gives room n len → IsError n len
write-error named (WriteFault.itself {n = n} fault) = let (r, is) = named n fault in (Refused r, is, refl)
write-error named (WriteFault.no_room {n = n} {len = len} gives lacks) = short-error lacks
