-- The statements of `specs/Exact.antt` for integers.
use Prim.Native.Nat.{ℕ, ◌+◌, ◌*◌, ◌≤◌}
use mathlib.Core.Path.{◌≡◌, refl, ap}
use mathlib.Core.List.{List}
use native.Mathlib.Omega.{arith}
use lib.IntN.{ℤ, pos, negsuc}
use lib.ListN.{length, drop, get_or, length-append, length-drop, drop_of_length-le}
use lib.Seq.{drop-cons}
use Rattle.misc.specs.Refusal.{ended, negative, bad_lead}
use Rattle.misc.specs.Parse.{Bytes, refuse, parsed, refusal_in, read_of}
use Rattle.misc.specs.Le.{le_at}
use Rattle.misc.specs.Varlen.{varlen_at}
use Rattle.misc.specs.Signed.{meant_by, signed_at, not_negative, natural_at}
use Rattle.misc.specs.Lenenc.{lenenc_at}
use Rattle.misc.proofs.ParseLaws.{split}
use Rattle.misc.proofs.Places.{from_first}
use Rattle.misc.proofs.FormsRead.{form-some, form-reads}
use Rattle.misc.proofs.Accepted.{form-read}
use Rattle.misc.proofs.LeLaws.{le-gone}
use Rattle.misc.proofs.VarlenLaws.{varlen-past}
use Rattle.misc.proofs.SignedLaws.{natural-odd}
use Rattle.misc.proofs.LenencLaws.{lenenc-past}
use Rattle.promises.specs.Faults.{CutForm}
use Rattle.promises.specs.PlainFaults.{FixedFault, VarlenFault, NaturalFault, LenencFault}
use Rattle.promises.specs.Exact.{RefusesExactly, IntegersExact}
use Rattle.promises.proofs.Stops.{lenenc, Ends}
use Rattle.promises.proofs.Gives.{Gives, le-gives, varlen-gives, lenenc-gives, then-gives, mapped-gives, parsed-gives, refuse-gives}
use Rattle.promises.proofs.Forces.{Refuses, is-refused, lenenc-ends, lead-refused}
use Rattle.promises.proofs.Exactly.{reads-exactly, answers-exactly, short-exactly}
use Rattle.promises.proofs.TaggedRefused.{cut-ends}
use Rattle.promises.proofs.TaggedFaulty.{cut-form, signed_sent}
use Rattle.promises.proofs.UntaggedFaulty.{lenenc-cut, cut-lenenc}

-- ---- so many bytes

module _ (w : ℕ) (some : 1 ≤ w) (s : List ℕ) (at : ℕ) where
  pub fixed-forced : (n : ℕ) → FixedFault w (drop at s) n → Refuses (le_at w s at) n
  fixed-forced n (FixedFault.cut few) = is-refused ended (le-gone w s at (omega (arith, length-drop at s)))

  pub fixed-given : Gives (FixedFault w (drop at s)) (le_at w s at)
  fixed-given = le-gives (FixedFault w (drop at s)) s w at (λ over. FixedFault.cut (rw length-drop (omega arith)))

  fixed-exact : RefusesExactly (refusal_in (read_of (le_at w s at))) (FixedFault w (drop at s))
  fixed-exact = answers-exactly _ _ _ (reads-exactly (FixedFault w (drop at s)) (le_at w s at) fixed-given fixed-forced)

-- ---- variable-length integers

module _ (s : List ℕ) (at : ℕ) where
  -- a place behind the end is like the end
  cut-refused : CutForm (drop at s) → varlen_at s at ≡ refuse ended
  cut-refused cut = split at (length s)
      (λ inside. cut-ends s at (drop at s) cut (record { is = refl; inside = inside }))
      (λ past. varlen-past s at (omega arith))

  varlen-forced : (n : ℕ) → VarlenFault (drop at s) n → Refuses (varlen_at s at) n
  varlen-forced n (VarlenFault.cut cut) = is-refused ended (cut-refused cut)

  signed-forced : (n : ℕ) → VarlenFault (drop at s) n → Refuses (signed_at s at) n
  unfolding signed_at
  signed-forced n (VarlenFault.cut cut) = is-refused ended (rw (cut-refused cut))

  natural-forced : (l : List ℕ) (n : ℕ) → drop at s ≡ l → NaturalFault l n → Refuses (natural_at s at) n
  unfolding natural_at signed_at
  natural-forced l n is (NaturalFault.cut cut) = is-refused ended (rw (cut-refused (rw is cut)))
  natural-forced l n is (NaturalFault.negative k {bs = bs} rest form) = split at (length s)
      (λ inside. is-refused negative
      (natural-odd s at (form-reads s at (k * 2 + 1) bs rest form (record { is = is; inside = inside })) (λ even. omega arith)))
      (λ past. absurd (omega (arith, ap length is, length-drop at s, form-some form, length-append bs rest)))

  module _ (are : Bytes s) where
    varlen-given : (Fault : ℕ → Type 0) → (CutForm (drop at s) → Fault 1) → Gives Fault (varlen_at s at)
    varlen-given Fault h = varlen-gives Fault s at (λ ends. h (cut-form s are at ends))

    signed-given : Gives (VarlenFault (drop at s)) (signed_at s at)
    unfolding signed_at
    signed-given = mapped-gives (VarlenFault (drop at s)) meant_by (varlen_at s at) (varlen-given (VarlenFault (drop at s)) VarlenFault.cut)

    natural-given : Gives (NaturalFault (drop at s)) (natural_at s at)
    unfolding natural_at signed_at
    natural-given =
        then-gives (NaturalFault (drop at s)) (signed_at s at) not_negative
        (mapped-gives (NaturalFault (drop at s)) meant_by (varlen_at s at) (varlen-given (NaturalFault (drop at s)) NaturalFault.cut)) go
      where
        go : (v : ℤ) (next : ℕ) → signed_at s at ≡ parsed v next → Gives (NaturalFault (drop at s)) (not_negative v next)
        go (pos n) next e = parsed-gives (NaturalFault (drop at s)) n next
        go (negsuc n) next e =
            let form = form-read s are at (n * 2 + 1) next (signed_sent s at n next e) in
            refuse-gives (NaturalFault (drop at s)) negative (rw form.is (NaturalFault.negative n (drop next s) form.holds))

    varlen-exact : RefusesExactly (refusal_in (read_of (varlen_at s at))) (VarlenFault (drop at s))
    varlen-exact = answers-exactly _ _ _
        (reads-exactly (VarlenFault (drop at s)) (varlen_at s at) (varlen-given (VarlenFault (drop at s)) VarlenFault.cut) varlen-forced)

    signed-exact : RefusesExactly (refusal_in (read_of (signed_at s at))) (VarlenFault (drop at s))
    signed-exact = answers-exactly _ _ _ (reads-exactly (VarlenFault (drop at s)) (signed_at s at) signed-given signed-forced)

    natural-exact : RefusesExactly (refusal_in (read_of (natural_at s at))) (NaturalFault (drop at s))
    natural-exact = answers-exactly _ _ _
        (reads-exactly (NaturalFault (drop at s)) (natural_at s at) natural-given (λ n. natural-forced (drop at s) n refl))

-- ---- length-encoded ones

module _ (s : List ℕ) (at : ℕ) where
  lenenc-forced : (l : List ℕ) (n : ℕ) → drop at s ≡ l → LenencFault l n → Refuses (lenenc_at s at) n
  lenenc-forced l n is LenencFault.nothing = is-refused ended (lenenc-past s at (omega (arith, ap length is, length-drop at s)))
  lenenc-forced l n is (LenencFault.cut cut) = split at (length s)
      (λ inside.
      let (_, over) = lenenc-cut s at l cut (record { is = is; inside = inside }) in
      is-refused ended (lenenc-ends s at over))
      (λ past. is-refused ended (lenenc-past s at (omega arith)))
  lenenc-forced l n is (LenencFault.bad_lead lead rest bad) = split at (length s)
      (λ inside.
      let (first, more) = from_first s at lead rest (record { is = is; inside = inside }) in
      is-refused bad_lead (lead-refused s at more (rw first bad)))
      (λ past. absurd (omega (arith, ap length is, length-drop at s)))

  lenenc-exact : Bytes s → RefusesExactly (refusal_in (read_of (lenenc_at s at))) (LenencFault (drop at s))
  lenenc-exact are = answers-exactly _ _ _ (reads-exactly (LenencFault (drop at s)) (lenenc_at s at)
      (lenenc-gives (LenencFault (drop at s)) s at (are at) cut
      (λ inside bad. rw (drop-cons s at 0 inside) (LenencFault.bad_lead (get_or s at 0) _ bad)))
      (λ n. lenenc-forced (drop at s) n refl))
    where
      cut : Ends lenenc s at → LenencFault (drop at s) 1
      cut ends = split (length s) at (λ past. rw (drop_of_length-le s {i = at} past) LenencFault.nothing)
          (λ inside. LenencFault.cut (cut-lenenc s are at inside ends))

pub integers-exact : IntegersExact
integers-exact = record {
  fixed = λ w some. fixed-exact w some;
  read_varlen_uint = varlen-exact;
  read_varlen_int = signed-exact;
  read_varlen_natural = natural-exact;
  read_lenenc_int = lenenc-exact;
  write = short-exactly;
}
