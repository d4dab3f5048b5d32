-- What follows from `specs/Exact.antt`: no two cases with different numbers hold at once, a call accepts exactly where no case holds, and there is one
-- offer. And by the layouts alone: every event, and every body that isn't too long, either is laid out,
-- as one record or list of entries of one length, or has a fault, of one number; never both.
use Prim.Native.Nat.{ℕ, ◌≤◌}
use mathlib.Core.Path.{◌≡◌, refl, sym, ◌∙◌}
use mathlib.Core.List.{List}
use mathlib.Core.Logic.{◌⊎◌, inl, inr}
use native.Mathlib.Omega.{arith}
use lib.Dec.{eqb}
use lib.ListN.{length}
use borrow.Author.Tests.{eqb-true, eqb-false}
use Rattle.misc.specs.Refusal.{number}
use Rattle.misc.specs.Parse.{Bytes, Parse, refuse, parsed}
use Rattle.misc.specs.Body.{body_limit}
use Rattle.misc.proofs.BodyLaws.{body_limit-is}
use Rattle.packets.proofs.Tests.{split}
use Rattle.previous_gtids_event.specs.Entry.{Entry}
use Rattle.previous_gtids_event.specs.Previous.{previous}
use Rattle.previous_gtids_event.specs.Layout.{BodyLaid}
use Rattle.previous_gtids_event.proofs.RoundTrip.{read-laid, laid-read}
use Rattle.gtid_event_read.specs.Seen.{Seen}
use Rattle.gtid_event_read.specs.Read.{seen}
use Rattle.resume_set_laws.specs.History.{Turn, Offering}
use Rattle.promises.specs.Faults.{EventFault}
use Rattle.promises.specs.BodyFaults.{BodyFault}
use Rattle.promises.specs.Meaning.{RecordLaid}
use Rattle.promises.specs.Exact.{Exactly, RefusesExactly, NumbersExactly, OffersExactly}
use Rattle.promises.proofs.Forces.{refused-not-read}
use Rattle.promises.proofs.EventExact.{event-refused, event-faulty}
use Rattle.promises.proofs.BodyFaults.{body-faults}
use Rattle.promises.proofs.BodyForced.{body-forced}
use Rattle.promises.proofs.Demand2.{records-mean}

-- ---- of any call

pub one-case : {refusal : ℕ} {Fault : ℕ → Type 0} → RefusesExactly refusal Fault → {n m : ℕ} → Fault n → Fault m → n ≡ m
one-case exactly {n} {m} a b = sym ((exactly n).1 a).0 ∙ ((exactly m).1 b).0

pub accepted : {refusal : ℕ} {Fault : ℕ → Type 0} → RefusesExactly refusal Fault → Exactly (refusal ≡ 0) ((n : ℕ) → Fault n → ⊥)
accepted {refusal} exactly = (
  λ zero n fault. let (is, some) = (exactly n).1 fault in some (sym is ∙ zero),
  λ none. split (eqb refusal 0) (λ zero. eqb-true refusal 0 zero) (λ some. absurd (none refusal ((exactly refusal).0 (refl, eqb-false refusal 0 some)))),
)

pub one-write-case : {refusal needed : ℕ} {Fault : ℕ → ℕ → Type 0} → NumbersExactly refusal needed Fault → {n m len other : ℕ} → Fault n len → Fault m other
    → (n ≡ m) × (len ≡ other)
one-write-case exactly {n} {m} {len} {other} a b =
    let (first, long, _) = (exactly n len).1 a in
    let (second, wide, _) = (exactly m other).1 b in
    (sym first ∙ second, sym long ∙ wide)

pub accepted-write : {refusal needed : ℕ} {Fault : ℕ → ℕ → Type 0} → NumbersExactly refusal needed Fault → Exactly (refusal ≡ 0) ((n len : ℕ) → Fault n len → ⊥)
accepted-write {refusal} {needed} exactly = (
  λ zero n len fault. let (is, _, some) = (exactly n len).1 fault in some (sym is ∙ zero),
  λ none. split (eqb refusal 0)
      (λ zero. eqb-true refusal 0 zero)
      (λ some. absurd (none refusal needed ((exactly refusal needed).0 (refl, refl, eqb-false refusal 0 some)))),
)

-- ---- of offers: two that answer exactly by the cases are one

pub same-offers : {f g : Offering} → OffersExactly f → OffersExactly g → (set : List ℕ) (t : Turn) → Bytes t.body
    → (f.answers set t ≡ g.answers set t) × (f.leaves set t ≡ g.leaves set t)
same-offers {f} {g} first second set t are =
    (first set t (g.answers set t) (g.leaves set t) are).1 ((second set t (g.answers set t) (g.leaves set t) are).0 (refl, refl))

-- ---- of events

pub laid-or-faulty : (type : ℕ) (s : List ℕ) → Bytes s → ((x : Seen) × (used : ℕ) × RecordLaid type s x used) ⊎ ((n : ℕ) × EventFault type s n)
laid-or-faulty type s are = go (seen type s) refl
  where
    go : (p : Parse Seen) → seen type s ≡ p → ((x : Seen) × (used : ℕ) × RecordLaid type s x used) ⊎ ((n : ℕ) × EventFault type s n)
    go (refuse r) read = inr (number r, event-faulty type s are r read)
    go (parsed x used) read = inl (x, used, (records-mean type s x used are).0 read)

pub not-both : (type : ℕ) (s : List ℕ) (x : Seen) (used n : ℕ) → Bytes s → RecordLaid type s x used → EventFault type s n → ⊥
not-both type s x used n are laid fault = refused-not-read (event-refused type s n fault) ((records-mean type s x used are).1 laid)

-- ---- of Previous-GTIDs bodies

pub body-laid-or-faulty : (s : List ℕ) → Bytes s → ((es : List Entry) × (used : ℕ) × BodyLaid s es used) ⊎ ((n : ℕ) × BodyFault s n)
body-laid-or-faulty s are = go (previous s) refl
  where
    go : (p : Parse (List Entry)) → previous s ≡ p → ((es : List Entry) × (used : ℕ) × BodyLaid s es used) ⊎ ((n : ℕ) × BodyFault s n)
    go (refuse r) read = inr (number r, body-faults s are r read)
    go (parsed es used) read = inl (es, used, read-laid s es used are read)

pub body-not-both : (s : List ℕ) (es : List Entry) (used n : ℕ) → Bytes s → length s ≤ body_limit → BodyLaid s es used → BodyFault s n → ⊥
body-not-both s es used n are short laid fault =
    refused-not-read (body-forced s are n fault) (laid-read s es used are (omega (arith, body_limit-is)) laid)
