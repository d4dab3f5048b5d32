-- Laws of which fields were there (`specs/Seen.antt`), and of an event whose id is asked for (`named` of `specs/Read.antt`).
use mathlib.Core.Path.{◌≡◌, refl, sym, ap, ◌∙◌}
use mathlib.Core.Bool.{Bool, true, false}
use mathlib.Core.List.{List, [], ◌∷◌}
use Prim.Native.Nat.{ℕ, zero, suc, ◌+◌, ◌-◌, ◌*◌, ◌/◌, ◌%◌, ◌^◌, ◌≤◌, ◌<◌}
use native.Mathlib.Nat.{zero-div, pow-succ', div-div-eq-div-mul}
use native.Mathlib.Omega.{arith}
use mir.Val.{bool_byte}
use lib.ListN.{length, get_or, drop}
use lib.Seq.{drop-cons, drop-length}
use Rattle.misc.specs.Pick.{pick}
use Rattle.misc.specs.Mark.{has_bit}
use Rattle.misc.specs.Refusal.{absent_id}
use Rattle.misc.specs.declared.refusal.Refusal.{Refusal}
use Rattle.misc.specs.Parse.{Parse, refuse, parsed, judged}
use Rattle.misc.proofs.ParseLaws.{never, judged-parsed, mapped-parsed, pick-either, answered-ok, answered-err}
use Rattle.gtid_event.specs.declared.GtidEvent.{GtidEvent}
use Rattle.gtid_event_read.specs.Seen.{Seen, bits_of}
use Rattle.gtid_event_read.specs.Read.{seen, record_in, gtid, sends_id, named, told, gtid_read, tells_id}
use Rattle.std.specs.Prelude.{Ok, Err}
use Rattle.gtid_event_read.specs.declared.GtidRead.{GtidRead}

-- ---- the bits

-- half of a number without its lowest bit
half : (b : Bool) (n : ℕ) → (pick b 1 0 + 2 * n) / 2 ≡ n
half true n = omega arith
half false n = omega arith

-- bit k tells of the field with the id k
pub bit-of : (k : ℕ) (p : List Bool) → has_bit k (bits_of p) ≡ get_or p k false
unfolding has_bit bits_of
bit-of zero [] = refl
bit-of (suc k) [] = rw zero-div
bit-of zero (true ∷ p) = let e : (1 + 2 * bits_of p) / 1 % 2 ≡ 1 = omega arith in rw e
bit-of zero (false ∷ p) = let e : (0 + 2 * bits_of p) / 1 % 2 ≡ 0 = omega arith in rw e
bit-of (suc k) (b ∷ p) =
    rw (pow-succ' 2 k, ← div-div-eq-div-mul (pick b 1 0 + 2 * bits_of p) 2 (2 ^ k), half b (bits_of p)) (bit-of k p)

-- none behind the last
pub bits_none : (p : List Bool) (n : ℕ) → length p ≡ n → 0 ≡ bits_of (drop n p)
unfolding bits_of
bits_none p n h = ap bits_of (sym (drop-length p)) ∙ ap (λ (k : ℕ). bits_of (drop k p)) h

-- a truth value as the language's number
pub bool-byte : (b : Bool) (n : ℕ) → (bool_byte b ≤ 1) × (n + bool_byte b ≡ pick b 1 0 + n)
bool-byte true n = (omega arith, omega arith)
bool-byte false n = (omega arith, omega arith)

-- one field more, from the last on
pub bits-more : (p : List Bool) (n bits : ℕ) → 0 < n → n ≤ length p → bits ≡ bits_of (drop n p)
    → 2 * bits + bool_byte (get_or p (n - 1) false) ≡ bits_of (drop (n - 1) p)
unfolding bits_of
bits-more p n bits some inside m =
    let e : suc (n - 1) ≡ n = omega arith in
    (bool-byte (get_or p (n - 1) false) (2 * bits)).1
    ∙ ap (λ (k : ℕ). pick (get_or p (n - 1) false) 1 0 + 2 * k) (m ∙ ap (λ (k : ℕ). bits_of (drop k p)) (sym e))
    ∙ ap bits_of (sym (drop-cons p (n - 1) false (omega arith)))

-- so many fields, so many bits
pub bits_below : (n : ℕ) (p : List Bool) → length p ≤ n → bits_of p < 2 ^ n
unfolding bits_of
bits_below zero [] h = omega arith
bits_below (suc n) [] h = omega (arith, bits_below n [] (omega arith), pow-succ' 2 n)
bits_below zero (b ∷ p) h = absurd (omega arith)
bits_below (suc n) (true ∷ p) h = omega (arith, bits_below n p (omega arith), pow-succ' 2 n)
bits_below (suc n) (false ∷ p) h = omega (arith, bits_below n p (omega arith), pow-succ' 2 n)

-- ---- where the id is asked for

-- what the bits say of it
sent-told : (type : ℕ) (x : Seen) → tells_id type (bits_of x.present) ≡ sends_id type x
sent-told type x = rw (bit-of 1 x.present, bit-of 2 x.present)

-- from what reading answered
module _ (type : ℕ) (s : List ℕ) where
  pub named-broken : {x : Refusal} → Err x ≡ gtid_read (seen type s) → Err x ≡ gtid_read (named type s)
  unfolding named
  named-broken is = is ∙ rw (answered-err told (seen type s) is)

  module _ {said : GtidRead} (is : Ok said ≡ gtid_read (seen type s)) {sent : Bool} (bits : sent ≡ tells_id type said.present) where
    -- what was seen, and whether it was sent with its id
    sends : (x : Seen) × (next : ℕ) × (seen type s ≡ parsed x next) × (said ≡ told x next) × (sends_id type x ≡ sent)
    sends =
        let (x, next, e, same) = answered-ok told (seen type s) is in
        (x, next, e, same, sym (bits ∙ ap (λ (y : GtidRead). tells_id type y.present) same ∙ sent-told type x))

    pub named-sent : sent ≡ true → Ok said ≡ gtid_read (named type s)
    unfolding named
    named-sent there =
        let (x, next, e, same, id) = sends in
        let has : sends_id type x ≡ true = id ∙ there in
        rw (same, e, has)

    pub named-absent : sent ≡ false → Err absent_id ≡ gtid_read (named type s)
    unfolding named
    named-absent lacks =
        let (x, next, e, same, id) = sends in
        let lacks_it : sends_id type x ≡ false = id ∙ lacks in
        rw (e, lacks_it)

-- ---- what is named was seen, and its record read
module _ (type : ℕ) (s : List ℕ) where
  pub named-parsed : {x : Seen} {next : ℕ} → named type s ≡ parsed x next → (seen type s ≡ parsed x next) × (sends_id type x ≡ true)
  unfolding named
  named-parsed {x} {next} p = judged-parsed (sends_id type) absent_id (seen type s) x next p

  pub named-record : {e : GtidEvent} {next : ℕ} → record_in (named type s) ≡ parsed e next → gtid type s ≡ parsed e next
  unfolding gtid
  named-record {e} {next} p =
      let (x, q, is) = mapped-parsed (λ (x : Seen). x.event) (named type s) e next p in
      ap record_in (named-parsed q).0 ∙ ap (λ (v : GtidEvent). parsed v next) (sym is)

  -- it is refused by itself, or was sent without its id
  pub named-refused {ℓ} : {X : Type ℓ} {r : Refusal} → named type s ≡ refuse r → (seen type s ≡ refuse r → X)
      → ((x : Seen) (next : ℕ) → seen type s ≡ parsed x next → sends_id type x ≡ false → r ≡ absent_id → X) → X
  unfolding named
  named-refused {X} {r} q broken lacks = go (seen type s) refl q
    where
      go : (p : Parse Seen) → seen type s ≡ p → judged (sends_id type) absent_id p ≡ refuse r → X
      go (refuse x) e h = broken (e ∙ h)
      go (parsed x next) e h =
          pick-either (sends_id type x) h (λ _ f. never (sym f)) (λ isnt f. lacks x next e isnt (let same : r ≡ absent_id = cc in same))
