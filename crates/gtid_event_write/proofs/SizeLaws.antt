-- The payload size agrees with itself, and no smaller number does; which it is where it has one byte or two; and a turn of the loop that
-- looks for it.
use mathlib.Core.Path.{◌≡◌, refl, sym, ap, ◌∙◌}
use mathlib.Core.Bool.{Bool, true, false}
use Prim.Native.Nat.{ℕ, zero, suc, ◌+◌, ◌-◌, ◌*◌, ◌^◌, ◌≤◌, ◌<◌}
use native.Mathlib.Nat.{lt_of_le_of_lt}
use native.Mathlib.Omega.{arith}
use lib.Dec.{eqb, ltb}
use lib.ListN.{length}
use borrow.Author.Tests.{eq-eqb, ne_eqb, eqb-true, eqb-false, ltb-false, lt-ltb, le-ltb}
use Rattle.misc.specs.Pick.{pick}
use Rattle.misc.specs.Varlen.{size_from, varlen_size, varlen_bytes}
use Rattle.misc.proofs.ParseLaws.{split}
use Rattle.misc.proofs.VarlenLaws.{size-range, size_holds, length-varlen_bytes}
use Rattle.gtid_event_write.specs.Size.{Agrees, size_with, payload_size, size_in64}

-- ---- the size of an integer grows with the integer

-- no size is less than one that holds v
least_size : (k n m v : ℕ) → n ≤ m → v < 2 ^ (7 * m) → size_from k n v ≤ m
unfolding size_from
least_size zero n m v h l = h
least_size (suc k) n m v h l = go (ltb v (2 ^ (7 * n))) refl (λ more. least_size k (n + 1) m v more l)
  where
    go : (t : Bool) → ltb v (2 ^ (7 * n)) ≡ t → (n + 1 ≤ m → size_from k (n + 1) v ≤ m) → pick t n (size_from k (n + 1) v) ≤ m
    go true e next = h
    go false e next =
        split (n + 1) m next
        (λ less.
        let same : m ≡ n = omega arith in
        absurd (omega (arith, ltb-false v (2 ^ (7 * n)) e, rw same at l)))

size_mono : (a b : ℕ) → a ≤ b → varlen_size a ≤ varlen_size b
unfolding varlen_size
size_mono a b h =
    split 9 (varlen_size b) (λ nine. omega (arith, size-range a))
    (λ less. least_size 8 1 (varlen_size b) a (size-range b).0 (lt_of_le_of_lt h (size_holds b less)))

-- a size that holds it is no less
pub size-most : (m v : ℕ) → 1 ≤ m → v < 2 ^ (7 * m) → varlen_size v ≤ m
unfolding varlen_size
size-most m v h l = least_size 8 1 m v h l

-- below 128 it is one byte, below 2 ^ 14 two
pub size-one : (v : ℕ) → v < 128 → varlen_size v ≡ 1
size-one v h = omega (arith, size-most 1 v (omega arith) (omega arith), size-range v)

first-of-two : varlen_size 128 ≡ 2
unfolding varlen_size size_from
first-of-two = refl

size_above : (v : ℕ) → 128 ≤ v → 2 ≤ varlen_size v
size_above v h = omega (arith, first-of-two, size_mono 128 v h)

pub size-two : (v : ℕ) → 128 ≤ v → v < 2 ^ 14 → varlen_size v ≡ 2
size-two v more h = omega (arith, size-most 2 v (omega arith) (omega arith), size_above v more)

-- ---- of the sizes that agree with themselves, the search finds the least

module _ (fields : ℕ) where
  least-from : (k n m : ℕ) → n ≤ m → varlen_size (2 + fields + m) ≡ m → size_with k n fields ≤ 2 + fields + m
  unfolding size_with
  least-from zero n m h a = omega arith
  least-from (suc k) n m h a = go (eqb (varlen_size (2 + fields + n)) n) refl (λ more. least-from k (n + 1) m more a)
    where
      go : (t : Bool) → eqb (varlen_size (2 + fields + n)) n ≡ t → (n + 1 ≤ m → size_with k (n + 1) fields ≤ 2 + fields + m)
          → pick t (2 + fields + n) (size_with k (n + 1) fields) ≤ 2 + fields + m
      go true e next = omega arith
      go false e next =
          split (n + 1) m next
          (λ less.
          let same : m ≡ n = omega arith in
          absurd (eqb-false (varlen_size (2 + fields + n)) n e (rw same at a)))

  agrees_from : (k n : ℕ) → n + k ≡ 9 → n ≤ varlen_size (2 + fields + n) → Agrees fields (size_with k n fields)
  unfolding size_with
  agrees_from zero n last h =
      let nine : varlen_size (2 + fields + n) ≡ n = omega (arith, size-range (2 + fields + n)) in
      rw nine
  agrees_from (suc k) n last h = go (eqb (varlen_size (2 + fields + n)) n) refl (agrees_from k (n + 1) (omega arith))
    where
      go : (t : Bool) → eqb (varlen_size (2 + fields + n)) n ≡ t → (n + 1 ≤ varlen_size (2 + fields + (n + 1)) → Agrees fields (size_with k (n + 1) fields))
          → Agrees fields (pick t (2 + fields + n) (size_with k (n + 1) fields))
      go true e next = rw (eqb-true (varlen_size (2 + fields + n)) n e)
      go false e next =
          let grown = size_mono (2 + fields + n) (2 + fields + (n + 1)) (omega arith) in
          next
          (split (n + 1) (varlen_size (2 + fields + n)) (λ more. omega arith)
          (λ less. absurd (eqb-false (varlen_size (2 + fields + n)) n e (omega arith))))

pub payload-agrees : (fields : ℕ) → Agrees fields (payload_size fields)
unfolding payload_size
payload-agrees fields = agrees_from fields 8 1 refl (size-range (2 + fields + 1)).0

pub payload-least : (fields q : ℕ) → Agrees fields q → payload_size fields ≤ q
unfolding payload_size
payload-least fields q a = omega (arith, least-from fields 8 1 (varlen_size q) (size-range q).0 (ap varlen_size (sym a)))

-- ---- which sizes 64 bits hold

size-held : (fields : ℕ) → fields < 2 ^ 64 - 11 → payload_size fields ≡ size_in64 fields
unfolding size_in64
size-held fields h =
    let few : payload_size fields < 2 ^ 64 = omega (arith, payload-agrees fields, size-range (payload_size fields)) in
    rw (lt-ltb (payload_size fields) (2 ^ 64) few)

pub size-told : (fields r : ℕ) → fields < 2 ^ 64 - 11 → r ≡ payload_size fields
    → (r ≡ size_in64 fields) × (fields < 2 ^ 32 → r ≡ payload_size fields)
size-told fields r h is = (is ∙ size-held fields h, λ few. is)

last-of-nine : varlen_size (2 ^ 56) ≡ 9
unfolding varlen_size size_from
last-of-nine = refl

pub size-too-great : (fields : ℕ) → 2 ^ 64 - 11 ≤ fields → 0 ≡ size_in64 fields
unfolding size_in64
size-too-great fields h =
    let agrees = payload-agrees fields in
    let nine = size_mono (2 ^ 56) (payload_size fields) (omega arith) in
    let many : 2 ^ 64 ≤ payload_size fields = omega (arith, last-of-nine) in
    rw (le-ltb (payload_size fields) (2 ^ 64) many)

-- ---- a size of one byte or of two

is-least : (fields q : ℕ) → Agrees fields q → ((p : ℕ) → Agrees fields p → q ≤ p) → q ≡ payload_size fields
is-least fields q a least = omega (arith, payload-least fields q a, least (payload_size fields) (payload-agrees fields))

pub payload-one : (fields : ℕ) → fields < 125 → fields + 3 ≡ payload_size fields
payload-one fields h = is-least fields (fields + 3) (rw (size-one (fields + 3) (omega arith)) (omega arith)) (λ p a. omega (arith, a, size-range p))

pub payload-two : (fields : ℕ) → 125 ≤ fields → fields + 4 < 2 ^ 14 → fields + 4 ≡ payload_size fields
payload-two fields more h =
    is-least fields (fields + 4) (rw (size-two (fields + 4) (omega arith) (omega arith)) (omega arith))
    (λ p a. omega (arith, a, size_above p (omega (arith, a, size-range p))))

-- 128 agrees with itself for 124 bytes of fields alone, and there 127 is less
pub payload-never-128 : (fields : ℕ) → payload_size fields ≡ 128 → ⊥
payload-never-128 fields is =
    let two : varlen_size (payload_size fields) ≡ 2 = ap varlen_size is ∙ first-of-two in
    let only : fields ≡ 124 = omega (arith, payload-agrees fields) in
    omega (arith, payload-one fields (omega arith))

-- ---- a turn of the loop
size_step : (n fields : ℕ) → n < 9
    → size_with (9 - n) n fields ≡ pick (eqb (varlen_size (2 + fields + n)) n) (2 + fields + n) (size_with (9 - (n + 1)) (n + 1) fields)
unfolding size_with
size_step n fields h =
    let e : 9 - n ≡ suc (9 - (n + 1)) = omega arith in
    rw e

-- a size with n bytes for itself is the one, or is passed over
module _ (n fields size : ℕ) (is : size ≡ 2 + fields + n) where
  pub size-found : n < 9 → length (varlen_bytes size) ≡ n → size ≡ size_with (9 - n) n fields
  size-found h e =
      let same : varlen_size (2 + fields + n) ≡ n = ap varlen_size (sym is) ∙ sym (length-varlen_bytes size) ∙ e in
      is ∙ sym (size_step n fields h ∙ rw (eq-eqb (varlen_size (2 + fields + n)) n same))

  pub size-passed : n < 9 → (length (varlen_bytes size) ≡ n → ⊥) → size_with (9 - (n + 1)) (n + 1) fields ≡ size_with (9 - n) n fields
  size-passed h ne =
      let other : varlen_size (2 + fields + n) ≡ n → ⊥ = λ e. ne (length-varlen_bytes size ∙ ap varlen_size is ∙ e) in
      sym (size_step n fields h ∙ rw (ne_eqb (varlen_size (2 + fields + n)) n other))

  pub size-last : n ≡ 9 → size ≡ size_with (9 - n) n fields
  unfolding size_with
  size-last e = is ∙ rw e
