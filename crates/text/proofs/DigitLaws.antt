-- Laws of digits: the decimal digits of a number, and two hexadecimal ones for each byte, are those that the library puts.
use mathlib.Core.Path.{◌≡◌, refl, sym, ◌∙◌}
use mathlib.Core.Bool.{Bool, true, ◌&&◌}
use mathlib.Core.List.{List, [], ◌∷◌, ◌++◌, append_assoc}
use Prim.Native.Nat.{ℕ, zero, suc, ◌+◌, ◌-◌, ◌*◌, ◌/◌, ◌%◌, ◌^◌, ◌≤◌, ◌<◌, max}
use native.Mathlib.Nat.{pow-suc, one-le-pow, add-sub_cancel_left}
use native.Mathlib.Omega.{arith}
use lib.ListN.{length, get_or, take, drop, length-append}
use lib.Dec.{eqb}
use Rattle.std.proofs.lemmas.Bool.{and_parts, eqb-true}
use lib.Seq.{drop-drop}
use borrow.Author.Tests.{lt-ltb, le-ltb}
use borrow.Rule.Slice.PartMut.{put_mid}
use Rattle.std.specs.Fmt as fmt
use Rattle.std.proofs.lemmas.Fmt.{decimal_by_steps}
use Rattle.hex.specs.Hex.{lower_digits, encode_with, encode_lower}
use Rattle.misc.specs.Parse.{Bytes}
use Rattle.misc.specs.Output.{put_at, put_end}
use Rattle.misc.proofs.ParseLaws.{split}
use Rattle.misc.proofs.OutputLaws.{written_is, put-there}
use Rattle.text.specs.Digits.{decimal_in, decimal, hex_digit, hex}
use Rattle.text.specs.Inside.{Before}

-- ---- decimal digits

fewer-tens : (k v : ℕ) → v < 10 ^ (suc k) → v / 10 < 10 ^ k
fewer-tens k v h = omega (arith, pow-suc 10 k)

-- a number's digits are these, whatever room for more there is
abbrev Spelled : ℕ → List ℕ → Type 0
Spelled v ds = (k : ℕ) → v < 10 ^ (suc k) → decimal_in k v ≡ ds

spelled-one : (v : ℕ) → v < 10 → Spelled v ((48 + v) ∷ [])
unfolding decimal_in
spelled-one v low zero h = refl
spelled-one v low (suc k) h = rw (lt-ltb v 10 low)

spelled-more : (v : ℕ) (ds : List ℕ) → 10 ≤ v → Spelled (v / 10) ds → Spelled v (ds ++ ((48 + v % 10) ∷ []))
unfolding decimal_in
spelled-more v ds big front zero h = absurd (omega (arith, pow-suc 10 0))
spelled-more v ds big front (suc k) h = rw (le-ltb v 10 big, front k (fewer-tens (suc k) v h))

-- a digit alone
pub decimal-one : (v : ℕ) → v < 10 → decimal v ≡ (48 + v) ∷ []
unfolding decimal
decimal-one v low = spelled-one v low 19 (omega arith)

-- the library's decimal digits
pub decimal-is : (v : ℕ) → v < 2 ^ 64 → fmt.decimal v ≡ decimal v
unfolding decimal
decimal-is v h = sym (decimal_by_steps Spelled spelled-one spelled-more v h 19 (omega arith))

-- digits that the library put before a place of a text
pub decimal-before : (v : ℕ) {l l' : List ℕ} {end first : ℕ} → v < 2 ^ 64 → first + length (fmt.decimal v) ≡ end
    → drop first l' ≡ fmt.decimal v ++ drop end l → Before l end (decimal v) l' first
decimal-before v h starts written = rw (← decimal-is v h) (record { holds = written; begins = starts })

-- ---- how many there are

digits-short : (m k v : ℕ) → 1 ≤ k → v < 10 ^ k → length (decimal_in m v) ≤ k
unfolding decimal_in
digits-short zero k v h small = h
digits-short (suc m) zero v h small = absurd (omega arith)
digits-short (suc m) (suc zero) v h small = let low : v < 10 = omega (arith, pow-suc 10 0) in rw (lt-ltb v 10 low) h
digits-short (suc m) (suc (suc k)) v h small =
    split 10 v
    (λ big.
    let less = digits-short m (suc k) (v / 10) (omega arith) (fewer-tens (suc k) v small) in
    rw (le-ltb v 10 big, length-append) (omega arith))
    (λ low. rw (lt-ltb v 10 low) h)

pub decimal-short : (k v : ℕ) → 1 ≤ k → v < 10 ^ k → length (decimal v) ≤ k
unfolding decimal
decimal-short k v h small = digits-short 19 k v h small

digits-most : (m v : ℕ) → length (decimal_in m v) ≤ suc m
unfolding decimal_in
digits-most zero v = omega arith
digits-most (suc m) v =
    let less = digits-most m (v / 10) in
    split 10 v (λ big. rw (le-ltb v 10 big, length-append) (omega arith)) (λ low. rw (lt-ltb v 10 low) (omega arith))

pub decimal-most : (v : ℕ) → length (decimal v) ≤ 20
unfolding decimal
decimal-most v = digits-most 19 v

-- as many as the power of ten says, and one more
digits-count : (m k v : ℕ) → k ≤ m → 10 ^ k ≤ max v 1 → v < 10 ^ (suc k) → length (decimal_in m v) ≡ suc k
unfolding decimal_in
digits-count zero zero v few least most = refl
digits-count zero (suc k) v few least most = absurd (omega arith)
digits-count (suc m) zero v few least most = let low : v < 10 = omega (arith, pow-suc 10 0) in rw (lt-ltb v 10 low)
digits-count (suc m) (suc k) v few least most =
    let some : 0 < 10 ^ k = one-le-pow k 10 (omega arith) in
    let big : 10 ≤ v = omega (arith, pow-suc 10 k) in
    let front = digits-count m k (v / 10) (omega arith) (omega (arith, pow-suc 10 k)) (fewer-tens (suc k) v most) in
    rw (le-ltb v 10 big, length-append) (omega arith)

pub decimal-count : (v k : ℕ) → 10 ^ k ≤ max v 1 → max v 1 < 10 * 10 ^ k → k < 20 → k + 1 ≡ length (decimal v)
unfolding decimal
decimal-count v k least most few = omega (arith, digits-count 19 k v (omega arith) least (omega (arith, pow-suc 10 k)))

-- ---- hexadecimal digits

-- the first of the library's digits are ours, as a test that computes
abbrev same-digits : ℕ → Bool
same-digits zero = true
same-digits (suc d) = eqb (get_or lower_digits d 0) (hex_digit d) && same-digits d

digits-same : (n d : ℕ) → same-digits n ≡ true → d < n → get_or lower_digits d 0 ≡ hex_digit d
digits-same zero d tested h = absurd (omega arith)
digits-same (suc n) d tested h =
    let (last, others) = and_parts (eqb (get_or lower_digits n 0) (hex_digit n)) (same-digits n) tested in
    split n d (λ top. let e : d ≡ n = omega arith in rw e (eqb-true _ _ last)) (λ below. digits-same n d others below)

digit-is : (d : ℕ) → d < 16 → get_or lower_digits d 0 ≡ hex_digit d
unfolding hex_digit
digit-is d h = digits-same 16 d refl h

pub hex-is : (bs : List ℕ) → Bytes bs → encode_lower bs ≡ hex bs
unfolding encode_with hex
hex-is [] small = refl
hex-is (b ∷ bs) small =
    let byte : b < 256 = small 0 in
    rw (digit-is (b / 16) (omega arith), digit-is (b % 16) (omega arith), hex-is bs (λ i. small (suc i)))

pub hex-long : (source : List ℕ) → length (hex source) ≡ 2 * length source
unfolding hex
hex-long [] = refl
hex-long (b ∷ bs) = let rest = hex-long bs in omega arith

-- no bytes have none
pub hex-none : (source : List ℕ) → length source ≡ 0 → hex source ≡ []
unfolding hex
hex-none [] h = refl
hex-none (b ∷ bs) h = absurd (omega arith)

-- digits that the library put into a part of an output that is as long as they are
pub hex-put : (source l part : List ℕ) (at : ℕ) → Bytes source → at + 2 * length source ≤ length l → part ≡ encode_lower source
    → (at + 2 * length source ≡ put_end l at (hex source)) × (put_mid at (at + 2 * length source - at) l part ≡ put_at l at (hex source))
hex-put source l part at small room is =
    let now : part ≡ hex source = is ∙ hex-is source small in
    let long = hex-long source in
    let whole = written_is l at (hex source) (omega arith) in
    put-there (omega arith) (record { holds = rw (now, add-sub_cancel_left, drop-drop) (sym (whole ∙ rw long (append_assoc (take at l) (hex source) (drop (at + 2 * length source) l)))); ends = omega arith })
