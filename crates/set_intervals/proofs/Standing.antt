-- Laws of the intervals that stand at a place of some bytes.
use Prim.Native.Nat.{ℕ, zero, suc, ◌+◌, ◌-◌, ◌*◌, ◌/◌, ◌<◌, ◌≤◌}
use mathlib.Core.Path.{◌≡◌, refl, sym, ap, ◌∙◌}
use mathlib.Core.List.{List, [], ◌∷◌, ◌++◌, append_assoc}
use native.Mathlib.Nat.{suc-sub-suc}
use native.Mathlib.Omega.{arith}
use lib.ListN.{length, take, drop}
use lib.Seq.{take-take, drop-drop}
use Rattle.std.specs.Simd.{first_chunks}
use Rattle.misc.specs.Parse.{part, Bytes}
use Rattle.misc.specs.Le.{le_bytes, le_of, number_at}
use Rattle.misc.proofs.ParseLaws.{part_length}
use Rattle.misc.proofs.LeLaws.{length-le_bytes}
use Rattle.misc.proofs.Places.{part-from, part-there, after_there}
use Rattle.misc.proofs.NumberLaws.{number-here, number-stands, number-there}
use Rattle.packets.specs.Gno.{Interval, interval}
use Rattle.previous_gtids_event.specs.Rewrite.{intervals_bytes}
use Rattle.previous_gtids_event.proofs.Laying.{GoodIntervals}
use Rattle.previous_gtids_event.proofs.Writing.{length-intervals-bytes}
use Rattle.set_intervals.specs.Intervals.{intervals_at, intervals_from, intervals_in, told}

after_two : (bs : List ℕ) (at u v : ℕ) (rest : List ℕ) → drop at bs ≡ le_bytes 8 u ++ (le_bytes 8 v ++ rest)
    → (drop (at + 8) bs ≡ le_bytes 8 v ++ rest) × (drop (at + 16) bs ≡ rest)
after_two bs at u v rest e =
    let first : drop (at + 8) bs ≡ le_bytes 8 v ++ rest = after_there bs at 8 (le_bytes 8 u) (le_bytes 8 v ++ rest) e (length-le_bytes 8 u) in
    let place : at + 8 + 8 ≡ at + 16 = omega arith in
    (first, rw place at (after_there bs (at + 8) 8 (le_bytes 8 v) rest first (length-le_bytes 8 v)))

-- intervals that were written are read
pub intervals-there : (bs : List ℕ) (at : ℕ) (is : List Interval) (rest : List ℕ) → drop at bs ≡ intervals_bytes is ++ rest → GoodIntervals is
    → intervals_at (length is) bs at ≡ is
unfolding intervals_bytes
intervals-there bs at [] rest e w = refl
intervals-there bs at (interval a b ∷ is) rest e w =
    let flat : drop at bs ≡ le_bytes 8 a ++ (le_bytes 8 b ++ (intervals_bytes is ++ rest)) = e ∙ simp append_assoc in
    let (second, others) = after_two bs at a b (intervals_bytes is ++ rest) flat in
    rw (
      number-there bs at a (le_bytes 8 b ++ (intervals_bytes is ++ rest)) flat w.0,
      number-there bs (at + 8) b (intervals_bytes is ++ rest) second w.1,
      intervals-there bs (at + 16) is rest others w.2,
    )

pub intervals-count : (n : ℕ) (bs : List ℕ) (at : ℕ) → length (intervals_at n bs at) ≡ n
intervals-count zero bs at = refl
intervals-count (suc n) bs at = ap suc (intervals-count n bs (at + 16))

-- what stands at a place is its intervals and what follows them
pub intervals-stand : (bs : List ℕ) → Bytes bs → (n at : ℕ) → at + 16 * n ≤ length bs
    → drop at bs ≡ intervals_bytes (intervals_at n bs at) ++ drop (at + 16 * n) bs
unfolding intervals_bytes
intervals-stand bs ok zero at h = let z : at + 0 ≡ at = omega arith in rw z
intervals-stand bs ok (suc n) at h =
    let m : at + 16 * suc n ≡ at + 16 + 16 * n = omega arith in
    let k : at + 8 + 8 ≡ at + 16 = omega arith in
    let others : List ℕ = intervals_bytes (intervals_at n bs (at + 16)) in
    rw (
      number-stands bs ok at (omega arith),
      number-stands bs ok (at + 8) (omega arith),
      m,
      append_assoc (part bs at 8) (part bs (at + 8) 8 ++ others) (drop (at + 16 + 16 * n) bs),
      append_assoc (part bs (at + 8) 8) others (drop (at + 16 + 16 * n) bs),
      ← intervals-stand bs ok n (at + 16) (omega arith),
    )
    (part-from bs at 8 ∙ ap (λ (x : List ℕ). part bs at 8 ++ x) (rw k at (part-from bs (at + 8) 8)))

-- the first of some intervals, and the others
pub intervals-more : (bs : List ℕ) (at n : ℕ) → 0 < n
    → intervals_at n bs at ≡ interval (number_at bs at) (number_at bs (at + 8)) ∷ intervals_at (n - 1) bs (at + 16)
intervals-more bs at n h =
    let e : n ≡ suc (n - 1) = omega arith in
    ap (λ (m : ℕ). intervals_at m bs at) e

pub drop-intervals : (e n at : ℕ) (bs : List ℕ) → e ≤ n → drop e (intervals_at n bs at) ≡ intervals_at (n - e) bs (at + 16 * e)
drop-intervals zero n at bs h =
    let z : n - 0 ≡ n = omega arith in
    let y : at + 16 * 0 ≡ at = omega arith in
    rw (z, y)
drop-intervals (suc e) zero at bs h = absurd (omega arith)
drop-intervals (suc e) (suc n) at bs h =
    let y : at + 16 * suc e ≡ at + 16 + 16 * e = omega arith in
    rw (suc-sub-suc n e, y) (drop-intervals e n (at + 16) bs (omega arith))

pub take-intervals : (e n : ℕ) (bs : List ℕ) (at : ℕ) → e ≤ n → take e (intervals_at n bs at) ≡ intervals_at e bs at
take-intervals zero n bs at h = refl
take-intervals (suc e) zero bs at h = absurd (omega arith)
take-intervals (suc e) (suc n) bs at h =
    ap (λ (is : List Interval). interval (number_at bs at) (number_at bs (at + 8)) ∷ is) (take-intervals e n bs (at + 16) (omega arith))

pub intervals-part : (bs : List ℕ) → Bytes bs → (n at : ℕ) → at + 16 * n ≤ length bs → intervals_bytes (intervals_at n bs at) ≡ part bs at (16 * n)
intervals-part bs ok n at h =
    sym (part-there bs at (16 * n) (intervals_bytes (intervals_at n bs at)) (drop (at + 16 * n) bs) (intervals-stand bs ok n at h)
    (length-intervals-bytes (intervals_at n bs at) ∙ ap (λ (m : ℕ). 16 * m) (intervals-count n bs at)))

-- ---- intervals in a part of some bytes

in-part : (k at m : ℕ) (l : List ℕ) → at + k ≤ m → part (take m l) at k ≡ part l at k
in-part k zero m l h = take-take k m l (omega arith)
in-part k (suc at) zero l h = absurd (omega arith)
in-part k (suc at) (suc m) [] h = refl
in-part k (suc at) (suc m) (x ∷ l) h = in-part k at m l (omega arith)

pub number_in : (bs : List ℕ) (first m at : ℕ) → first + m ≤ length bs → at + 8 ≤ m → number_at (part bs first m) at ≡ number_at bs (first + at)
number_in bs first m at inside h =
    number-here (part bs first m) at (omega (arith, part_length m bs first inside))
    ∙ ap le_of (in-part 8 at m (drop first bs) h ∙ ap (take 8) (drop-drop at first bs))
    ∙ sym (number-here bs (first + at) (omega arith))

intervals-in : (n : ℕ) (bs : List ℕ) (first m at : ℕ) → first + m ≤ length bs → at + 16 * n ≤ m
    → intervals_at n (part bs first m) at ≡ intervals_at n bs (first + at)
intervals-in zero bs first m at inside h = refl
intervals-in (suc n) bs first m at inside h =
    let x : first + (at + 8) ≡ first + at + 8 = omega arith in
    let y : first + (at + 16) ≡ first + at + 16 = omega arith in
    rw (
      number_in bs first m at inside (omega arith),
      number_in bs first m (at + 8) inside (omega arith),
      intervals-in n bs first m (at + 16) inside (omega arith),
      x,
      y,
    )

-- the intervals at a place are those that the bytes there are
pub intervals-lent : (n : ℕ) (bs : List ℕ) (first : ℕ) → first + 16 * n ≤ length bs → intervals_in (part bs first (16 * n)) ≡ intervals_at n bs first
unfolding intervals_from
intervals-lent n bs first inside =
    let count : (length (part bs first (16 * n)) - 0) / 16 ≡ n = omega (arith, part_length (16 * n) bs first inside) in
    let z : first + 0 ≡ first = omega arith in
    ap (λ (k : ℕ). intervals_at k (part bs first (16 * n)) 0) count
    ∙ intervals-in n bs first (16 * n) 0 inside (omega arith)
    ∙ ap (intervals_at n bs) z

-- ---- those from a place on

pub left-count : (bs : List ℕ) (at : ℕ) → length (intervals_from bs at) ≡ (length bs - at) / 16
unfolding intervals_from
left-count bs at = intervals-count ((length bs - at) / 16) bs at

pub left_behind : (bs : List ℕ) (k : ℕ) → 16 * k ≤ length bs → drop k (intervals_in bs) ≡ intervals_from bs (16 * k)
unfolding intervals_from
left_behind bs k h =
    let count : (length bs - 0) / 16 - k ≡ (length bs - 16 * k) / 16 = omega arith in
    let place : 0 + 16 * k ≡ 16 * k = omega arith in
    drop-intervals k ((length bs - 0) / 16) 0 bs (omega arith) ∙ rw (count, place)

-- ---- intervals as chunks of sixteen bytes

chunks-told : (n : ℕ) (bs : List ℕ) (at : ℕ) → at + 16 * n ≤ length bs → told (first_chunks 16 n (drop at bs)) ≡ intervals_at n bs at
chunks-told zero bs at h = refl
chunks-told (suc n) bs at h =
    let z : at + 0 ≡ at = omega arith in
    rw (number_in bs at 16 0 (omega arith) (omega arith), number_in bs at 16 8 (omega arith) (omega arith), z, drop-drop, chunks-told n bs (at + 16) (omega arith))

-- all of them
pub chunks-all : (bs : List ℕ) → told (first_chunks 16 (length bs / 16) bs) ≡ intervals_in bs
unfolding intervals_from
chunks-all bs = let all : length bs - 0 ≡ length bs = omega arith in rw all (chunks-told (length bs / 16) bs 0 (omega arith))
