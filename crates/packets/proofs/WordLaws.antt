-- Laws of bytes as one number (`specs/Word.antt`).
use Prim.Native.Nat.{ℕ, suc, ◌+◌, ◌*◌, ◌^◌, ◌≤◌, ◌<◌, compare}
use mathlib.Core.Path.{◌≡◌, refl, sym, ◌∙◌}
use mathlib.Core.List.{List, [], ◌∷◌, ◌++◌}
use native.Mathlib.Numerals.{add-one}
use native.Mathlib.Nat.{pow-suc, mul_assoc, mul-le-mul_right, suc-mul, pow-le-pow_right, suc_inj}
use native.Mathlib.Omega.{arith}
use lib.ListN.{length, drop, get_or, length-append, length-drop}
use lib.Seq.{take-suc, get_or-drop}
use Rattle.misc.specs.Parse.{Bytes, part}
use Rattle.misc.proofs.ParseLaws.{part_length}
use Rattle.misc.proofs.Bounds.{part_bytes}
use Rattle.packets.specs.Key.{order}
use Rattle.packets.specs.Word.{big_endian}
use Rattle.packets.proofs.Keys.{compare-cases, compare-lt, compare-eq, compare-gt}

big_endian-below : (bs : List ℕ) → Bytes bs → big_endian bs < 256 ^ length bs
unfolding big_endian
big_endian-below [] small = omega arith
big_endian-below (b ∷ bs) small =
    let P = 256 ^ length bs in
    let rest : big_endian bs < P = big_endian-below bs (λ i. small (suc i)) in
    let most : b * P ≤ 255 * P = mul-le-mul_right P (omega (arith, small 0)) in
    rw pow-suc (omega (arith, rest, most))

-- numbers stand to each other as their high parts, where these differ
high-decides : (x y m n P : ℕ) → x < y → m < P → x * P + m < y * P + n
high-decides x y m n P h k =
    let step : suc x * P ≤ y * P = mul-le-mul_right P h in
    omega (arith, step, suc-mul x P)

-- else as their low parts
low-decides : (k m n : ℕ) → compare (k + m) (k + n) ≡ compare m n
low-decides k m n = compare-cases m n
    (λ h e. rw e (compare-lt _ _ (omega arith)))
    (λ h e. rw e (compare-eq _ _ (omega arith)))
    (λ h e. rw e (compare-gt _ _ (omega arith)))

-- the numbers of equally many bytes stand to each other as the bytes
pub order-words : (u v : List ℕ) → Bytes u → Bytes v → length u ≡ length v → order u v ≡ compare (big_endian u) (big_endian v)
unfolding big_endian
order-words [] [] p q l = refl
order-words [] (y ∷ v) p q l = absurd (omega arith)
order-words (x ∷ u) [] p q l = absurd (omega arith)
order-words (x ∷ u) (y ∷ v) p q l =
    let same : length u ≡ length v = suc_inj l in
    let P = 256 ^ length v in
    let low : big_endian u < P = rw same at (big_endian-below u (λ i. p (suc i))) in
    let low' : big_endian v < P = big_endian-below v (λ i. q (suc i)) in
    rw same (compare-cases x y
    (λ h e. rw e (sym (compare-lt _ _ (high-decides x y (big_endian u) (big_endian v) P h low))))
    (λ h e. rw (e, h, low-decides (y * P) (big_endian u) (big_endian v)) (order-words u v (λ i. p (suc i)) (λ i. q (suc i)) same))
    (λ h e. rw e (sym (compare-gt _ _ (high-decides y x (big_endian v) (big_endian u) P h low')))))

-- ---- the loop that reads a word

big_endian-snoc : (bs : List ℕ) (b : ℕ) → big_endian (bs ++ (b ∷ [])) ≡ big_endian bs * 256 + b
unfolding big_endian
big_endian-snoc [] b = omega arith
big_endian-snoc (x ∷ bs) b =
    let P = 256 ^ length bs in
    let size : length (bs ++ (b ∷ [])) ≡ suc (length bs) = length-append bs (b ∷ []) ∙ add-one (length bs) in
    rw (size, pow-suc, big_endian-snoc bs b) (omega (arith, mul_assoc x P 256))

-- the word of fewer than eight bytes leaves room for one more
pub word_room : (s : List ℕ) (at i v : ℕ) → Bytes s → at + i ≤ length s → i ≤ 7 → v ≡ big_endian (part s at i) → v < 2 ^ 56
word_room s at i v p here few is =
    let size : length (part s at i) ≡ i = part_length i s at here in
    let below : big_endian (part s at i) < 256 ^ i = rw size at (big_endian-below (part s at i) (part_bytes s at i p)) in
    let top : 256 ^ i ≤ 256 ^ 7 = pow-le-pow_right (omega arith) few in
    omega (arith, below, top, is)

-- a turn of the reading loop
pub word_more : (s : List ℕ) (at i v b : ℕ) → at + i < length s → b ≡ get_or s (at + i) 0 → v ≡ big_endian (part s at i)
    → v * 256 + b ≡ big_endian (part s at (i + 1))
word_more s at i v b here byte is =
    let left : i < length (drop at s) = rw length-drop (omega arith) in
    let one : part s at (i + 1) ≡ part s at i ++ (b ∷ []) = rw (add-one, take-suc (drop at s) i 0 left, get_or-drop at s i 0, byte) in
    rw (one, big_endian-snoc (part s at i) b, is)
