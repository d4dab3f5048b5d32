-- Laws of writing at a place: an integer of two bytes, the bytes of a uuid as integers, and an immediate number with its original.
use mathlib.Core.Path.{◌≡◌, refl, sym, ap, ap₂, ◌∙◌}
use mathlib.Core.List.{List, [], ◌∷◌, ◌++◌, append_assoc, append-nil}
use Prim.Native.Nat.{ℕ, ◌+◌, ◌-◌, ◌*◌, ◌/◌, ◌%◌, ◌^◌, ◌≤◌, ◌<◌}
use native.Mathlib.Nat.{one-mul}
use native.Mathlib.Numerals.{add-one}
use native.Mathlib.Omega.{arith}
use lib.ListN.{length, get_or, take}
use lib.Seq.{take-suc, take_all}
use lib.Bits.{bit_or, or_shifted_r}
use borrow.Author.Tests.{ne_eqb}
use Rattle.std.specs.Prelude.{Ok}
use Rattle.std.proofs.Common.{MutBor}
use Rattle.misc.specs.Le.{le_bytes}
use Rattle.misc.specs.Output.{bytes, answer_of, output_of}
use Rattle.misc.specs.Put.{PutsWhereFits}
use Rattle.misc.specs.declared.put.Put.{Put}
use Rattle.misc.specs.Varlen.{varlen_bytes}
use Rattle.misc.proofs.VarlenLaws.{bytes-short}
use Rattle.misc.proofs.OutputLaws.{output-fits}
use Rattle.misc.proofs.PutLaws.{◌and◌, puts-fit, puts_none}
use Rattle.gtid_event_write.proofs.SizeLaws.{size-two}
use Rattle.gtid_event.specs.Event.{IsWidth}
use Rattle.gtid_event_write.specs.Layout.{items_bytes, pair_bytes}
use mathlib.Core.Logic.{inl, inr}

-- the same bytes, said otherwise
pub with-bytes : {p q : Put} {a b : List ℕ} → a ≡ b → PutsWhereFits p a q → PutsWhereFits p b q
with-bytes {p} {q} {a} {b} e f = rw e at f

-- what is put at the front of an output, where it fits, is the answer
pub wrote : {out : MutBor (List ℕ)} {q : Put} {bs : List ℕ} → length bs ≤ length out.now → PutsWhereFits (record { out = out; at = 0 }) bs q
    → (Ok q.at ≡ answer_of out.now (bytes bs)) × (q.out.now ≡ output_of out.now (bytes bs))
wrote room f = output-fits room (f.placed (omega arith))

-- and so many bytes are written as there are
pub wrote-all : {out : MutBor (List ℕ)} {q : Put} {bs : List ℕ} (size : ℕ) → size ≡ length bs → size ≤ length out.now
    → PutsWhereFits (record { out = out; at = 0 }) bs q → (Ok size ≡ answer_of out.now (bytes bs)) × (q.out.now ≡ output_of out.now (bytes bs))
wrote-all {out} {q} {bs} size is room f =
    let ends : q.at ≡ size = (f.placed (omega arith)).ends ∙ omega arith in
    rw ends at (wrote (omega arith) f)

-- ---- an integer in two bytes

pub two_bytes : (v : ℕ) → 128 ≤ v → v < 256 → ((v % 64 * 4 + 1) ∷ []) ++ (v / 64 ∷ []) ≡ varlen_bytes v
unfolding le_bytes
two_bytes v more h =
    let low : (v * 2 ^ 2 + (2 ^ (2 - 1) - 1)) % 256 ≡ v % 64 * 4 + 1 = omega arith in
    let above : (v * 2 ^ 2 + (2 ^ (2 - 1) - 1)) / 256 ≡ v / 64 = omega arith in
    let high : (v * 2 ^ 2 + (2 ^ (2 - 1) - 1)) / 256 % 256 ≡ v / 64 = ap (λ (n : ℕ). n % 256) above ∙ omega arith in
    sym (bytes-short v 2 (sym (size-two v more (omega arith))) (omega arith) ∙ ap₂ (λ (a b : ℕ). a ∷ b ∷ []) low high)

-- ---- items, one after the other

items-append : (a b : List ℕ) → items_bytes (a ++ b) ≡ items_bytes a ++ items_bytes b
unfolding items_bytes
items-append [] b = refl
items-append (x ∷ a) b = ap (λ (t : List ℕ). varlen_bytes x ++ t) (items-append a b) ∙ sym (append_assoc (varlen_bytes x) (items_bytes a) (items_bytes b))

pub items-next : (s : List ℕ) (i : ℕ) → i < length s → items_bytes (take (i + 1) s) ≡ items_bytes (take i s) ++ varlen_bytes (get_or s i 0)
unfolding items_bytes
items-next s i h = rw (add-one, take-suc s i 0 h, items-append) (ap (λ (t : List ℕ). items_bytes (take i s) ++ t) (append-nil (varlen_bytes (get_or s i 0))))

-- a turn of the loop that puts them
pub items-turn : (s : List ℕ) (i : ℕ) {p q r : Put} → i < length s → PutsWhereFits p (items_bytes (take i s)) q
    → PutsWhereFits q (varlen_bytes (get_or s i 0)) r → PutsWhereFits p (items_bytes (take (i + 1) s)) r
items-turn s i h f g = rw (items-next s i h) (f and g)

pub items-start : (s : List ℕ) (p : Put) → PutsWhereFits p (items_bytes (take 0 s)) p
unfolding items_bytes
items-start s p = puts-fit (puts_none p)

pub items-end : (s : List ℕ) (i : ℕ) {p q : Put} → length s ≤ i → PutsWhereFits p (items_bytes (take i s)) q → PutsWhereFits p (items_bytes s) q
items-end s i h f = rw (take_all i s h) at f

-- ---- an immediate number and its original, which differ

flagged : (k x : ℕ) → x < 2 ^ k → bit_or x (2 ^ k) ≡ x + 2 ^ k
flagged k x h = ap (bit_or x) (sym (one-mul (2 ^ k))) ∙ or_shifted_r 1 k x h ∙ omega (arith, one-mul (2 ^ k))

-- the highest bit of w bytes is set in a number that is below it
pub marked : (w x : ℕ) → IsWidth w → x < 2 ^ (8 * w - 1)
    → (bit_or x (1 * 2 ^ (8 * w - 1) % 2 ^ 64) ≡ x + 2 ^ (8 * w - 1)) × (x + 2 ^ (8 * w - 1) < 256 ^ w)
marked w x (inl e) h = let below : x < 2 ^ 55 = rw e at h in rw e (flagged 55 x below, omega arith)
marked w x (inr e) h = let below : x < 2 ^ 31 = rw e at h in rw e (flagged 31 x below, omega arith)

pub pair-placed : (w mark x y : ℕ) {m : ℕ} {p q r : Put} → m ≡ x + mark → (x ≡ y → ⊥) → PutsWhereFits p (le_bytes w m) q
    → PutsWhereFits q (le_bytes w y) r → PutsWhereFits p (pair_bytes w mark x y) r
pair-placed w mark x y is ne f g = rw (ne_eqb x y ne) (with-bytes (ap (le_bytes w) is) f and g)
