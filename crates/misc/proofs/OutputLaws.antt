-- Laws of the language of writing (`specs/Output.antt`).
use mathlib.Core.Path.{◌≡◌, refl, sym, ap, ◌∙◌}
use mathlib.Core.List.{List, [], ◌∷◌, ◌++◌, append_assoc, append-nil}
use Prim.Native.Nat.{ℕ, suc, ◌+◌, ◌-◌, ◌≤◌, ◌<◌}
use native.Mathlib.Nat.{zero-add, add-zero, add-suc, suc-add, add_assoc}
use native.Mathlib.Numerals.{add-one}
use native.Mathlib.Omega.{arith}
use lib.ListN.{length, get_or, take, drop, set, length-append, length-drop, drop_of_length-le, take-append-drop}
use lib.Seq.{drop-cons, take_all, length-sets, sets-eq, drop-drop}
use borrow.Rule.Slice.PartMut.{mid_of, put_mid}
use Rattle.misc.proofs.ParseLaws.{split}
use borrow.Author.Tests.{le-leb, lt-leb}
use Rattle.misc.specs.Refusal.{Refusal, WriteError, Refused, NoRoom}
use Rattle.misc.specs.Output.{bytes, refused, behind, output_of, answer_of, written, put_at, put_end, Placed, WhereFits}
use Rattle.std.specs.Prelude.{Result, Ok, Err, IfOk}

-- ---- bytes written over a list

-- one byte, then the rest
pub written-cons : (l : List ℕ) (at b : ℕ) (bs : List ℕ) → written (set l at b) (at + 1) bs ≡ written l at (b ∷ bs)
unfolding written
written-cons l at b bs = rw add-one

-- nothing is left to write
pub written_none : (l : List ℕ) (at : ℕ) → l ≡ written l at []
unfolding written
written_none l at = refl

-- a turn of a copy: the byte at i is written, and those after it are left
pub copy-turn : (l s : List ℕ) (i : ℕ) → i < length s → written (set l i (get_or s i 0)) (i + 1) (drop (i + 1) s) ≡ written l i (drop i s)
copy-turn l s i h = written-cons l i (get_or s i 0) (drop (i + 1) s) ∙ rw (drop-cons s i 0 h, add-one)

-- two runs, one after the other, are one run
pub written_then : (l : List ℕ) (at : ℕ) (a b : List ℕ) → written (written l at a) (at + length a) b ≡ written l at (a ++ b)
unfolding written
written_then l at [] b = rw add-zero
written_then l at (x ∷ a) b = rw (add-suc, ← suc-add) (written_then (set l at x) (suc at) a b)

pub length-written : (l : List ℕ) (at : ℕ) (bs : List ℕ) → length (written l at bs) ≡ length l
unfolding written
length-written l at bs = length-sets l at bs

-- what it is where there is room: what was before, the bytes, what was behind
pub written_is : (l : List ℕ) (at : ℕ) (bs : List ℕ) → at + length bs ≤ length l → written l at bs ≡ take at l ++ bs ++ drop (at + length bs) l
unfolding written
written_is l at bs h = sets-eq bs l at h

-- ---- runs of writes

-- a run of writes is one write
infixl 40 ◌then◌
pub ◌then◌ : {l l₁ l₂ a b : List ℕ} {at at₁ at₂ : ℕ} → Placed l at a l₁ at₁ → Placed l₁ at₁ b l₂ at₂ → Placed l at (a ++ b) l₂ at₂
◌then◌ {l} {l₁} {l₂} {a} {b} {at} {at₁} {at₂} p q =
    record {
      holds = q.holds ∙ rw (p.holds, p.ends) (written_then l at a b);
      ends = q.ends ∙ rw (p.ends, length-append a b) (add_assoc at (length a) (length b));
    }

pub nothing_placed : (l : List ℕ) (at : ℕ) → Placed l at [] l at
nothing_placed l at = record { holds = written_none l at; ends = sym (add-zero at) }

-- a run of writes, each where it fits, is one: room is asked once, at the end
infixl 40 ◌also◌
pub ◌also◌ : {l l₁ l₂ a b : List ℕ} {at at₁ at₂ : ℕ} → WhereFits l at a l₁ at₁ → WhereFits l₁ at₁ b l₂ at₂ → WhereFits l at (a ++ b) l₂ at₂
◌also◌ {l} {l₁} {l₂} {a} {b} {at} {at₁} {at₂} p q = record { placed = go }
  where
    go : at + length (a ++ b) ≤ length l → Placed l at (a ++ b) l₂ at₂
    go room =
        let both : at + (length a + length b) ≤ length l = rw length-append at room in
        let first : Placed l at a l₁ at₁ = p.placed (omega arith) in
        let same : length l₁ ≡ length l = ap length first.holds ∙ length-written l at a in
        first then q.placed (omega arith)

-- bytes put at a place are placed where there is room
pub put-placed : {l l' bs : List ℕ} {at r : ℕ} → (r ≡ put_end l at bs) × (l' ≡ put_at l at bs) → WhereFits l at bs l' r
unfolding put_at put_end
put-placed {l} {l'} {bs} {at} {r} (e, h) =
    record { placed = λ room. record { holds = h ∙ rw (le-leb (at + length bs) (length l) room); ends = e ∙ rw (le-leb (at + length bs) (length l) room) } }

-- the same bytes, said otherwise
pub put_as : (l : List ℕ) (at : ℕ) {l' a b : List ℕ} {r : ℕ} → a ≡ b → (r ≡ put_end l at a) × (l' ≡ put_at l at a) → (r ≡ put_end l at b) × (l' ≡ put_at l at b)
put_as l at e p = rw e at p

-- there is no room
pub put-short : (l bs : List ℕ) (at : ℕ) → length l < at + length bs → (at ≡ put_end l at bs) × (l ≡ put_at l at bs)
unfolding put_at put_end
put-short l bs at h = simp (lt-leb (at + length bs) (length l) h) (refl, refl)

-- there is
pub put-there : {l l' bs : List ℕ} {at r : ℕ} → at + length bs ≤ length l → Placed l at bs l' r → (r ≡ put_end l at bs) × (l' ≡ put_at l at bs)
unfolding put_at put_end
put-there {l} {l'} {bs} {at} {r} room p = simp (le-leb (at + length bs) (length l) room) (p.ends, p.holds)

-- no bytes: room or not, nothing changes
pub put-nothing : (l : List ℕ) (at : ℕ) → (at ≡ put_end l at []) × (l ≡ put_at l at [])
put-nothing l at = split (at + 0) (length l) (λ h. put-there h (nothing_placed l at)) (λ h. put-short l [] at h)

pub byte_put : (l : List ℕ) (at b : ℕ) → at < length l → (at + 1 ≡ put_end l at (b ∷ [])) × (set l at b ≡ put_at l at (b ∷ []))
unfolding written
byte_put l at b h = put-there (omega arith) (record { holds = refl; ends = refl })

-- ---- what a writer leaves and answers

-- what is placed at the front is the answer
pub output-fits : {l l' bs : List ℕ} {n : ℕ} → length bs ≤ length l → Placed l 0 bs l' n
    → (Ok n ≡ answer_of l (bytes bs)) × (l' ≡ output_of l (bytes bs))
unfolding answer_of output_of
output-fits {l} {l'} {bs} {n} room p = (
  simp (le-leb (length bs) (length l) room, p.ends, zero-add),
  simp (le-leb (length bs) (length l) room) (p.holds ∙ written_is l 0 bs (omega arith) ∙ rw zero-add),
)

-- there is no room
pub output-short : (l bs : List ℕ) (n : ℕ) → n ≡ length bs → length l < n
    → (Err (NoRoom n) ≡ answer_of l (bytes bs)) × (l ≡ output_of l (bytes bs))
unfolding answer_of output_of
output-short l bs n size h =
    let over : length l < length bs = omega arith in
    (simp (lt-leb (length bs) (length l) over, size), simp (lt-leb (length bs) (length l) over))

-- a refusal writes nothing
pub output-refused : (l : List ℕ) (x : Refusal) → (Err (Refused x) ≡ answer_of l (refused x)) × (l ≡ output_of l (refused x))
unfolding answer_of output_of
output-refused l x = (refl, refl)

-- ---- a part of an output, from a place on, lent to a writer and put back

-- such a part, and the output with something else in its place
abbrev pub from_on : List ℕ → ℕ → List ℕ
from_on l at = mid_of at (length l - at) l

abbrev pub put_back : List ℕ → ℕ → List ℕ → List ℕ
put_back l at part = put_mid at (length l - at) l part

-- bytes that a writer was lent such a part for
module _ (l bs : List ℕ) (at : ℕ) (inside : at ≤ length l) (r : Result ℕ WriteError) (told : r ≡ answer_of (from_on l at) (bytes bs)) where
  part-is : from_on l at ≡ drop at l
  part-is = take_all (length l - at) (drop at l) (rw length-drop (omega arith))

  part_length : length (from_on l at) ≡ length l - at
  part_length = rw part-is (length-drop at l)

  back_is : (part : List ℕ) → put_back l at part ≡ take at l ++ part
  back_is part =
      let rest : drop (length l - at) (drop at l) ≡ [] = drop_of_length-le (drop at l) {i = length l - at} (rw length-drop (omega arith)) in
      rw rest (simp append-nil)

  wrote-all : length bs ≤ length (from_on l at) → r ≡ Ok (length bs)
  unfolding answer_of
  wrote-all fits = told ∙ rw (le-leb (length bs) (length (from_on l at)) fits)

  wrote_none : length (from_on l at) < length bs → r ≡ Err (NoRoom (length bs))
  unfolding answer_of
  wrote_none over = told ∙ rw (lt-leb (length bs) (length (from_on l at)) over)

  -- the place behind what it wrote is within the output
  pub lent-ends : {m : ℕ} → length l < m → IfOk r (λ n. at + n < m)
  lent-ends small = split (length bs) (length (from_on l at)) (λ fits. rw (wrote-all fits) (omega (arith, part_length))) (λ over. rw (wrote_none over) tt)

  -- they are put there
  pub lent-put : {part : List ℕ} {next : ℕ} → next ≡ behind r at → part ≡ output_of (from_on l at) (bytes bs)
      → (next ≡ put_end l at bs) × (put_back l at part ≡ put_at l at bs)
  unfolding output_of
  lent-put {part} {next} moved is =
      split (length bs) (length (from_on l at))
      (λ fits.
      let room : at + length bs ≤ length l = omega (arith, part_length) in
      let now : part ≡ bs ++ drop (at + length bs) l = is ∙ rw (le-leb (length bs) (length (from_on l at)) fits, part-is, drop-drop (length bs) at l) in
      put-there room
      (record {
        holds = back_is part ∙ rw now (sym (written_is l at bs room ∙ append_assoc (take at l) bs (drop (at + length bs) l)));
        ends = moved ∙ ap (λ (y : Result ℕ WriteError). behind y at) (wrote-all fits);
      }))
      (λ over.
      let short = put-short l bs at (omega (arith, part_length)) in
      let still : part ≡ drop at l = is ∙ rw (lt-leb (length bs) (length (from_on l at)) over) part-is in (
        moved ∙ ap (λ (y : Result ℕ WriteError). behind y at) (wrote_none over) ∙ short.0,
        back_is part ∙ rw still (take-append-drop at l) ∙ short.1,
      ))
