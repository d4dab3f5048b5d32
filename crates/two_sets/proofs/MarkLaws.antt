-- Laws of marks that stand in bytes: one turn of the sweep over them, all turns up to the next mark of the result, and all marks.
use Prim.Native.Nat.{ℕ, zero, suc, ◌+◌, ◌-◌, ◌*◌, ◌%◌, ◌^◌, ◌<◌, ◌≤◌, min}
use mathlib.Core.Path.{◌≡◌, refl, sym, ap, ◌∙◌}
use mathlib.Core.Bool.{Bool, true, false, not, beq, ◌&&◌, ◌||◌}
use mathlib.Core.List.{List, [], ◌∷◌, ◌++◌}
use native.Mathlib.Omega.{arith}
use lib.ListN.{length, drop}
use lib.Seq.{take-add, drop-drop}
use lib.Dec.{ltb, leb, eqb}
use borrow.Author.Tests.{ltb-true, ltb-false, le-leb, lt-leb, eq-eqb, ne_eqb}
use Rattle.misc.specs.Parse.{part, Bytes}
use Rattle.misc.specs.Le.{le_bytes, number_at}
use Rattle.misc.specs.Output.{put_at, WhereFits}
use Rattle.misc.proofs.ParseLaws.{part_length}
use Rattle.misc.proofs.LeLaws.{length-le_bytes}
use Rattle.misc.proofs.OutputLaws as output
use Rattle.misc.proofs.OutputLaws.{◌also◌, nothing_placed}
use Rattle.packets.specs.Gno.{gno_top}
use Rattle.packets.proofs.Tests.{split, clash, tests}
use Rattle.packets.proofs.Keys.{compare-cases}
use Rattle.packets.proofs.GnoLaws.{gno_top-is}
use Rattle.gtid_sets.specs.Combine.{is_open, mark, keeps, sweep, Rising}
use Rattle.gtid_sets.proofs.Bools.{or-false-parts}
use Rattle.gtid_sets.proofs.SweepLaws.{lower, sweep-lt, sweep-eq, sweep-gt}
use Rattle.misc.proofs.NumberLaws.{number-stands}
use Rattle.two_sets.specs.Marks.{
  marks_at,
  marks_of,
  next_mark,
  passed_side,
  left_of,
  going,
  all_if,
  SideIs,
  SidesAre,
  keeps_now,
  StepIs,
  NextStep,
  marks_bytes,
  MarksPut,
}
use Rattle.two_sets.specs.declared.Side.{Side}
use Rattle.two_sets.specs.declared.Sides.{Sides}
use Rattle.two_sets.specs.declared.Step.{Step}

-- ---- one turn, on lists

abbrev pass : Bool → List ℕ → List ℕ
pass true [] = []
pass true (m ∷ ms) = ms
pass false ms = ms

mark-same : (z : Bool) (m : ℕ) (ms : List ℕ) → mark z z m ms ≡ ms
mark-same true m ms = refl
mark-same false m ms = refl

mark-turns : (z z' : Bool) (m : ℕ) (ms : List ℕ) → (z ≡ z' → ⊥) → mark z z' m ms ≡ m ∷ ms
mark-turns true true m ms h = absurd (h refl)
mark-turns true false m ms h = refl
mark-turns false true m ms h = refl
mark-turns false false m ms h = absurd (h refl)

-- a test of two answers
pub same-test : (x y : Bool) → not (beq x y) ≡ false → x ≡ y
same-test true true h = refl
same-test true false h = clash refl h
same-test false true h = clash refl h
same-test false false h = refl

pub turns-test : (x y : Bool) → not (beq x y) ≡ true → x ≡ y → ⊥
turns-test true true h e = clash h refl
turns-test true false h e = clash refl e
turns-test false true h e = clash e refl
turns-test false false h e = clash h refl

pass-rises : (t : Bool) (ms : List ℕ) → Rising 0 ms → Rising 0 (pass t ms)
pass-rises true [] r = tt
pass-rises true (m ∷ ms) r = lower 0 m ms r.0 r.2
pass-rises false ms r = r

module _ (op : Bool → Bool → Bool) where
  -- the lower of the next marks is passed, by each list that has it
  abbrev turned : List ℕ → List ℕ → List ℕ
  turned a b =
      let f : Bool = leb (next_mark a) (next_mark b) in
      let g : Bool = leb (next_mark b) (next_mark a) in
      mark (keeps op a b) (keeps op (pass f a) (pass g b)) (min (next_mark a) (next_mark b)) (sweep op (pass f a) (pass g b))

  sweep-next : (a b : List ℕ) → Rising 0 a → Rising 0 b → 0 < length a + length b → sweep op a b ≡ turned a b
  sweep-next [] [] r q some = absurd (omega arith)
  sweep-next (m ∷ a) [] r q some =
      let low : min m (2 ^ 64 - 1) ≡ m = omega (arith, gno_top-is, r.1) in
      rw (le-leb m (2 ^ 64 - 1) (omega (arith, gno_top-is, r.1)), lt-leb (2 ^ 64 - 1) m (omega (arith, gno_top-is, r.1)), low)
  sweep-next [] (n ∷ b) r q some =
      let low : min (2 ^ 64 - 1) n ≡ n = omega (arith, gno_top-is, q.1) in
      rw (le-leb n (2 ^ 64 - 1) (omega (arith, gno_top-is, q.1)), lt-leb (2 ^ 64 - 1) n (omega (arith, gno_top-is, q.1)), low)
  sweep-next (m ∷ a) (n ∷ b) r q some = compare-cases m n
      (λ h e. let low : min m n ≡ m = omega arith in
      rw (sweep-lt op m n a b e, le-leb m n (omega arith), lt-leb n m h, low))
      (λ h e. let low : min m n ≡ m = omega arith in
      rw (sweep-eq op m n a b e, le-leb m n (omega arith), le-leb n m (omega arith), low))
      (λ h e. let low : min m n ≡ n = omega arith in
      rw (sweep-gt op m n a b e, lt-leb m n h, le-leb n m (omega arith), low))

-- ---- in bytes

marks-count : (n : ℕ) (bs : List ℕ) (at : ℕ) → length (marks_at n bs at) ≡ n
marks-count zero bs at = refl
marks-count (suc n) bs at = ap suc (marks-count n bs (at + 8))

-- an odd number of marks is open
marks-open : (n : ℕ) (bs : List ℕ) (at : ℕ) → eqb (n % 2) 1 ≡ is_open (marks_at n bs at)
marks-open zero bs at = refl
marks-open (suc n) bs at = odd ∙ ap not (marks-open n bs (at + 8))
  where
    odd : eqb (suc n % 2) 1 ≡ not (eqb (n % 2) 1)
    odd = split (leb 1 (n % 2))
        (λ h. rw (eq-eqb (n % 2) 1 (omega tests)) (ne_eqb (suc n % 2) 1 (λ e. omega tests)))
        (λ h. rw (ne_eqb (n % 2) 1 (λ e. omega tests)) (eq-eqb (suc n % 2) 1 (omega tests)))

-- the next mark of a side
pub a-mark : (bs : List ℕ) (s : Side) (m : ℕ) → (s.left ≡ 0 → ⊥) → m ≡ number_at bs s.at → m ≡ next_mark (marks_of bs s)
a-mark bs s m some e = let z : s.left ≡ suc (s.left - 1) = omega arith in rw z e

passed-marks : (bs : List ℕ) (t : Bool) (s : Side) → marks_of bs (passed_side t s) ≡ pass t (marks_of bs s)
passed-marks bs false s = refl
passed-marks bs true s = go s.left
  where
    go : (n : ℕ) → marks_at (n - 1) bs (s.at + 8) ≡ pass true (marks_at n bs s.at)
    go zero = refl
    go (suc n) = let z : suc n - 1 ≡ n = omega arith in rw z

passed-side : (bs : List ℕ) (t : Bool) (s : Side) → (t ≡ true → 0 < s.left) → SideIs bs s → SideIs bs (passed_side t s)
passed-side bs t s some i = record { there = there t some; rises = rw (passed-marks bs t s) (pass-rises t (marks_of bs s) i.rises) }
  where
    there : (t : Bool) → (t ≡ true → 0 < s.left) → (passed_side t s).at + 8 * (passed_side t s).left ≤ length bs
    there true some = omega (arith, some refl, i.there)
    there false some = i.there

-- a list of marks has a next one below the top
low-mark : (ms : List ℕ) → Rising 0 ms → 0 < length ms → next_mark ms ≤ gno_top
low-mark [] r h = absurd (omega arith)
low-mark (m ∷ ms) r h = r.1

passes : (a b : List ℕ) → Rising 0 b → 0 < length a + length b → leb (next_mark a) (next_mark b) ≡ true → 0 < length a
passes [] b q some h = clash h (lt-leb (2 ^ 64 - 1) (next_mark b) (omega (arith, gno_top-is, low-mark b q (omega arith))))
passes (m ∷ a) b q some h = omega arith

fewer : (f g : Bool) (one two : Side) → (f ≡ true → 0 < one.left) → (g ≡ true → 0 < two.left) → (f ≡ false → g ≡ true)
    → (passed_side f one).left + (passed_side g two).left < one.left + two.left
fewer true true one two p q o = omega (arith, p refl, q refl)
fewer true false one two p q o = omega (arith, p refl)
fewer false true one two p q o = omega (arith, q refl)
fewer false false one two p q o = clash (o refl) refl

module _ (bs cs : List ℕ) (s : Sides) (i : SidesAre bs cs s) (some : 0 < left_of s)
    (m n : ℕ) (em : m ≡ next_mark (marks_of bs s.one)) (en : n ≡ next_mark (marks_of cs s.two)) where
  marked : 0 < length (marks_of bs s.one) + length (marks_of cs s.two)
  marked = omega (arith, marks-count s.one.left bs s.one.at, marks-count s.two.left cs s.two.at)

  pub pass-one : leb m n ≡ true → 0 < s.one.left
  pass-one h =
      omega (
        arith,
        marks-count s.one.left bs s.one.at,
        passes (marks_of bs s.one) (marks_of cs s.two) i.second.rises marked (rw (em, en) at h),
      )

  pub pass-two : leb n m ≡ true → 0 < s.two.left
  pass-two h =
      omega (
        arith,
        marks-count s.two.left cs s.two.at,
        passes (marks_of cs s.two) (marks_of bs s.one) i.first.rises (omega (arith, marked)) (rw (em, en) at h),
      )

  -- what the code makes of the next mark
  module _ (a b : Side) (ea : a ≡ passed_side (leb m n) s.one) (eb : b ≡ passed_side (leb n m) s.two) (l : ℕ) (el : l ≡ min m n) where
    goes : (op : Bool → Bool → Bool) → going op bs cs s ≡ mark (keeps_now op bs cs s) (keeps op (marks_of bs a) (marks_of cs b)) l
        (going op bs cs (record { one = a; two = b }))
    goes op =
        sweep-next op (marks_of bs s.one) (marks_of cs s.two) i.first.rises i.second.rises marked
        ∙ rw (← em, ← en, ← passed-marks bs (leb m n) s.one, ← passed-marks cs (leb n m) s.two, ← ea, ← eb, ← el)

    pub step_is : StepIs bs cs s (record { sides = record { one = a; two = b }; mark = l })
    step_is = record {
      goes = goes;
      sides = record {
        first = rw ea (passed-side bs (leb m n) s.one pass-one i.first);
        second = rw eb (passed-side cs (leb n m) s.two pass-two i.second);
      };
      less = rw (ea, eb) (fewer (leb m n) (leb n m) s.one s.two pass-one pass-two (λ h. le-leb n m (omega tests)));
    }

-- what an operation says before a mark and behind it
module _ (op : Bool → Bool → Bool) (bs cs : List ℕ) (s : Sides) where
  pub keeps-said : (x y kept : Bool) → x ≡ eqb (s.one.left % 2) 1 → y ≡ eqb (s.two.left % 2) 1 → kept ≡ op x y → kept ≡ keeps_now op bs cs s
  keeps-said x y kept ex ey e = e ∙ rw (ex ∙ marks-open s.one.left bs s.one.at, ey ∙ marks-open s.two.left cs s.two.at)

-- ---- up to the next mark of the result

-- tests of loops
pub some_left : (m n : ℕ) → ltb 0 m || ltb 0 n ≡ true → 0 < m + n
some_left m n h = split (ltb 0 m) (λ k. omega tests) (λ k. omega (arith, ltb-true 0 n (rw k at h)))

pub none_left : (m n : ℕ) → ltb 0 m || ltb 0 n ≡ false → (m ≡ 0) × (n ≡ 0)
none_left m n h = let (a, b) = or-false-parts (ltb 0 m) (ltb 0 n) h in (omega (arith, ltb-false 0 m a), omega (arith, ltb-false 0 n b))

-- marks that change nothing are passed
pub record Passing (op : Bool → Bool → Bool) (bs cs : List ℕ) (s left : Sides) : Type 0 where
  pub same : going op bs cs s ≡ going op bs cs left
  pub sides : SidesAre bs cs left
  pub fewer-left : left_of left ≤ left_of s

module _ (op : Bool → Bool → Bool) (bs cs : List ℕ) (s : Sides) where
  pub passing-none : SidesAre bs cs s → Passing op bs cs s s
  passing-none i = record { same = refl; sides = i; fewer-left = omega arith }

  module _ (left : Sides) (g : Passing op bs cs s left) where
    module _ (r : Step) (i : StepIs bs cs left r) (before behind : Bool) (p : before ≡ op (eqb (left.one.left % 2) 1) (eqb (left.two.left % 2) 1))
        (q : behind ≡ op (eqb (r.sides.one.left % 2) 1) (eqb (r.sides.two.left % 2) 1)) where
      goes-on : going op bs cs s ≡ mark before behind r.mark (going op bs cs r.sides)
      goes-on =
          g.same ∙ i.goes op
          ∙ rw (← keeps-said op bs cs left _ _ before refl refl p, ← keeps-said op bs cs r.sides _ _ behind refl refl q)

      pub passing-turn : before ≡ behind → Passing op bs cs s r.sides
      passing-turn e = record {
        same = goes-on ∙ rw e (mark-same behind r.mark (going op bs cs r.sides));
        sides = i.sides;
        fewer-left = omega (arith, g.fewer-left, i.less);
      }

      pub passing-found : (before ≡ behind → ⊥) → NextStep op bs cs s r
      passing-found h = record {
        goes = goes-on ∙ mark-turns before behind r.mark (going op bs cs r.sides) h;
        sides = i.sides;
        less = omega (arith, g.fewer-left, i.less);
      }

    pub passing-all : left.one.left ≡ 0 → left.two.left ≡ 0 → going op bs cs s ≡ []
    passing-all p q = g.same ∙ rw (p, q)

-- ---- all marks

-- so many of them are written, and the others are left
pub record Putting (op : Bool → Bool → Bool) (bs cs : List ℕ) (s : Sides) (l₀ : List ℕ) (at : ℕ) (left : Sides) (out : List ℕ) (count : ℕ) : Type 0 where
  pub whole : length (going op bs cs s) ≡ count + length (going op bs cs left)
  pub goes_on : (l : List ℕ) (r : ℕ) → WhereFits out (at + 8 * count) (marks_bytes (going op bs cs left)) l r
      → WhereFits l₀ at (marks_bytes (going op bs cs s)) l r
  pub sides : SidesAre bs cs left
  pub few : count + left_of left ≤ left_of s
  pub still : count ≡ 0 → out ≡ l₀

put-nothing : (l : List ℕ) (at : ℕ) → WhereFits l at (marks_bytes []) l at
unfolding marks_bytes
put-nothing l at = record { placed = λ _. nothing_placed l at }

-- a mark takes eight bytes
eight : {l l' : List ℕ} {at r : ℕ} (m : ℕ) → WhereFits l at (le_bytes 8 m) l' r → WhereFits l at (le_bytes 8 m) l' (at + 8)
eight m p = record { placed = λ room. record { holds = (p.placed room).holds; ends = rw (length-le_bytes 8 m) } }

module _ (op : Bool → Bool → Bool) (bs cs : List ℕ) (s : Sides) (l₀ : List ℕ) (at : ℕ) where
  pub putting-none : SidesAre bs cs s → Putting op bs cs s l₀ at s l₀ 0
  putting-none i =
      let z : at + 8 * 0 ≡ at = omega arith in
      record { whole = omega arith; goes_on = λ l r h. rw z at h; sides = i; few = omega arith; still = λ _. refl }

  module _ (left : Sides) (out : List ℕ) (count : ℕ) (g : Putting op bs cs s l₀ at left out count) where
    pub putting-turn : (next : Step) → NextStep op bs cs left next → (out' : List ℕ) (r : ℕ)
        → WhereFits out (at + 8 * count) (le_bytes 8 next.mark) out' r → Putting op bs cs s l₀ at next.sides out' (count + 1)
    unfolding marks_bytes
    putting-turn next i out' r p =
        let z : at + 8 * count + 8 ≡ at + 8 * (count + 1) = omega arith in
        record {
          whole = omega (arith, g.whole, ap length i.goes);
          goes_on = λ l q h. g.goes_on l q (rw i.goes (eight next.mark p also (rw (← z) at h)));
          sides = i.sides;
          few = omega (arith, g.few, i.less);
          still = λ y. absurd (omega arith);
        }

    pub putting-all : going op bs cs left ≡ [] → MarksPut (going op bs cs s) (left_of s) l₀ at out count
    putting-all none = record {
      counted = omega (arith, g.whole, ap length none);
      few = omega (arith, g.few);
      fits = g.goes_on out (at + 8 * count) (rw none (put-nothing out (at + 8 * count)));
      none = g.still;
    }

-- ---- a key that only one of the sets has

mark-alone : (o k : Bool) (m : ℕ) (ms : List ℕ) → mark (not o && k) (o && k) m (all_if k ms) ≡ all_if k (m ∷ ms)
mark-alone true true m ms = refl
mark-alone true false m ms = refl
mark-alone false true m ms = refl
mark-alone false false m ms = refl

module _ (op : Bool → Bool → Bool) (none : op false false ≡ false) where
  op-first : (x : Bool) → op x false ≡ x && op true false
  op-first true = refl
  op-first false = none

  op-second : (y : Bool) → op false y ≡ y && op false true
  op-second true = refl
  op-second false = none

  alone-first : (a : List ℕ) → sweep op a [] ≡ all_if (op true false) a
  alone-first [] = go (op true false)
    where
      go : (k : Bool) → [] ≡ all_if k []
      go true = refl
      go false = refl
  alone-first (m ∷ a) =
      rw (op-first (not (is_open a)), op-first (is_open a), alone-first a) (mark-alone (is_open a) (op true false) m a)

  alone-second : (b : List ℕ) → sweep op [] b ≡ all_if (op false true) b
  alone-second [] = go (op false true)
    where
      go : (k : Bool) → [] ≡ all_if k []
      go true = refl
      go false = refl
  alone-second (n ∷ b) =
      rw (op-second (not (is_open b)), op-second (is_open b), alone-second b) (mark-alone (is_open b) (op false true) n b)

  module _ (bs cs : List ℕ) (s : Sides) (kept : Bool) where
    pub only-first : s.two.left ≡ 0 → kept ≡ op true false → all_if kept (marks_of bs s.one) ≡ going op bs cs s
    only-first z e = rw (e, z) (sym (alone-first (marks_of bs s.one)))

    pub only-second : s.one.left ≡ 0 → kept ≡ op false true → all_if kept (marks_of cs s.two) ≡ going op bs cs s
    only-second z e = rw (e, z) (sym (alone-second (marks_of cs s.two)))

-- marks that stand in bytes are written as they stand
marks-stand : (bs : List ℕ) → Bytes bs → (n at : ℕ) → at + 8 * n ≤ length bs → marks_bytes (marks_at n bs at) ≡ part bs at (8 * n)
unfolding marks_bytes
marks-stand bs ok zero at h = refl
marks-stand bs ok (suc n) at h =
    let size : 8 * suc n ≡ 8 + 8 * n = omega arith in
    rw (number-stands bs ok at (omega arith), marks-stand bs ok n (at + 8) (omega arith), size) (sym (part-two bs at 8 (8 * n)))
  where
    part-two : (l : List ℕ) (at m n : ℕ) → part l at (m + n) ≡ part l at m ++ part l (at + m) n
    part-two l at m n = take-add m n (drop at l) ∙ rw (drop-drop m at l)

module _ (bs : List ℕ) (s : Side) (i : SideIs bs s) (out : List ℕ) (at : ℕ) (kept : Bool) where
  pub none_kept : kept ≡ false → MarksPut (all_if kept (marks_of bs s)) s.left out at out 0
  none_kept e =
      let z : at + 8 * 0 ≡ at = omega arith in
      rw e (record { counted = refl; few = omega arith; fits = rw z (put-nothing out at); none = λ _. refl })

  pub all-kept : kept ≡ true → Bytes bs → (out' : List ℕ) (r : ℕ) → WhereFits out at (part bs s.at (8 * s.left)) out' r
      → out' ≡ put_at out at (part bs s.at (8 * s.left)) → MarksPut (all_if kept (marks_of bs s)) s.left out at out' s.left
  all-kept e ok out' r p is = rw e (record {
    counted = sym (marks-count s.left bs s.at);
    few = omega arith;
    fits = rw (marks-stand bs ok s.left s.at i.there)
        (record {
          placed = λ room. record { holds = (p.placed room).holds; ends = rw (part_length (8 * s.left) bs s.at i.there) };
        });
    none = λ z. let nothing : part bs s.at (8 * s.left) ≡ [] = rw z in is ∙ rw nothing (sym (output.put-nothing out at).1);
  })

-- the same marks
pub marks-are : {ms ns l l' : List ℕ} {m n at r : ℕ} → ms ≡ ns → m ≤ n → MarksPut ms m l at l' r → MarksPut ns n l at l' r
marks-are e more h = rw (← e) (record { counted = h.counted; few = omega (arith, h.few); fits = h.fits; none = h.none })
