-- Laws of ids that one of two sets has and the other lacks.
use Prim.Native.Nat.{ℕ, zero, suc, ◌+◌, ◌%◌, ◌<◌}
use mathlib.Core.Path.{◌≡◌, refl, sym, ◌∙◌}
use mathlib.Core.Logic.{◌⊎◌, inl, inr}
use mathlib.Core.Bool.{Bool, true, false, not, ◌&&◌, ◌||◌, and-true}
use mathlib.Core.List.{List, [], ◌∷◌}
use native.Mathlib.Omega.{arith}
use lib.Dec.{ltb, eqb}
use borrow.Author.Tests.{ltb-true, ltb-false, lt-ltb}
use Rattle.packets.specs.Key.{Key}
use Rattle.packets.proofs.Tests as tests
use Rattle.packets.proofs.Tests.{split, clash}
use Rattle.previous_gtids_event.specs.Entry.{Entry}
use Rattle.gtid_sets.specs.Set.{has, SetForm}
use Rattle.gtid_sets.specs.Combine.{without, is_open, spans, mark, keep, combined, is_empty}
use Rattle.gtid_sets.proofs.Bools.{or-false-parts}
use Rattle.gtid_sets.proofs.SweepLaws.{sweep-open}
use Rattle.gtid_sets.proofs.CombineLaws.{is-combined, combined-swap}
use Rattle.set_check.specs.Places.{entries_at}
use Rattle.two_sets.specs.Marks.{marks_at, marks_of, going, any_mark, all_if, Shut, SidesAre, keeps_now, StepIs}
use Rattle.set_check.specs.Cursor.{entries_left}
use Rattle.two_sets.specs.Pairs.{CursorsAre, combining, key_in, PairIs}
use Rattle.two_sets.specs.Differ.{back, found, own_marks, own_ids}
use Rattle.two_sets.specs.declared.Sides.{Sides}
use Rattle.two_sets.specs.declared.Step.{Step}
use Rattle.two_sets.specs.declared.Cursors.{Cursors}
use Rattle.two_sets.specs.declared.Pair.{Pair}
use Rattle.two_sets.specs.declared.Own.{Own}
use Rattle.two_sets.proofs.MarkLaws.{keeps-said, only-first, only-second}

-- both are told
both_told : {x y z w : Bool} → x ≡ y → z ≡ w → ◌≡◌ {A = Own} (record { first = x; second = z }) (record { first = y; second = w })
both_told p q = rw (p, q)

-- nothing can be found besides where both have been
both_found : (o : Own) (x y : Bool) → o.first && o.second ≡ true → o ≡ found o x y
both_found o x y h =
    let (p, q) = tests.and-true o.first o.second h in
    both_told (p ∙ sym (rw p)) (q ∙ sym (rw q))

-- a loop goes on while both have something left, and ends where one hasn't
pub both_left : (m n : ℕ) → ltb 0 m && ltb 0 n ≡ true → 0 < m + n
both_left m n h = omega (arith, ltb-true 0 m (tests.and-true (ltb 0 m) (ltb 0 n) h).0)

one_ended : (m n : ℕ) → ltb 0 m && ltb 0 n ≡ false → (m ≡ 0) ⊎ (n ≡ 0)
one_ended m n h = split (ltb 0 m)
    (λ k. inr (omega (arith, ltb-false 0 n (rw k at h))))
    (λ k. inl (omega (arith, ltb-false 0 m k)))

-- ---- by the marks of a key

-- a mark behind which numbers are kept, where none were before it, is one of the result
mark-seen : (seen z z' : Bool) (m : ℕ) (ms : List ℕ) → (seen ≡ false → z ≡ false) → seen || any_mark (mark z z' m ms) ≡ (seen || z') || any_mark ms
mark-seen true z z' m ms shut = refl
mark-seen false z true m ms shut = rw (shut refl)
mark-seen false z false m ms shut = rw (shut refl)

-- so of a step, for any operation
step-seen : (bs cs : List ℕ) (left : Sides) (r : Step) → StepIs bs cs left r → (op : Bool → Bool → Bool) (seen : Bool)
    → (seen ≡ false → keeps_now op bs cs left ≡ false) → (z : Bool) → z ≡ keeps_now op bs cs r.sides
    → seen || any_mark (going op bs cs left) ≡ (seen || z) || any_mark (going op bs cs r.sides)
step-seen bs cs left r i op seen shut z e =
    rw (i.goes op, e) (mark-seen seen (keeps_now op bs cs left) (keeps_now op bs cs r.sides) r.mark (going op bs cs r.sides) shut)

-- what is found of all marks is what was found and what is found of those that are left
pub record Seeing (bs cs : List ℕ) (s : Sides) (seen : Own) (left : Sides) (own : Own) : Type 0 where
  pub same : own_marks bs cs s seen ≡ own_marks bs cs left own
  pub sides : SidesAre bs cs left
  pub shut-first : own.first ≡ false → keeps_now without bs cs left ≡ false
  pub shut-second : own.second ≡ false → keeps_now back bs cs left ≡ false

or-not : (x y z : Bool) → x || not (not y && z) ≡ (x || y) || not z
or-not true y z = refl
or-not false true z = refl
or-not false false z = refl

marks-any : (k : Bool) (n : ℕ) (bs : List ℕ) (at : ℕ) → any_mark (all_if k (marks_at n bs at)) ≡ k && ltb 0 n
marks-any true zero bs at = refl
marks-any true (suc n) bs at = sym (lt-ltb 0 (suc n) (omega arith))
marks-any false n bs at = refl

-- only one side has marks
rest-marks : (bs cs : List ℕ) (s : Sides) (o : Own) → (s.one.left ≡ 0) ⊎ (s.two.left ≡ 0)
    → found o (ltb 0 s.one.left) (ltb 0 s.two.left) ≡ own_marks bs cs s o
rest-marks bs cs s o (inl z) =
    rw (← only-second without refl bs cs s false z refl, ← only-second back refl bs cs s true z refl, z, marks-any true s.two.left cs s.two.at)
rest-marks bs cs s o (inr z) =
    rw (← only-first without refl bs cs s true z refl, ← only-first back refl bs cs s false z refl, z, marks-any true s.one.left bs s.one.at)

module _ (bs cs : List ℕ) (s : Sides) (seen : Own) where
  pub seeing-none : SidesAre bs cs s → Shut bs cs s → Seeing bs cs s seen s seen
  seeing-none i shut = record {
    same = refl;
    sides = i;
    shut-first = λ _. sym (sweep-open without refl (marks_of bs s.one) (marks_of cs s.two)) ∙ shut without refl;
    shut-second = λ _. sym (sweep-open back refl (marks_of bs s.one) (marks_of cs s.two)) ∙ shut back refl;
  }

  module _ (left : Sides) (own : Own) (g : Seeing bs cs s seen left own) where
    pub seeing-turn : (r : Step) → StepIs bs cs left r → (x y : Bool) → x ≡ eqb (r.sides.one.left % 2) 1 → y ≡ eqb (r.sides.two.left % 2) 1
        → (own' : Own) → own' ≡ found own (x && not y) (y && not x) → Seeing bs cs s seen r.sides own'
    seeing-turn r i x y ex ey own' is =
        let first : x && not y ≡ keeps_now without bs cs r.sides = keeps-said without bs cs r.sides x y (x && not y) ex ey refl in
        let second : y && not x ≡ keeps_now back bs cs r.sides = keeps-said back bs cs r.sides x y (y && not x) ex ey refl in
        let one = step-seen bs cs left r i without own.first g.shut-first (x && not y) first in
        let two = step-seen bs cs left r i back own.second g.shut-second (y && not x) second in
        rw is
        (record {
          same = g.same ∙ both_told one two;
          sides = i.sides;
          shut-first = λ h. sym first ∙ (or-false-parts own.first (x && not y) h).1;
          shut-second = λ h. sym second ∙ (or-false-parts own.second (y && not x) h).1;
        })

    pub seeing-both : own.first && own.second ≡ true → own ≡ own_marks bs cs s seen
    seeing-both h = both_found own _ _ h ∙ sym g.same

    pub seeing-all : ltb 0 left.one.left && ltb 0 left.two.left ≡ false
        → found own (ltb 0 left.one.left) (ltb 0 left.two.left) ≡ own_marks bs cs s seen
    seeing-all h = rest-marks bs cs left own (one_ended left.one.left left.two.left h) ∙ sym g.same

-- ---- by entries

-- marks make an entry that isn't empty
not-empty : (k : Key) (ms : List ℕ) (s : List Entry) → is_open ms ≡ false → is_empty (keep k (spans ms) s) ≡ not (any_mark ms) && is_empty s
not-empty k [] s h = refl
not-empty k (x ∷ []) s h = clash refl h
not-empty k (x ∷ y ∷ ms) s h = refl

some-entries : (n : ℕ) (w : Bool) (bs : List ℕ) (at : ℕ) → not (is_empty (entries_at n w bs at)) ≡ ltb 0 n
some-entries zero w bs at = refl
some-entries (suc n) w bs at = sym (lt-ltb 0 (suc n) (omega arith))

module _ (s : List Entry) (f : SetForm s) where
  nothing_left : combined without [] s ≡ []
  nothing_left = sym (is-combined without refl [] s [] tt f tt (λ k n. refl))

  all_left : combined without s [] ≡ s
  all_left = sym (is-combined without refl s [] s f tt f (λ k n. sym (and-true (has s k n))))

  all_back : combined back [] s ≡ s
  all_back = sym (combined-swap without refl s [] f tt) ∙ all_left

  none-back : combined back s [] ≡ []
  none-back = sym (combined-swap without refl [] s tt f) ∙ nothing_left

-- only one set has entries
rest-ids : (bs cs : List ℕ) (c : Cursors) (o : Own) → CursorsAre bs cs c → (c.first.left ≡ 0) ⊎ (c.second.left ≡ 0)
    → found o (ltb 0 c.first.left) (ltb 0 c.second.left) ≡ own_ids bs cs c o
rest-ids bs cs c o i (inl z) =
    let t = entries_left cs c.second in
    rw (z, nothing_left t i.second.formed, all_back t i.second.formed, some-entries c.second.left c.second.tagged cs c.second.at)
rest-ids bs cs c o i (inr z) =
    let s = entries_left bs c.first in
    rw (z, none-back s i.first.formed, all_left s i.first.formed, some-entries c.first.left c.first.tagged bs c.first.at)

-- what is found of all entries is what was found and what is found of those that are left
pub record Walking (bs cs : List ℕ) (from : Cursors) (seen : Own) (left : Cursors) (own : Own) : Type 0 where
  pub same : own_ids bs cs from seen ≡ own_ids bs cs left own
  pub cursors : CursorsAre bs cs left

module _ (bs cs : List ℕ) (from : Cursors) (seen : Own) where
  pub walking-none : CursorsAre bs cs from → Walking bs cs from seen from seen
  walking-none i = record { same = refl; cursors = i }

  module _ (left : Cursors) (own : Own) (g : Walking bs cs from seen left own) where
    module _ (r : Pair) (i : PairIs bs cs left r) where
      key-found : (op : Bool → Bool → Bool) → op false false ≡ false → (x : Bool)
          → x || not (is_empty (combining op bs cs left)) ≡ (x || any_mark (going op bs cs r.sides)) || not (is_empty (combining op bs cs r.after))
      key-found op none x =
          rw (i.goes op, not-empty (key_in bs cs r.key) (going op bs cs r.sides) (combining op bs cs r.after) (i.shut op none))
          (or-not x (any_mark (going op bs cs r.sides)) (is_empty (combining op bs cs r.after)))

      pub walking-turn : (own' : Own) → own' ≡ own_marks bs cs r.sides own → Walking bs cs from seen r.after own'
      walking-turn own' e = record {
        same = g.same ∙ both_told (key-found without refl own.first) (key-found back refl own.second) ∙ rw e;
        cursors = i.after;
      }

      pub walking-both : (own' : Own) → own' ≡ own_marks bs cs r.sides own → own'.first && own'.second ≡ true → own' ≡ own_ids bs cs from seen
      walking-both own' e h = both_found own' _ _ h ∙ sym (walking-turn own' e).same

    pub walking-all : ltb 0 left.first.left && ltb 0 left.second.left ≡ false
        → found own (ltb 0 left.first.left) (ltb 0 left.second.left) ≡ own_ids bs cs from seen
    walking-all h = rest-ids bs cs left own g.cursors (one_ended left.first.left left.second.left h) ∙ sym g.same
