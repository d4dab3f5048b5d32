-- The statements of `specs/Heads.antt`.
use Prim.Native.Nat.{ℕ}
use mathlib.Core.Path.{◌≡◌, refl, sym, ap, ◌∙◌}
use mathlib.Core.Bool.{Bool, true, false}
use mathlib.Core.List.{List, [], ◌++◌}
use native.Mathlib.Omega.{arith}
use lib.ListN.{length, length-append}
use Rattle.misc.specs.Pick.{pick}
use Rattle.misc.specs.declared.refusal.Refusal.{Refusal}
use Rattle.misc.specs.Refusal.{number, not_a_set, diverged}
use Rattle.packets.proofs.Tests.{split, clash}
use Rattle.previous_gtids_event.specs.Entry.{Entry}
use Rattle.previous_gtids_event.specs.Rewrite.{entries_bytes, any_tag, header_bytes, body_bytes}
use Rattle.previous_gtids_event.proofs.Writing.{length-header}
use Rattle.gtid_sets.specs.Set.{has, SetForm}
use Rattle.gtid_sets.specs.Lent.{Lent, form, unfit, lent_set, SetLaid}
use Rattle.gtid_sets.specs.Combine.{either, subset}
use Rattle.gtid_sets.proofs.LentLaws.{lent_is, is-lent}
use Rattle.gtid_sets.proofs.SetLaws.{set-unique}
use Rattle.gtid_sets.proofs.CombineLaws.{subset-says, subset-from}
use Rattle.two_sets.specs.Answers.{head_read, which_answers, part_of}
use Rattle.two_sets.specs.declared.Choice.{Choice}
use Rattle.two_sets.specs.declared.Choice.TheVariants.{First, Second}
use Rattle.std.specs.Prelude.{Result, Ok, Err}
use Rattle.promises.specs.Exact.{Exactly, IsRefusal}
use Rattle.promises.specs.TwoSets.{Keeps, Contains, PairFault, ResultAs}
use Rattle.promises.specs.Heads.{HeadFault, HeadAnswer, ChoosesExactly, HandedBack, HandsExactly, our_head, Heads}
use Rattle.promises.proofs.Numbers.{same_number}
use Rattle.promises.proofs.SetsExact.{apart, unfit-fault}
use Rattle.promises.proofs.TwoSetsHold.{pair-unfit, lacking, not_within}

-- ---- an answer has its case, and a case forces its answer

module _ (first second : List ℕ) where
  lent-as : (s t : List Entry) → SetForm s → SetForm t → SetLaid first s → SetLaid second t → HeadAnswer first second (head_read (form s) (form t))
  lent-as s t f g i j = split (subset t s)
      (λ all. rw all (HeadAnswer.first i j (subset-says t s g f all)))
      (λ no. split (subset s t)
      (λ all. rw (no, all) (HeadAnswer.second i j (lacking t s g f no) (subset-says s t f g all)))
      (λ neither. rw (no, neither) (HeadAnswer.refused (HeadFault.apart i j (lacking s t f g neither) (lacking t s g f no)))))

  found : (x y : Lent) → lent_set first ≡ x → lent_set second ≡ y → HeadAnswer first second (head_read x y)
  found unfit y p q = HeadAnswer.refused (HeadFault.bad_set (PairFault.bad_first (unfit-fault first p)))
  found (form s) unfit p q = HeadAnswer.refused (HeadFault.bad_set (PairFault.bad_second (lent_is first s p) (unfit-fault second q)))
  found (form s) (form t) p q =
      let i = lent_is first s p in
      let j = lent_is second t q in
      lent-as s t i.formed j.formed i j

  answered : HeadAnswer first second (which_answers first second)
  answered = found (lent_set first) (lent_set second) refl refl

  fault-forced : (n : ℕ) → HeadFault first second n → (x : Refusal) × (number x ≡ n) × (which_answers first second ≡ Err x)
  fault-forced n (HeadFault.bad_set fault) =
      pair-unfit first second n fault (λ this p. (not_a_set, sym this, rw p)) (λ this s p q. (not_a_set, sym this, rw (p, q)))
  fault-forced n (HeadFault.apart {s = s} {t = t} i j one two) = (
    diverged,
    refl,
    rw (is-lent first s i, is-lent second t j, not_within t s j.formed i.formed two, not_within s t i.formed j.formed one),
  )

  forced : (r : Result Choice Refusal) → HeadAnswer first second r → which_answers first second ≡ r
  forced r (HeadAnswer.refused {r = y} fault) = let (x, is, e) = fault-forced (number y) fault in e ∙ ap Err (same_number x y is)
  forced r (HeadAnswer.first {s = s} {t = t} i j all) = rw (is-lent first s i, is-lent second t j, subset-from t s j.formed i.formed all)
  forced r (HeadAnswer.second {s = s} {t = t} i j lacks all) =
      rw (is-lent first s i, is-lent second t j, not_within t s j.formed i.formed lacks, subset-from s t i.formed j.formed all)

  -- a refusal has its fault
  fault-of : (x : Refusal) (r : Result Choice Refusal) → HeadAnswer first second r → r ≡ Err x → HeadFault first second (number x)
  fault-of x r (HeadAnswer.refused {r = y} fault) e = let same : y ≡ x = cc in rw (← same) fault
  fault-of x r (HeadAnswer.first i j all) e = apart cc
  fault-of x r (HeadAnswer.second i j lacks all) e = apart cc

pub chooses-exactly : ChoosesExactly which_answers
chooses-exactly first second r = (λ is. rw is at (answered first second), forced first second r)

head-number : (first second : List ℕ) (n : ℕ) → HeadFault first second n → IsRefusal n
head-number first second n fault = let (x, is, _) = fault-forced first second n fault in (x, is)

-- ---- what is handed back

module _ (first second : List ℕ) (p q : ℕ × ℕ) where
  handed : (r : Result Choice Refusal) → HeadAnswer first second r → which_answers first second ≡ r
      → HandedBack first second p q (our_head.part first second) (our_head.place first second p q)
  handed (Ok First) is e = rw e (HandedBack.first is)
  handed (Ok Second) is e = rw e (HandedBack.second is)
  handed (Err x) is e = rw e (HandedBack.none (fault-of first second x (Err x) is refl))

  back-forced : (bs : List ℕ) (at : ℕ × ℕ) → HandedBack first second p q bs at → (our_head.part first second ≡ bs) × (our_head.place first second p q ≡ at)
  back-forced bs at (HandedBack.first is) = rw (forced first second (Ok First) is) (refl, refl)
  back-forced bs at (HandedBack.second is) = rw (forced first second (Ok Second) is) (refl, refl)
  back-forced bs at (HandedBack.none {n = n} fault) = let (_, _, e) = fault-forced first second n fault in rw e (refl, refl)

pub hands-exactly : HandsExactly our_head
hands-exactly first second p q bs at = (
  λ (is, stands). rw (is, stands) at (handed first second p q (which_answers first second) (answered first second) refl),
  back-forced first second p q bs at,
)

-- which is chosen, by whether the first contains the second, and whether the second contains it
abbrev chosen : Bool → Bool → Result Choice Refusal
chosen b c = pick b (Ok First) (pick c (Ok Second) (Err diverged))

-- ---- what follows

absorbs : (x y : Bool) → (y ≡ true → x ≡ true) → x ≡ either x y
absorbs true y h = refl
absorbs false true h = clash (h refl) refl
absorbs false false h = refl

absorbed : (x y : Bool) → (x ≡ true → y ≡ true) → y ≡ either x y
absorbed true y h = h refl
absorbed false y h = refl

module _ (first second : List ℕ) where
  module _ {s t : List Entry} (i : SetLaid first s) (j : SetLaid second t) where
    first-united : Contains s t → ResultAs either first second first
    first-united all =
        let keeps : Keeps either s t s = record { formed = i.formed; members = λ k n. absorbs (has s k n) (has t k n) (all k n) } in
        rw (← i.written) at (ResultAs.kept i j keeps i.limited)

    second-united : Contains t s → ResultAs either first second second
    second-united all =
        let keeps : Keeps either s t t = record { formed = j.formed; members = λ k n. absorbed (has s k n) (has t k n) (all k n) } in
        rw (← j.written) at (ResultAs.kept i j keeps j.limited)

  is-united : (r : Result Choice Refusal) → HeadAnswer first second r
      → (r ≡ Ok First → ResultAs either first second first) × (r ≡ Ok Second → ResultAs either first second second)
  is-united r (HeadAnswer.refused fault) = (λ e. apart cc, λ e. apart cc)
  is-united r (HeadAnswer.first i j all) = (λ _. first-united i j all, λ e. apart cc)
  is-united r (HeadAnswer.second i j lacks all) = (λ e. apart cc, λ _. second-united i j all)

  -- a set has bytes
  not-empty : (set : List ℕ) (s : List Entry) → SetLaid set s → set ≡ [] → ⊥
  unfolding body_bytes
  not-empty set s i none =
      let size : length (header_bytes (any_tag s) (length s) ++ entries_bytes (any_tag s) s) ≡ 0 = ap length (sym i.written ∙ none) in
      omega (arith, size, length-append (header_bytes (any_tag s) (length s)) (entries_bytes (any_tag s) s), length-header (any_tag s) (length s))

  none-exactly : Exactly (our_head.part first second ≡ []) ((n : ℕ) × HeadFault first second n)
  none-exactly = (
    λ e. go (which_answers first second) (answered first second) e,
    λ (n, fault). let (_, _, e) = fault-forced first second n fault in rw e,
  )
    where
      go : (r : Result Choice Refusal) → HeadAnswer first second r → part_of r first second ≡ [] → (n : ℕ) × HeadFault first second n
      go r (HeadAnswer.refused {r = x} fault) e = (number x, fault)
      go r (HeadAnswer.first {s = s} i j all) e = absurd (not-empty first s i e)
      go r (HeadAnswer.second {t = t} i j lacks all) e = absurd (not-empty second t j e)

  same-part : our_head.part first second ≡ our_head.part second first
  same-part = go (lent_set first) (lent_set second) refl refl
    where
      alike : (s t : List Entry) → SetLaid first s → SetLaid second t → subset t s ≡ true → subset s t ≡ true → first ≡ second
      alike s t i j p q =
          let same_set : s ≡ t = set-unique s t i.formed j.formed (λ k n. one_truth (has s k n) (has t k n)
          (subset-says s t i.formed j.formed q k n) (subset-says t s j.formed i.formed p k n)) in
          i.written ∙ ap body_bytes same_set ∙ sym j.written
        where
          one_truth : (x y : Bool) → (x ≡ true → y ≡ true) → (y ≡ true → x ≡ true) → x ≡ y
          one_truth true y h k = sym (h refl)
          one_truth false true h k = k refl
          one_truth false false h k = refl

      chosen-part : (b c : Bool) → (b ≡ true → c ≡ true → first ≡ second) → part_of (chosen b c) first second ≡ part_of (chosen c b) second first
      chosen-part true true h = h refl refl
      chosen-part true false h = refl
      chosen-part false true h = refl
      chosen-part false false h = refl

      go : (x y : Lent) → lent_set first ≡ x → lent_set second ≡ y → part_of (head_read x y) first second ≡ part_of (head_read y x) second first
      go unfit unfit p q = refl
      go unfit (form t) p q = refl
      go (form s) unfit p q = refl
      go (form s) (form t) p q = chosen-part (subset t s) (subset s t) (alike s t (lent_is first s p) (lent_is second t q))

pub heads : Heads
heads = record {
  which = chooses-exactly;
  head = hands-exactly;
  faults = head-number;
  united_first = λ first second is. (is-united first second (Ok First) is).0 refl;
  united_second = λ first second is. (is-united first second (Ok Second) is).1 refl;
  empty = none-exactly;
  turned = same-part;
  gtid_head = λ r. (refl, refl, refl);
}
