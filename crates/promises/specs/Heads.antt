-- Two heads, one answer (CR 9): which of two sets contains the other, and what is handed back. Each answer by its case, both ways, over members; and by what
-- `either` gives.
use Rattle.std.specs.Prelude.{ℕ, ◌≡◌, List, [], Result, Ok, Err}
use Rattle.misc.specs.declared.refusal.Refusal.{Refusal}
use Rattle.misc.specs.Refusal.{number}
use Rattle.previous_gtids_event.specs.Entry.{Entry}
use Rattle.gtid_sets.specs.Lent.{SetLaid}
use Rattle.gtid_sets.specs.Combine.{either}
use Rattle.two_sets.specs.Answers.{which_answers, part_of, place_of}
use Rattle.two_sets.specs.declared.Choice.{Choice}
use Rattle.two_sets.specs.declared.Choice.TheVariants.{First, Second}
use Rattle.abi.specs.Answers.{head_numbers}
use Rattle.promises.specs.Exact.{Exactly, IsRefusal}
use Rattle.promises.specs.TwoSets.{Contains, Lacks, PairFault, ResultAs}

-- ---- which one

pub data HeadFault (first second : List ℕ) : ℕ → Type 0 where
  bad_set : {n : ℕ} → PairFault first second n → HeadFault first second n
  -- 22: each has an id that the other lacks
  apart : {s t : List Entry} → SetLaid first s → SetLaid second t → Lacks t s → Lacks s t → HeadFault first second 22

pub data HeadAnswer (first second : List ℕ) : Result Choice Refusal → Type 0 where
  refused : {r : Refusal} → HeadFault first second (number r) → HeadAnswer first second (Err r)
  -- the first contains the second, whether the second contains it or not
  first : {s t : List Entry} → SetLaid first s → SetLaid second t → Contains s t → HeadAnswer first second (Ok First)
  -- it doesn't, and the second contains it
  second : {s t : List Entry} → SetLaid first s → SetLaid second t → Lacks s t → Contains t s → HeadAnswer first second (Ok Second)

abbrev pub ChoosesExactly : (List ℕ → List ℕ → Result Choice Refusal) → Type 0
ChoosesExactly f = (first second : List ℕ) (r : Result Choice Refusal) → Exactly (f first second ≡ r) (HeadAnswer first second r)

-- ---- what is handed back: bytes, and their place in memory, where the lent ones have the places p and q

pub data HandedBack (first second : List ℕ) (p q : ℕ × ℕ) : List ℕ → ℕ × ℕ → Type 0 where
  -- the one that is lent, whole
  first : HeadAnswer first second (Ok First) → HandedBack first second p q first p
  second : HeadAnswer first second (Ok Second) → HandedBack first second p q second q
  -- nothing, at the first's beginning
  none : {n : ℕ} → HeadFault first second n → HandedBack first second p q [] p

-- such a call: lent two sets, which bytes and which place it hands back
pub record Handing : Type 0 where
  pub part : List ℕ → List ℕ → List ℕ
  pub place : List ℕ → List ℕ → ℕ × ℕ → ℕ × ℕ → ℕ × ℕ

abbrev pub HandsExactly : Handing → Type 0
HandsExactly f = (first second : List ℕ) (p q : ℕ × ℕ) (bs : List ℕ) (at : ℕ × ℕ)
    → Exactly ((f.part first second ≡ bs) × (f.place first second p q ≡ at)) (HandedBack first second p q bs at)

-- what `head` promises
abbrev pub our_head : Handing
our_head = record {
  part = λ first second. part_of (which_answers first second) first second;
  place = λ first second p q. place_of (which_answers first second) p q;
}

-- ---- together

pub record Heads : Type 0 where
  pub which : ChoosesExactly which_answers
  pub head : HandsExactly our_head
  -- whatever is wrong with two sets has an answer: a refusal's number
  pub faults : (first second : List ℕ) (n : ℕ) → HeadFault first second n → IsRefusal n
  -- what is handed back is the set of the ids in either
  pub united_first : (first second : List ℕ) → HeadAnswer first second (Ok First) → ResultAs either first second first
  pub united_second : (first second : List ℕ) → HeadAnswer first second (Ok Second) → ResultAs either first second second
  -- nothing is handed back exactly with a refusal, so that no other sign of it is needed
  pub empty : (first second : List ℕ) → Exactly (our_head.part first second ≡ []) ((n : ℕ) × HeadFault first second n)
  -- the same bytes, whichever is lent first
  pub turned : (first second : List ℕ) → our_head.part first second ≡ our_head.part second first
  -- the archive's numbers: the refusal, and 1 for the first, 2 for the second
  pub gtid_head : (r : Refusal) → (head_numbers (Ok First) ≡ record { refusal = 0; head = 1 }) × (head_numbers (Ok Second) ≡ record { refusal = 0; head = 2 })
      × (head_numbers (Err r) ≡ record { refusal = number r; head = 0 })
