-- The marks of two entries, as they stand in the bytes of two sets, and how the sweep goes over them.
use Rattle.std.specs.Prelude.{ℕ, zero, suc, ◌+◌, ◌-◌, ◌*◌, ◌^◌, ◌<◌, ◌≤◌, ◌≡◌, Bool, true, false, List, [], ◌∷◌, ◌++◌, length, Option, Some, None}
use Rattle.misc.specs.Le.{le_bytes, number_at}
use Rattle.misc.specs.Output.{WhereFits}
use Rattle.gtid_sets.specs.Combine.{is_open, mark, keeps, sweep, Rising}
use Rattle.two_sets.specs.declared.Side.{Side}
use Rattle.two_sets.specs.declared.Sides.{Sides}
use Rattle.two_sets.specs.declared.Step.{Step}

-- n numbers from a place on
abbrev pub marks_at : ℕ → List ℕ → ℕ → List ℕ
marks_at zero bs at = []
marks_at (suc n) bs at = number_at bs at ∷ marks_at n bs (at + 8)

abbrev pub marks_of : List ℕ → Side → List ℕ
marks_of bs s = marks_at s.left bs s.at

-- the first mark, or a number above all
abbrev pub next_mark : List ℕ → ℕ
next_mark [] = 2 ^ 64 - 1
next_mark (m ∷ ms) = m

abbrev pub passed_side : Bool → Side → Side
passed_side true s = record { at = s.at + 8; left = s.left - 1 }
passed_side false s = s

abbrev pub left_of : Sides → ℕ
left_of s = s.one.left + s.two.left

-- the marks of the result that are left
abbrev pub going : (Bool → Bool → Bool) → List ℕ → List ℕ → Sides → List ℕ
going op bs cs s = sweep op (marks_of bs s.one) (marks_of cs s.two)

-- no number before the first mark is kept, whatever the operation
abbrev pub Shut : List ℕ → List ℕ → Sides → Type 0
Shut bs cs s = (op : Bool → Bool → Bool) → op false false ≡ false → is_open (going op bs cs s) ≡ false

-- whether there is a mark
abbrev pub any_mark : List ℕ → Bool
any_mark [] = false
any_mark (m ∷ ms) = true

-- all marks, or none
abbrev pub all_if : Bool → List ℕ → List ℕ
all_if true ms = ms
all_if false ms = []

-- marks stand there, and rise
pub record SideIs (bs : List ℕ) (s : Side) : Type 0 where
  pub there : s.at + 8 * s.left ≤ length bs
  pub rises : Rising 0 (marks_of bs s)

pub record SidesAre (bs cs : List ℕ) (s : Sides) : Type 0 where
  pub first : SideIs bs s.one
  pub second : SideIs cs s.two

-- whether the numbers before the next mark are kept
abbrev pub keeps_now : (Bool → Bool → Bool) → List ℕ → List ℕ → Sides → Bool
keeps_now op bs cs s = keeps op (marks_of bs s.one) (marks_of cs s.two)

-- one mark is passed, whatever is kept
pub record StepIs (bs cs : List ℕ) (s : Sides) (r : Step) : Type 0 where
  pub goes : (op : Bool → Bool → Bool) → going op bs cs s ≡ mark (keeps_now op bs cs s) (keeps_now op bs cs r.sides) r.mark (going op bs cs r.sides)
  pub sides : SidesAre bs cs r.sides
  pub less : left_of r.sides < left_of s

-- marks are passed up to the next one of the result
pub record NextStep (op : Bool → Bool → Bool) (bs cs : List ℕ) (s : Sides) (r : Step) : Type 0 where
  pub goes : going op bs cs s ≡ r.mark ∷ going op bs cs r.sides
  pub sides : SidesAre bs cs r.sides
  pub less : left_of r.sides < left_of s

-- or all of them
abbrev pub NextIs : (Bool → Bool → Bool) → List ℕ → List ℕ → Sides → Option Step → Type 0
NextIs op bs cs s None = going op bs cs s ≡ []
NextIs op bs cs s (Some r) = NextStep op bs cs s r

-- ---- writing

unfoldable pub marks_bytes : List ℕ → List ℕ
marks_bytes [] = []
marks_bytes (m ∷ ms) = le_bytes 8 m ++ marks_bytes ms

-- marks are written from a place on, where there is room, and counted, room or not: so many at most, and where there are none nothing is touched
pub record MarksPut (ms : List ℕ) (most : ℕ) (l : List ℕ) (at : ℕ) (l' : List ℕ) (r : ℕ) : Type 0 where
  pub counted : r ≡ length ms
  pub few : r ≤ most
  pub fits : WhereFits l at (marks_bytes ms) l' (at + 8 * r)
  pub none : r ≡ 0 → l' ≡ l
