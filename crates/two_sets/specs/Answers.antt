-- What the calls over two sets answer, and what they write.
use Rattle.std.specs.Prelude.{ℕ, ◌≤◌, ◌≡◌, ◌⊎◌, Bool, List, [], Result, Ok, Err}
use Rattle.misc.specs.Pick.{pick}
use Rattle.misc.specs.declared.refusal.Refusal.{Refusal}
use Rattle.misc.specs.declared.refusal.WriteError.{WriteError}
use Rattle.misc.specs.Refusal.{not_a_set, diverged}
use Rattle.misc.specs.Output.{Output, refused, output_of, answer_of}
use Rattle.previous_gtids_event.specs.Entry.{Entry}
use Rattle.gtid_sets.specs.Combine.{combined, subset}
use Rattle.gtid_sets.specs.Lent.{Lent, form, unfit, lent_set}
use Rattle.set_join.specs.Answers.{saved}
use Rattle.two_sets.specs.declared.Choice.{Choice}
use Rattle.two_sets.specs.declared.Choice.TheVariants.{First, Second}
use Rattle.two_sets.specs.declared.Cursors.{Cursors}
use Rattle.set_check.specs.Cursor.{entries_left}
use Rattle.two_sets.specs.Pairs.{CursorsAre, places_of_both}

-- ---- `either`, `both`, `without`

-- 14 of the first, or of the second where the first is a set (the number is the same); the limits are judged on the result alone
abbrev pub combined_output : (Bool → Bool → Bool) → Lent → Lent → Output
combined_output op unfit t = refused not_a_set
combined_output op (form s) unfit = refused not_a_set
combined_output op (form s) (form t) = saved (combined op s t)

-- what a call answers, lent two sets and an output, and what it leaves in the output
abbrev pub combine_answers : (Bool → Bool → Bool) → List ℕ → List ℕ → List ℕ → Result ℕ WriteError
combine_answers op first second out = answer_of out (combined_output op (lent_set first) (lent_set second))

abbrev pub combine_leaves : (Bool → Bool → Bool) → List ℕ → List ℕ → List ℕ → List ℕ
combine_leaves op first second out = output_of out (combined_output op (lent_set first) (lent_set second))

-- ---- `within`

abbrev pub within_read : Lent → Lent → Result Bool Refusal
within_read unfit t = Err not_a_set
within_read (form s) unfit = Err not_a_set
within_read (form s) (form t) = Ok (subset s t)

abbrev pub within_answers : List ℕ → List ℕ → Result Bool Refusal
within_answers first second = within_read (lent_set first) (lent_set second)

-- ---- `which` and `head`

-- the first, if it has all ids of the second; else the second, if it has all of the first; else neither is
abbrev pub head_read : Lent → Lent → Result Choice Refusal
head_read unfit t = Err not_a_set
head_read (form s) unfit = Err not_a_set
head_read (form s) (form t) = pick (subset t s) (Ok First) (pick (subset s t) (Ok Second) (Err diverged))

abbrev pub which_answers : List ℕ → List ℕ → Result Choice Refusal
which_answers first second = head_read (lent_set first) (lent_set second)

-- the bytes of the part that is handed back: all of the lent ones, or none
abbrev pub part_of : Result Choice Refusal → List ℕ → List ℕ → List ℕ
part_of (Ok First) first second = first
part_of (Ok Second) first second = second
part_of (Err r) first second = []

-- and where it stands in memory: where the lent ones do, an empty part where the first do
abbrev pub place_of : Result Choice Refusal → ℕ × ℕ → ℕ × ℕ → ℕ × ℕ
place_of (Ok First) first second = first
place_of (Ok Second) first second = second
place_of (Err r) first second = first

-- ---- inside

-- the first bytes are no set, or they are one and the second are none
abbrev pub OneUnfit : List ℕ → List ℕ → Type 0
OneUnfit bs cs = (lent_set bs ≡ unfit) ⊎ ((s : List Entry) × (lent_set bs ≡ form s) × (lent_set cs ≡ unfit))

-- both are sets, and these are all of their entries
pub record BothLent (bs cs : List ℕ) (c : Cursors) : Type 0 where
  pub first : lent_set bs ≡ form (entries_left bs c.first)
  pub second : lent_set cs ≡ form (entries_left cs c.second)
  pub cursors : CursorsAre bs cs c
  pub far : 8 ≤ places_of_both c

-- where the walk over two sets begins, or one of them is none
abbrev pub Begins : List ℕ → List ℕ → Result Cursors Refusal → Type 0
Begins bs cs (Ok c) = BothLent bs cs c
Begins bs cs (Err r) = (r ≡ not_a_set) × OneUnfit bs cs
