-- How the entries of a body are handed out, one step after another. A step gives a refusal, nothing where no entry is left, or an entry.
use Rattle.std.specs.Prelude.{ℕ, zero, suc, ◌-◌, List, eqb, Option, None, Some, Result, Ok, Err}
use Rattle.misc.specs.Pick.{pick}
use Rattle.misc.specs.declared.refusal.Refusal.{Refusal}
use Rattle.misc.specs.Parse.{Parse, refuse, parsed, answered}
use Rattle.misc.specs.Body.{of_body}
use Rattle.misc.specs.Le.{le_at}
use Rattle.previous_gtids_event.specs.Entry.{Entry}
use Rattle.previous_gtids_event.specs.Previous.{says_tagged, says_count, entry_at}
use Rattle.previous_gtids_event.specs.Answers.{entry_told}
use Rattle.previous_gtids_reader.specs.declared.Cursor.{Cursor}
use Rattle.previous_gtids_reader.specs.declared.Step.{Step}
use Rattle.previous_gtids_reader.specs.declared.Asked.{Asked}

-- a cursor with so many entries left at a place
abbrev pub cursor_at : ℕ → ℕ → Cursor
cursor_at left at = record { at = at; left = left }

-- ---- the start: the first entry lies behind the header's eight bytes

abbrev pub cursor_of : Parse ℕ → Result Cursor Refusal
cursor_of p = answered (λ header next. cursor_at (says_count header) 8) p

unfoldable pub start_of : List ℕ → Result Cursor Refusal
start_of s = cursor_of (of_body s (le_at 8 s 0))

-- ---- one step

-- an entry that ends at a place, with so many left behind it
abbrev pub entry_step : ℕ → Entry → ℕ → Step
entry_step left e next = record { entry = entry_told e next; cursor = cursor_at left next }

-- what reading the next entry gives, with so many left
abbrev pub stepped : ℕ → Parse Entry → Result (Option Step) Refusal
stepped left p = answered (λ e next. Some (entry_step (left - 1) e next)) p

-- what the body's header comes to: a body that is refused is refused at every cursor; else the entry at the cursor's place is read as the
-- header says, if one is left
abbrev pub headed_step : List ℕ → Cursor → Parse ℕ → Result (Option Step) Refusal
headed_step s c (refuse r) = Err r
headed_step s c (parsed header next) = pick (eqb c.left 0) (Ok None) (stepped c.left (entry_at (says_tagged header) s c.at))

unfoldable pub step_of : List ℕ → Cursor → Result (Option Step) Refusal
step_of s c = headed_step s c (of_body s (le_at 8 s 0))

-- ---- steps one after another

-- where a step leaves a reader: behind the entry that it hands out; a refusal and the end leave it where it was
abbrev pub onwards : Cursor → Result (Option Step) Refusal → Cursor
onwards c (Ok (Some step)) = step.cursor
onwards c (Ok None) = c
onwards c (Err r) = c

-- the cursor after n steps
unfoldable pub cursor_after : List ℕ → ℕ → Cursor → Cursor
cursor_after s zero c = c
cursor_after s (suc n) c = cursor_after s n (onwards c (step_of s c))

-- a step, and the place where it was asked; a refusal has none
abbrev pub asked_at : Cursor → Result (Option Step) Refusal → Result Asked Refusal
asked_at c (Ok step) = Ok (record { step = step; at = c.at })
asked_at c (Err r) = Err r

abbrev pub asked : List ℕ → Cursor → Result Asked Refusal
asked s c = asked_at c (step_of s c)

-- the step that has n before it, from a start on
abbrev pub step_from : List ℕ → ℕ → Result Cursor Refusal → Result Asked Refusal
step_from s n (Ok c) = asked s (cursor_after s n c)
step_from s n (Err r) = Err r

-- from the start of the body on
unfoldable pub step_after : List ℕ → ℕ → Result Asked Refusal
step_after s n = step_from s n (start_of s)
