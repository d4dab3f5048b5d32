-- The answers of the library's calls as numbers.
use Rattle.std.specs.Prelude.{ℕ, Bool, true, false, List, Result, Ok, Err}
use Rattle.misc.specs.Refusal.{number, error_number, error_needed}
use Rattle.misc.specs.declared.refusal.Refusal.{Refusal}
use Rattle.misc.specs.declared.refusal.WriteError.{WriteError}
use Rattle.misc.specs.Parse.{Parse, and_then}
use Rattle.misc.specs.Body.{of_body}
use Rattle.misc.specs.Le.{le_at}
use Rattle.previous_gtids_event.specs.Entry.{Entry}
use Rattle.previous_gtids_event.specs.Previous.{says_tagged, entry_at}
use Rattle.resume_set.specs.declared.Offered.{Offered}
use Rattle.resume_set.specs.declared.Offered.TheVariants as offered-as
use Rattle.two_sets.specs.declared.Choice.{Choice}
use Rattle.two_sets.specs.declared.Choice.TheVariants as chosen-as
use Rattle.abi.specs.declared.OfferNumbers.{OfferNumbers}
use Rattle.abi.specs.declared.HeadNumbers.{HeadNumbers}

-- a number of what a call answers, 0 where it refuses
abbrev pub number_in : {A : Type 0} → Result A Refusal → (A → ℕ) → ℕ
number_in (Ok a) of = of a
number_in (Err r) of = 0

-- what an offer comes to: its refusal, 0 for none; its kind, 0 refused, 1 taken, 2 already there, 3 no id; and the length of the set
-- that was written, or for refusal 13 of the one that has no room
abbrev pub numbers_of : Result Offered WriteError → OfferNumbers
numbers_of (Err e) = record { refusal = error_number e; kind = 0; len = error_needed e }
numbers_of (Ok (offered-as.Taken n)) = record { refusal = 0; kind = 1; len = n }
numbers_of (Ok (offered-as.AlreadyThere n)) = record { refusal = 0; kind = 2; len = n }
numbers_of (Ok (offered-as.NoId n)) = record { refusal = 0; kind = 3; len = n }

-- which of two sets contains the other: the refusal, 0 for none; and 1 for the first, 2 for the second, 0 with a refusal
abbrev pub head_numbers : Result Choice Refusal → HeadNumbers
head_numbers (Err r) = record { refusal = number r; head = 0 }
head_numbers (Ok chosen-as.First) = record { refusal = 0; head = 1 }
head_numbers (Ok chosen-as.Second) = record { refusal = 0; head = 2 }

-- 1 for true and 0 for false
abbrev pub bit : Bool → ℕ
bit true = 1
bit false = 0

-- the entry at a place of a Previous-GTIDs body, with a tag if the body's header says so
unfoldable pub entry_in : List ℕ → ℕ → Parse Entry
entry_in s at = of_body s (and_then (le_at 8 s 0) (λ header next. entry_at (says_tagged header) s at))
