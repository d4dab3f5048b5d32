-- What a function inside the crate says that reads a field into those that it is lent.
use Rattle.std.specs.Prelude.{ℕ, ◌≡◌, Result, MatchResult}
use Rattle.misc.specs.declared.refusal.Refusal.{Refusal}
use Rattle.misc.specs.Parse.{Parse, refuse, parsed}
use Rattle.gtid_event_read.specs.declared.Fields.{Fields}

-- the fields are as reading finds them, and it answers the place behind; or the refusal
abbrev pub Kept : Parse Fields → Fields → Result ℕ Refusal → Type 0
Kept p f r = MatchResult r (λ next. p ≡ parsed f next) (λ refusal. p ≡ refuse refusal)
