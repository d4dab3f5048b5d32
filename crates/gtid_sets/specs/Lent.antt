-- Which bytes are a set. A set is saved as the body that the writer gives for its entries, `body_bytes s`.
use Rattle.std.specs.Prelude.{ℕ, ◌≡◌, Bool, ◌&&◌, List, [], ◌∷◌}
use Rattle.misc.specs.Pick.{pick}
use Rattle.misc.specs.Parse.{Parse, refuse, parsed}
use Rattle.packets.specs.Key.{same}
use Rattle.previous_gtids_event.specs.Entry.{Entry, entry}
use Rattle.previous_gtids_event.specs.Previous.{GoodKey, previous}
use Rattle.previous_gtids_event.specs.Rewrite.{body_bytes}
use Rattle.gtid_sets.specs.Set.{SetForm, in_set_form}
use Rattle.gtid_sets.specs.Limits.{fine, is_fine, limits}

-- a lent set: the entries that its bytes say; or they are unfit (refusal 14)
pub data Lent : Type 0 where
  form : List Entry → Lent
  unfit : Lent

-- the bytes are what the writer gives for entries in set form, with nothing after them, and the entries are within the limits
abbrev pub is_form : List ℕ → List Entry → Bool
is_form bs s = same bs (body_bytes s) && (in_set_form s && is_fine (limits s))

abbrev pub lent_read : List ℕ → Parse (List Entry) → Lent
lent_read bs (refuse r) = unfit
lent_read bs (parsed s next) = pick (is_form bs s) (form s) unfit

unfoldable pub lent_set : List ℕ → Lent
lent_set bs = lent_read bs (previous bs)

-- entries whose keys are as keys are read
abbrev pub GoodKeys : List Entry → Type 0
GoodKeys [] = Unit {0}
GoodKeys (entry k is ∷ s) = GoodKey k × GoodKeys s

-- ---- the same as a relation: `Lent-is` and `is-lent` of proofs/LentLaws.antt say that `lent_set bs ≡ form s` just if it holds

-- these bytes are this set: what the writer gives for entries in set form, whose keys are as keys are read, within the limits
pub record SetLaid (bs : List ℕ) (s : List Entry) : Type 0 where
  pub written : bs ≡ body_bytes s
  pub formed : SetForm s
  pub keyed : GoodKeys s
  pub limited : limits s ≡ fine
