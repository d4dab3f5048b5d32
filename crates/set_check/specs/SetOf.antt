-- The set that some bytes are, within the limits or not.
use Rattle.std.specs.Prelude.{ℕ, ◌^◌, ◌≤◌, ◌≡◌, Bool, List, [], length}
use Rattle.misc.specs.Parse.{Parse, refuse, parsed}
use Rattle.previous_gtids_event.specs.Entry.{Entry}
use Rattle.previous_gtids_event.specs.Previous.{entries_in}
use Rattle.previous_gtids_event.specs.Rewrite.{any_tag, body_bytes}
use Rattle.gtid_sets.specs.Set.{SetForm}
use Rattle.gtid_sets.specs.Limits.{intervals}
use Rattle.gtid_sets.specs.Lent.{form, lent_set, GoodKeys}
use Rattle.set_check.specs.declared.Checked.{Checked}

abbrev pub entries_of : Parse (List Entry) → List Entry
entries_of (refuse r) = []
entries_of (parsed s next) = s

-- the entries that stand in them
unfoldable pub set_of : List ℕ → List Entry
set_of bs = entries_of (entries_in bs)

-- the bytes are those of a set in set form, with tags or not and with so many entries
pub record IsSet (bs : List ℕ) (w : Bool) (n : ℕ) : Type 0 where
  pub written : bs ≡ body_bytes (set_of bs)
  pub formed : SetForm (set_of bs)
  pub keyed : GoodKeys (set_of bs)
  pub tags : any_tag (set_of bs) ≡ w
  pub count : length (set_of bs) ≡ n
  pub small : length bs ≤ 2 ^ 40

-- what a check that found no fault says
pub record Fits (bs : List ℕ) (c : Checked) : Type 0 where
  pub set : IsSet bs c.tagged c.entries
  pub total : intervals (set_of bs) ≡ c.intervals
  pub lent : lent_set bs ≡ form (set_of bs)
