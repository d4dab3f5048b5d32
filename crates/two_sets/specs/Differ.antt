-- Ids that one of two sets has and the other lacks: its own.
use Rattle.std.specs.Prelude.{ℕ, Bool, not, ◌||◌, List}
use Rattle.gtid_sets.specs.Combine.{without, is_empty}
use Rattle.two_sets.specs.Marks.{going, any_mark}
use Rattle.two_sets.specs.Pairs.{combining}
use Rattle.two_sets.specs.declared.Sides.{Sides}
use Rattle.two_sets.specs.declared.Cursors.{Cursors}
use Rattle.two_sets.specs.declared.Own.{Own}

-- the second without the first
abbrev pub back : Bool → Bool → Bool
back x y = without y x

-- what is found besides
abbrev pub found : Own → Bool → Bool → Own
found o x y = record { first = o.first || x; second = o.second || y }

-- by the marks of a key
abbrev pub own_marks : List ℕ → List ℕ → Sides → Own → Own
own_marks bs cs s o = found o (any_mark (going without bs cs s)) (any_mark (going back bs cs s))

-- by the entries that are left
abbrev pub own_ids : List ℕ → List ℕ → Cursors → Own → Own
own_ids bs cs c o = found o (not (is_empty (combining without bs cs c))) (not (is_empty (combining back bs cs c)))
