-- The entries of a set that are left, from a cursor on.
use Rattle.std.specs.Prelude.{ℕ, ◌-◌, ◌^◌, ◌≤◌, ◌≡◌, false, List, ◌++◌, length, drop}
use Rattle.misc.specs.Parse.{part}
use Rattle.packets.specs.Key.{Key}
use Rattle.previous_gtids_event.specs.Entry.{Entry}
use Rattle.previous_gtids_event.specs.Rewrite.{entries_bytes, any_tag}
use Rattle.gtid_sets.specs.Set.{SetForm}
use Rattle.gtid_sets.specs.Lent.{GoodKeys}
use Rattle.set_check.specs.Places.{entries_at, EntriesIn}
use Rattle.set_check.specs.declared.Checked.{Checked}
use Rattle.set_check.specs.declared.Cursor.{Cursor}
use Rattle.set_check.specs.declared.EntryPlace.{EntryPlace}

-- all entries of a set that was checked
abbrev pub begun : Checked → Cursor
begun c = record { tagged = c.tagged; at = 8; left = c.entries }

-- those behind the first
abbrev pub beyond_of : Cursor → EntryPlace → Cursor
beyond_of c p = record { tagged = c.tagged; at = p.next; left = c.left - 1 }

-- ---- what functions inside promise

abbrev pub entries_left : List ℕ → Cursor → List Entry
entries_left bs c = entries_at c.left c.tagged bs c.at

-- the key of the entry at a cursor that stands there
abbrev pub key_here : List ℕ → Cursor → EntryPlace → Key
key_here bs c p = part bs c.at 16 ++ part bs p.tag_at p.tag_len

-- they are all there, in set form, and nothing behind them
pub record CursorIs (bs : List ℕ) (c : Cursor) : Type 0 where
  pub there : EntriesIn c.left c.tagged bs c.at
  pub bytes : drop c.at bs ≡ entries_bytes c.tagged (entries_left bs c)
  pub formed : SetForm (entries_left bs c)
  pub keyed : GoodKeys (entries_left bs c)
  pub tags : c.tagged ≡ false → any_tag (entries_left bs c) ≡ false
  pub small : length bs ≤ 2 ^ 40
  pub inside : c.at ≤ length bs
