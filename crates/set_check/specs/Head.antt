-- The head of an entry of a set's bytes: its uuid, its tag and the number of its intervals.
use Rattle.std.specs.Prelude.{ℕ, ◌<◌, ◌≤◌, ◌≡◌, Bool, false, List, ◌++◌, length, drop}
use Rattle.misc.specs.Le.{le_bytes}
use Rattle.packets.specs.Gno.{Interval}
use Rattle.packets.specs.Key.{Key}
use Rattle.previous_gtids_event.specs.Entry.{uuid_of, tag_of}
use Rattle.previous_gtids_event.specs.Previous.{GoodKey}
use Rattle.previous_gtids_event.specs.Rewrite.{intervals_bytes, tag_bytes}
use Rattle.gtid_sets.specs.Interval.{Some}
use Rattle.gtid_sets.specs.Limits.{max_of_entry}
use Rattle.set_check.specs.Places.{place_at}
use Rattle.set_check.specs.Cursor.{key_here}
use Rattle.set_check.specs.declared.Cursor.{Cursor}
use Rattle.set_check.specs.declared.EntryPlace.{EntryPlace}

-- the head of an entry, as it is written, before other bytes
abbrev pub head_bytes : Bool → Key → ℕ → List ℕ → List ℕ
head_bytes w k n rest = uuid_of k ++ (tag_bytes w (tag_of k) ++ (le_bytes 8 n ++ rest))

-- a key that can be written: a good one, and without a tag in an untagged set
pub record KeyOk (w : Bool) (k : Key) : Type 0 where
  pub good : GoodKey k
  pub plain : w ≡ false → length (tag_of k) ≡ 0

-- an entry begins at a cursor as it is written, with all its intervals there, some and not too many
pub record HeadIs (bs : List ℕ) (c : Cursor) (p : EntryPlace) : Type 0 where
  pub stands : p ≡ place_at c.tagged bs c.at
  pub inside : p.next ≤ length bs
  pub is : drop c.at bs ≡ head_bytes c.tagged (key_here bs c p) p.count (drop p.first bs)
  pub ok : KeyOk c.tagged (key_here bs c p)
  pub some : 0 < p.count
  pub few : p.count ≤ max_of_entry

abbrev pub NoHead : List ℕ → Cursor → Type 0
NoHead bs c =
    (k : Key) (is : List Interval) (rest : List ℕ) → KeyOk c.tagged k → Some is → length is ≤ max_of_entry
    → drop c.at bs ≡ head_bytes c.tagged k (length is) (intervals_bytes is ++ rest) → ⊥
