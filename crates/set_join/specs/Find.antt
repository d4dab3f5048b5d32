-- Where a key stands in a lent set, or would stand.
use Rattle.std.specs.Prelude.{ℕ, ◌+◌, ◌-◌, ◌*◌, ◌<◌, ◌≤◌, ◌≡◌, Bool, false, List, ◌∷◌, ◌++◌, length, drop, eqb}
use Rattle.misc.specs.Pick.{pick}
use Rattle.misc.specs.Parse.{part}
use Rattle.packets.specs.Gno.{Interval}
use Rattle.packets.specs.Key.{Key}
use Rattle.previous_gtids_event.specs.Entry.{Entry, entry, tag_of}
use Rattle.previous_gtids_event.specs.Rewrite.{entries_bytes, any_tag}
use Rattle.gtid_sets.specs.Interval.{covers, Gapped, insert}
use Rattle.gtid_sets.specs.Set.{has, of_key, join}
use Rattle.gtid_sets.specs.Limits.{summed, intervals, crowds}
use Rattle.gtid_sets.specs.Lent.{GoodKeys}
use Rattle.set_intervals.specs.Intervals.{intervals_at}
use Rattle.set_check.specs.declared.Checked.{Checked}
use Rattle.set_join.specs.declared.Found.{Found}
use Rattle.set_join.specs.declared.Run.{Run}
use Rattle.set_join.specs.declared.Held.{Held}

-- these are its counts
pub record Counted (s : List Entry) (h : Held) : Type 0 where
  pub count : h.entries ≡ length s
  pub total : h.intervals ≡ intervals s
  pub crowd : h.crowded ≡ crowds s

-- a set that was checked, in so many bytes
abbrev pub lent_as : Checked → ℕ → Held
lent_as c len = record { tagged = c.tagged; entries = c.entries; intervals = c.intervals; crowded = 0; len = len }

-- ---- what `find` tells

-- so many entries before a place, and then so many intervals of the key
abbrev pub found_at : ℕ → ℕ → Run → Found
found_at before at own = record { before = record { from = 8; to = at; count = before }; own = own }

-- it isn't there, and goes behind so many entries, which end at a place
abbrev pub absent_at : ℕ → ℕ → Found
absent_at before at = found_at before at (record { from = at; to = at; count = 0 })

-- how many entries a key adds that has so many intervals there
abbrev pub added : ℕ → ℕ
added n = pick (eqb n 0) 1 0

-- the bytes of the key's intervals
abbrev pub own : List ℕ → Found → List ℕ
own bs r = part bs r.own.from (r.own.to - r.own.from)

-- the intervals that the key has there, none if it is not there
abbrev pub old : List ℕ → Found → List Interval
old bs r = intervals_at r.own.count bs r.own.from

pub record FoundIs (bs : List ℕ) (w : Bool) (k : Key) (s : List Entry) (r : Found) : Type 0 where
  pub front : List Entry
  pub back : List Entry
  pub joins : (a b : ℕ) → join k a b s ≡ front ++ (entry k (insert a b (old bs r)) ∷ back)
  pub mine : of_key k s ≡ old bs r
  pub member : (n : ℕ) → has s k n ≡ covers (of_key k s) n
  pub gapped : Gapped 0 (old bs r)
  pub start : r.before.from ≡ 8
  pub index : r.before.count ≡ length front
  pub entries : length s + added r.own.count ≡ length front + (1 + length back)
  pub total : (f : ℕ → ℕ) → f 0 ≡ 0 → summed f s ≡ summed f front + (f r.own.count + summed f back)
  pub front_bytes : drop 8 bs ≡ entries_bytes w front ++ drop r.before.to bs
  pub back_bytes : drop r.own.to bs ≡ entries_bytes w back
  pub place : 8 ≤ r.before.to
  pub order : r.before.to ≤ r.own.from
  pub end : r.own.to ≡ r.own.from + 16 * r.own.count
  pub inside : r.own.to ≤ length bs
  pub tags : (w ≡ false → any_tag front ≡ false) × (w ≡ false → any_tag back ≡ false)
  pub keyed : GoodKeys front × GoodKeys back
  pub plain : 0 < r.own.count → w ≡ false → length (tag_of k) ≡ 0
  pub length_front : 8 + length (entries_bytes w front) ≡ r.before.to
