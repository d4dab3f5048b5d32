-- What checking a lent set finds.
use Rattle.std.specs.Prelude.{ℕ, ◌+◌, ◌≤◌, ◌≡◌, ⊤, Bool, false, ◌||◌, List, [], ◌++◌, length, drop, Option, Some, None, MatchOption, Result, Ok, Err}
use Rattle.misc.specs.declared.refusal.Refusal.{Refusal}
use Rattle.misc.specs.Refusal.{not_a_set}
use Rattle.misc.specs.Parse.{part}
use Rattle.packets.specs.Gno.{Interval}
use Rattle.packets.specs.Key.{Key, ◌≺◌}
use Rattle.previous_gtids_event.specs.Entry.{Entry}
use Rattle.previous_gtids_event.specs.Rewrite.{intervals_bytes, entries_bytes, any_tag, header_bytes}
use Rattle.gtid_sets.specs.Interval as interval
use Rattle.gtid_sets.specs.Interval.{Gapped}
use Rattle.gtid_sets.specs.Set.{Above, SetForm}
use Rattle.gtid_sets.specs.Limits.{max_entries, max_intervals, max_of_entry, intervals, crowds}
use Rattle.gtid_sets.specs.Lent.{Lent, form, unfit, GoodKeys}
use Rattle.set_intervals.specs.Intervals.{intervals_at}
use Rattle.set_check.specs.Head.{head_bytes, KeyOk, HeadIs}
use Rattle.set_check.specs.Cursor.{key_here}
use Rattle.set_check.specs.declared.Cursor.{Cursor}
use Rattle.set_check.specs.declared.EntryPlace.{EntryPlace}
use Rattle.set_check.specs.declared.KeyPlace.{KeyPlace}
use Rattle.set_check.specs.declared.Checked.{Checked}

-- the answer of `check`: refusal 14, or whether the set has tags, and its counts
abbrev pub checked_of : Lent → Result Checked Refusal
checked_of unfit = Err not_a_set
checked_of (form s) = Ok (record { tagged = any_tag s; entries = length s; intervals = intervals s })

-- ---- inside: the header

-- the entries behind the header
pub record HeaderIs (bs : List ℕ) (c : Cursor) : Type 0 where
  pub is : bs ≡ header_bytes c.tagged c.left ++ drop 8 bs
  pub few : c.left ≤ max_entries
  pub there : 8 ≤ length bs
  pub behind : c.at ≡ 8

abbrev pub NoHeader : List ℕ → Type 0
NoHeader bs = (w : Bool) (n : ℕ) (rest : List ℕ) → n ≤ max_entries → bs ≡ header_bytes w n ++ rest → ⊥

-- ---- inside: an entry after a lower key

-- the key in two parts of the bytes
abbrev pub key_in : List ℕ → KeyPlace → Key
key_in bs k = part bs k.at 16 ++ part bs k.tag_at k.tag_len

-- they lie inside
pub record KeyThere (bs : List ℕ) (k : KeyPlace) : Type 0 where
  pub uuid : k.at + 16 ≤ length bs
  pub tag : k.tag_at + k.tag_len ≤ length bs

-- the key before an entry; the empty one, which is below all others, before the first
abbrev pub low_key : List ℕ → Option KeyPlace → Key
low_key bs None = []
low_key bs (Some k) = key_in bs k

abbrev pub LowThere : List ℕ → Option KeyPlace → Type 0
LowThere bs low = MatchOption low ⊤ (λ k. KeyThere bs k)

pub record EntryIs (bs : List ℕ) (c : Cursor) (low : Key) (p : EntryPlace) : Type 0 where
  pub head : HeadIs bs c p
  pub gapped : Gapped 0 (intervals_at p.count bs p.first)
  pub rises : low ≺ key_here bs c p

abbrev pub NoEntry : List ℕ → Cursor → Key → Type 0
NoEntry bs c low =
    (k : Key) (is : List Interval) (rest : List ℕ) → KeyOk c.tagged k → interval.Some is → Gapped 0 is → length is ≤ max_of_entry → low ≺ k
    → drop c.at bs ≡ head_bytes c.tagged k (length is) (intervals_bytes is ++ rest) → ⊥

-- ---- inside: the entries from a cursor on

-- the entries that are left stand there to the end, in set form above a key, none with too many intervals; with those before them they keep
-- the limit of all intervals and say whether there are tags
pub record Rest (bs : List ℕ) (c : Cursor) (low : Key) (used : ℕ) (any : Bool) : Type 0 where
  pub set : List Entry
  pub is : drop c.at bs ≡ entries_bytes c.tagged set
  pub count : length set ≡ c.left
  pub formed : SetForm set
  pub above : Above low set
  pub keyed : GoodKeys set
  pub fair : crowds set ≡ 0
  pub limit : used + intervals set ≤ max_intervals
  pub tags : (any || any_tag set) ≡ c.tagged

-- all of them, with so many intervals together
pub record Whole (bs : List ℕ) (c : Cursor) (total : ℕ) : Type 0 where
  pub rest : Rest bs c [] 0 false
  pub total-is : intervals rest.set ≡ total
