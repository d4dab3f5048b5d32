-- Joining the entries of a body to a set that stands at the front of a work buffer, interval after interval.
use Rattle.std.specs.Prelude.{ℕ, ◌+◌, ◌*◌, ◌^◌, ◌≤◌, ◌≡◌, Bool, true, false, ◌||◌, List, [], ◌∷◌, ◌++◌, length, take}
use Rattle.misc.specs.Pick.{pick}
use Rattle.packets.specs.Key.{Key, same}
use Rattle.previous_gtids_event.specs.Entry.{Entry, entry, tag_of}
use Rattle.packets.specs.Tag.{none_or_tag}
use Rattle.previous_gtids_event.specs.Rewrite.{entries_bytes}
use Rattle.previous_gtids_event.specs.declared.EntryRead.{EntryRead}
use Rattle.gtid_sets.specs.TakeIn.{proper}
use Rattle.set_intervals.specs.Intervals.{intervals_at}
use Rattle.set_check.specs.SetOf.{set_of, IsSet}
use Rattle.set_join.specs.Find.{Counted}
use Rattle.set_join.specs.declared.Held.{Held}

-- ---- a set in a work buffer

abbrev pub held_set : List ℕ → Held → List Entry
held_set bs h = set_of (take h.len bs)

pub record HeldIs (bs : List ℕ) (h : Held) : Type 0 where
  pub set : IsSet (take h.len bs) h.tagged h.entries
  pub counted : Counted (held_set bs h) h
  pub inside : h.len ≤ length bs

-- ---- an entry of a body

-- the key in an entry's two fields
abbrev pub key_in : EntryRead → Key
key_in e = e.uuid ++ take e.tag_len e.tag

-- an entry as it was read, with intervals that obey the gno rule
pub record EntryIs (body : List ℕ) (e : EntryRead) : Type 0 where
  pub uuid : length e.uuid ≡ 16
  pub tag : length e.tag ≡ 32
  pub short : e.tag_len ≤ 32
  pub rule : none_or_tag (take e.tag_len e.tag) ≡ true
  pub inside : e.first + 16 * e.intervals ≤ length body
  pub lawful : proper (intervals_at e.intervals body e.first) ≡ true

-- ---- how much room is enough

-- the bytes of a set with tags; without them it has fewer
unfoldable pub widest : List Entry → ℕ
widest s = 8 + length (entries_bytes true s)

-- whether a key has an entry
abbrev pub named : List Entry → Key → Bool
named [] k = false
named (entry j is ∷ s) k = same k j || named s k

-- for n intervals of a key, joined one after another
unfoldable pub enough : Key → List Entry → ℕ → ℕ
enough k s n = widest s + (pick (named s k) 0 (25 + length (tag_of k)) + 16 * n)

-- two work buffers have room for so much
pub record Room (held spare : List ℕ) (n : ℕ) : Type 0 where
  pub wide : n ≤ length held
  pub alike : length spare ≡ length held
  pub small : length held ≤ 2 ^ 40
