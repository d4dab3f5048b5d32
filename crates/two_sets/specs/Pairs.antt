-- The entries of two sets, one key after another, as they stand in the bytes.
use Prim.Native.Nat.{ℕ, ◌+◌, ◌*◌, ◌^◌, ◌<◌, ◌≤◌, Ordering}
use Rattle.std.specs.Prelude.{◌≡◌, ◌⊎◌, Bool, true, false, List, ◌++◌, length, Option, Some, None}
use Rattle.misc.specs.Pick.{pick}
use Rattle.misc.specs.Parse.{part}
use Rattle.packets.specs.Key.{Key, order}
use Rattle.std.specs.declared.cmp.Ordering as cmp
use Rattle.std.specs.declared.cmp.Ordering.TheVariants.{Less, Equal, Greater}
use Rattle.previous_gtids_event.specs.Entry.{Entry}
use Rattle.previous_gtids_event.specs.Previous.{GoodKey}
use Rattle.gtid_sets.specs.Combine.{spans, keep, combined}
use Rattle.set_check.specs.Cursor.{entries_left, beyond_of, CursorIs}
use Rattle.set_check.specs.declared.EntryPlace.{EntryPlace}
use Rattle.two_sets.specs.Marks.{going, left_of, Shut, SidesAre}
use Rattle.two_sets.specs.declared.Side.{Side}
use Rattle.set_check.specs.declared.Cursor.{Cursor}
use Rattle.two_sets.specs.declared.Cursors.{Cursors}
use Rattle.two_sets.specs.declared.KeyPlace.{KeyPlace}
use Rattle.two_sets.specs.declared.Pair.{Pair}

pub record CursorsAre (bs cs : List ℕ) (c : Cursors) : Type 0 where
  pub first : CursorIs bs c.first
  pub second : CursorIs cs c.second

-- how many entries are left, and where the cursors stand, of both together
abbrev pub entries_of_both : Cursors → ℕ
entries_of_both c = c.first.left + c.second.left

abbrev pub places_of_both : Cursors → ℕ
places_of_both c = c.first.at + c.second.at

-- the ids that are kept of what is left
abbrev pub combining : (Bool → Bool → Bool) → List ℕ → List ℕ → Cursors → List Entry
combining op bs cs c = combined op (entries_left bs c.first) (entries_left cs c.second)

-- ---- the next key

-- how the uuids of the next entries stand to each other
abbrev pub uuids_order : List ℕ → List ℕ → Cursors → Ordering
uuids_order bs cs c = order (part bs c.first.at 16) (part cs c.second.at 16)

-- and the tags of two entries
abbrev pub tags_order : List ℕ → List ℕ → EntryPlace → EntryPlace → Ordering
tags_order bs cs p q = order (part bs p.tag_at p.tag_len) (part cs q.tag_at q.tag_len)

-- which of two sets has the next uuid: the first, both or the second; where one has no entry left, the other has it
abbrev pub UuidNext : List ℕ → List ℕ → Cursors → cmp.Ordering → Type 0
UuidNext bs cs c Less = (0 < c.first.left) × ((c.second.left ≡ 0) ⊎ ((0 < c.second.left) × (uuids_order bs cs c ≡ Ordering.lt)))
UuidNext bs cs c Equal = (0 < c.first.left) × (0 < c.second.left) × (uuids_order bs cs c ≡ Ordering.eq)
UuidNext bs cs c Greater = (0 < c.second.left) × ((c.first.left ≡ 0) ⊎ ((0 < c.first.left) × (uuids_order bs cs c ≡ Ordering.gt)))

abbrev pub side_of : EntryPlace → Side
side_of p = record { at = p.first; left = 2 * p.count }

abbrev pub no_side : Side
no_side = record { at = 0; left = 0 }

abbrev pub key_place : Bool → Cursor → EntryPlace → KeyPlace
key_place first c p = record { of_first = first; at = c.at; tag_at = p.tag_at; tag_len = p.tag_len }

-- the marks of an entry, and the entries behind it, where a set has one
abbrev pub side_in : Option EntryPlace → Side
side_in None = no_side
side_in (Some p) = side_of p

abbrev pub behind : Cursor → Option EntryPlace → Cursor
behind c None = c
behind c (Some p) = beyond_of c p

-- the next key, by the entry of it that either set has
abbrev pub pair_of : KeyPlace → Cursors → Option EntryPlace → Option EntryPlace → Pair
pair_of k c p q =
    record {
      key = k;
      sides = record { one = side_in p; two = side_in q };
      after = record { first = behind c.first p; second = behind c.second q };
    }

-- it is in the first set alone, in the second alone, or in both
abbrev pub of_first : Cursors → EntryPlace → Pair
of_first c p = pair_of (key_place true c.first p) c (Some p) None

abbrev pub of_second : Cursors → EntryPlace → Pair
of_second c q = pair_of (key_place false c.second q) c None (Some q)

abbrev pub of_both : Cursors → EntryPlace → EntryPlace → Pair
of_both c p q = pair_of (key_place true c.first p) c (Some p) (Some q)

-- its intervals aren't many
abbrev pub Moves : EntryPlace → Type 0
Moves p = p.count ≤ 2 ^ 40

-- ---- what `next_pair` tells

-- a key's uuid and tag, in one of the two sets
abbrev pub source_of : List ℕ → List ℕ → KeyPlace → List ℕ
source_of bs cs k = pick k.of_first bs cs

abbrev pub uuid_in : List ℕ → List ℕ → KeyPlace → List ℕ
uuid_in bs cs k = part (source_of bs cs k) k.at 16

abbrev pub tag_in : List ℕ → List ℕ → KeyPlace → List ℕ
tag_in bs cs k = part (source_of bs cs k) k.tag_at k.tag_len

abbrev pub key_in : List ℕ → List ℕ → KeyPlace → Key
key_in bs cs k = uuid_in bs cs k ++ tag_in bs cs k

pub record KeyIs (bs cs : List ℕ) (k : KeyPlace) : Type 0 where
  pub uuid_inside : k.at + 16 ≤ length (source_of bs cs k)
  pub tag_inside : k.tag_at + k.tag_len ≤ length (source_of bs cs k)
  pub short : k.tag_len ≤ 32
  pub good : GoodKey (key_in bs cs k)

-- the next entry of any result, unless it is empty, and what is left then
pub record PairIs (bs cs : List ℕ) (c : Cursors) (r : Pair) : Type 0 where
  pub goes : (op : Bool → Bool → Bool) → combining op bs cs c ≡ keep (key_in bs cs r.key) (spans (going op bs cs r.sides)) (combining op bs cs r.after)
  pub shut : Shut bs cs r.sides
  pub sides : SidesAre bs cs r.sides
  pub after : CursorsAre bs cs r.after
  pub key : KeyIs bs cs r.key
  pub less : entries_of_both r.after < entries_of_both c
  pub grows : places_of_both c + (24 + r.key.tag_len + 8 * left_of r.sides) ≤ places_of_both r.after
