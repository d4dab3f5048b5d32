-- Where reading an event comes to, and what may be wrong there: a stepping stone between the readers' definitions and the table of
-- `specs/Faults.antt`, which speaks of the layouts.
use Prim.Native.Nat.{ℕ, ◌+◌, ◌-◌, ◌≤◌, ◌<◌}
use mathlib.Core.Path.{◌≡◌}
use mathlib.Core.Bool.{true, false}
use mathlib.Core.List.{List}
use mathlib.Core.Logic.{◌⊎◌}
use lib.Dec.{eqb}
use lib.IntN.{negsuc}
use lib.ListN.{length, get_or}
use Rattle.misc.specs.Pick.{pick}
use Rattle.misc.specs.Parse.{parsed, many, part}
use Rattle.misc.specs.Le.{le_of}
use Rattle.misc.specs.Mark.{has_bit}
use Rattle.misc.specs.Varlen.{trailing_ones, varlen_at}
use Rattle.misc.specs.Signed.{signed_at}
use Rattle.packets.specs.Tag.{is_tag}
use Rattle.gtid_event_read.specs.Fields.{up_to, natural, uuid, unknown, kind_of, no_fields, limited_at, field_at, fields_of}
use Rattle.gtid_event_read.specs.declared.Fields.{Fields}
use Rattle.gtid_event_read.specs.Untagged.{timestamps_at, length_at, typecode_at}

-- ---- items that reading comes to

-- so many bytes, a variable-length integer, or a length-encoded one
pub data Item : Type 0 where
  plain : ℕ → Item
  varlen : Item
  lenenc : Item

-- how many bytes the item at a place has, by its first byte
abbrev pub needs : Item → List ℕ → ℕ → ℕ
needs (plain n) s at = n
needs varlen s at = trailing_ones 8 (get_or s at 0) + 1
needs lenenc s at = 1 + pick (eqb (get_or s at 0) 0xFC) 2 (pick (eqb (get_or s at 0) 0xFD) 3 (pick (eqb (get_or s at 0) 0xFE) 8 0))

-- the bytes end inside it
abbrev pub Ends : Item → List ℕ → ℕ → Type 0
Ends i s at = length s < at + needs i s at

-- ---- an untagged event

-- the parts behind the typecode are there
abbrev pub Later : List ℕ → Type 0
Later s = typecode_at s 25 ≡ true

-- reading has come to the transaction length; to the server versions
pub record AtLength (s : List ℕ) (at : ℕ) : Type 0 where
  pub later : Later s
  pub passed : (p : _) × (timestamps_at s 42 ≡ parsed p at)

pub record AtVersions (s : List ℕ) (at : ℕ) : Type 0 where
  pub from : ℕ
  pub before : AtLength s from
  pub passed : (v : ℕ) × (length_at s from ≡ parsed v at)

-- the items that it wants
pub data Untagged (s : List ℕ) : ℕ → Item → Type 0 where
  flags : Untagged s 0 (plain 1)
  uuid_bytes : Untagged s 1 (plain 16)
  gno : Untagged s 17 (plain 8)
  last_committed : Later s → Untagged s 26 (plain 8)
  sequence_number : Later s → Untagged s 34 (plain 8)
  original_timestamp : Later s → 49 ≤ length s → has_bit 55 (le_of (part s 42 7)) ≡ true → Untagged s 49 (plain 7)
  transaction_length : {at : ℕ} → AtLength s at → at < length s → Untagged s at lenenc
  original_version : {at : ℕ} → AtVersions s at → at + 4 ≤ length s → has_bit 31 (le_of (part s at 4)) ≡ true → Untagged s (at + 4) (plain 4)

pub data UntaggedStop (s : List ℕ) : ℕ → Type 0 where
  -- 1: the bytes end inside a wanted item
  cut : (at : ℕ) (i : Item) → Untagged s at i → Ends i s at → UntaggedStop s 1
  -- 10: a length-encoded lead byte FB or FF
  lead : (at : ℕ) → AtLength s at → at < length s → (get_or s at 0 ≡ 0xFB) ⊎ (get_or s at 0 ≡ 0xFF) → UntaggedStop s 10

-- ---- a tagged event: the fields of its payload s

-- reading has come to a field, with these read so far
pub data Reached (last : ℕ) (s : List ℕ) : Fields → ℕ → Type 0 where
  first : Reached last s no_fields 0
  next : {f g : Fields} {at to : ℕ} → Reached last s f at → at < length s → field_at last s f at ≡ parsed g to → Reached last s g to

-- it has read the field's id, and comes to its value
pub record AtValue (last : ℕ) (s : List ℕ) (id from : ℕ) : Type 0 where
  pub so_far : Fields
  pub at : ℕ
  pub reached : Reached last s so_far at
  pub more : at < length s
  pub told : varlen_at s at ≡ parsed id from

-- item number i of a uuid
pub record AtUuidItem (last : ℕ) (s : List ℕ) (i at : ℕ) : Type 0 where
  pub from : ℕ
  pub value : AtValue last s 1 from
  pub below : i < 16
  pub passed : (us : List ℕ) × (many (limited_at 255 s) i from ≡ parsed us at)

-- the items that a payload wants
pub data Wanted (last : ℕ) (s : List ℕ) : ℕ → Item → Type 0 where
  field_id : {f : Fields} {at : ℕ} → Reached last s f at → at < length s → Wanted last s at varlen
  number : {id from : ℕ} → AtValue last s id from → (kind_of id ≡ uuid → ⊥) → (kind_of id ≡ unknown → ⊥) → Wanted last s from varlen
  uuid_item : {i at : ℕ} → AtUuidItem last s i at → Wanted last s at varlen
  tag_bytes : {from n to : ℕ} → AtValue last s 3 from → varlen_at s from ≡ parsed n to → Wanted last s to (plain n)

pub data FieldStop (last : ℕ) (s : List ℕ) : ℕ → Type 0 where
  -- 1: the payload ends inside a wanted item
  cut : (at : ℕ) (i : Item) → Wanted last s at i → Ends i s at → FieldStop last s 1
  -- 2: a uuid item or the flags above 255, a server version above 2^32-1
  large : {id from limit v to : ℕ} → AtValue last s id from → kind_of id ≡ up_to limit → varlen_at s from ≡ parsed v to → limit < v → FieldStop last s 2
  large_item : {i at v to : ℕ} → AtUuidItem last s i at → varlen_at s at ≡ parsed v to → 255 < v → FieldStop last s 2
  -- 3: gno, last_committed or sequence_number negative
  negative : {id from n to : ℕ} → AtValue last s id from → kind_of id ≡ natural → signed_at s from ≡ parsed (negsuc n) to → FieldStop last s 3
  -- 5: an unknown field id, at most the last non-ignorable id
  unknown_id : {id from : ℕ} → AtValue last s id from → kind_of id ≡ unknown → id ≤ last → FieldStop last s 5
  -- 6: the tag, which is all there, breaks the tag rule
  tag_rule : {from n to : ℕ} → AtValue last s 3 from → varlen_at s from ≡ parsed n to → to + n ≤ length s → is_tag (part s to n) ≡ false
      → FieldStop last s 6

-- ---- a tagged event

-- the envelope is read: the payload's size, the last non-ignorable id, and where the fields begin
pub record Envelope (s : List ℕ) (size last start : ℕ) : Type 0 where
  pub version : get_or s 0 0 ≡ 2
  pub from : ℕ
  pub sized : varlen_at s 1 ≡ parsed size from
  pub told : varlen_at s from ≡ parsed last start

pub data TaggedStop (s : List ℕ) : ℕ → Type 0 where
  -- 1: version byte, size or last non-ignorable id cut off; or the payload, which is itself one item, judged before its fields
  cut_version : length s < 1 → TaggedStop s 1
  cut_size : 1 ≤ length s → get_or s 0 0 ≡ 2 → Ends varlen s 1 → TaggedStop s 1
  cut_last : {size from : ℕ} → get_or s 0 0 ≡ 2 → varlen_at s 1 ≡ parsed size from → Ends varlen s from → TaggedStop s 1
  cut_payload : {size last start : ℕ} → Envelope s size last start → start ≤ size → length s < size → TaggedStop s 1
  -- 4: the version byte isn't 2
  wrong_version : 1 ≤ length s → (get_or s 0 0 ≡ 2 → ⊥) → TaggedStop s 4
  -- 9: the declared payload is smaller than its envelope
  small_payload : {size last start : ℕ} → Envelope s size last start → size < start → TaggedStop s 9
  -- 1, 2, 3, 5, 6: a fault of the fields
  in_fields : {size last start n : ℕ} → Envelope s size last start → start ≤ size → size ≤ length s
      → FieldStop last (part s start (size - start)) n → TaggedStop s n
  -- 7: the fields end without a tag
  no_tag : {size last start at : ℕ} {f : Fields} → Envelope s size last start → start ≤ size → size ≤ length s
      → fields_of last (part s start (size - start)) ≡ parsed f at → get_or f.present 3 false ≡ false → TaggedStop s 7
