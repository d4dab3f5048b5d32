-- The fields of a tagged event, as the server's serialization library sends them: an id and, by the id, a value.
use Rattle.std.specs.Prelude.{ℕ, zero, suc, ◌-◌, ◌^◌, true, false, List, [], ◌∷◌, length, get_or, set, replicate, leb, ltb}
use Rattle.misc.specs.Pick.{pick}
use Rattle.misc.specs.Refusal.{too_large, unknown_field, bad_tag}
use Rattle.misc.specs.Parse.{Parse, refuse, parsed, and_then, mapped, judged, many, bytes_at}
use Rattle.misc.specs.Varlen.{varlen_at}
use Rattle.misc.specs.Signed.{natural_at}
use Rattle.packets.specs.Kept.{padded}
use Rattle.packets.specs.Tag.{is_tag}
use Rattle.gtid_event.specs.Event.{undefined_version}
use Rattle.gtid_event_read.specs.declared.Fields.{Fields}

-- ---- the table

-- what a field's value is
pub data Kind : Type 0 where
  -- an unsigned integer
  any_number : Kind
  -- one that is at most this
  up_to : ℕ → Kind
  -- a signed integer that isn't negative
  natural : Kind
  -- 16 unsigned integers, each a byte
  uuid : Kind
  -- a length and so many bytes, which obey the tag rule
  tag : Kind
  -- no field has this id
  unknown : Kind

-- the twelve fields, by their ids from 0 on
abbrev pub field_table : List Kind
field_table =
    -- flags, uuid, gno, tag
    up_to 255 ∷ uuid ∷ natural ∷ tag
    -- last_committed, sequence_number
    ∷ natural ∷ natural
    -- immediate and original commit timestamp, transaction length
    ∷ any_number ∷ any_number ∷ any_number
    -- immediate and original server version, commit group ticket
    ∷ up_to (2 ^ 32 - 1) ∷ up_to (2 ^ 32 - 1) ∷ any_number ∷ []

abbrev pub kind_of : ℕ → Kind
kind_of id = get_or field_table id unknown

-- ---- what has been read so far

-- nothing: all zero, but for the server version
abbrev pub no_fields : Fields
no_fields =
    record {
      numbers = set (replicate 12 0) 9 undefined_version;
      sid = replicate 16 0;
      tag = replicate 32 0;
      tag_len = 0;
      present = replicate 12 false;
    }

-- a number in the field with this id; the last of a repeated field counts
abbrev pub with_number : ℕ → Fields → ℕ → Fields
with_number id f v =
    record { numbers = set f.numbers id v; sid = f.sid; tag = f.tag; tag_len = f.tag_len; present = set f.present id true }

abbrev pub with_uuid : Fields → List ℕ → Fields
with_uuid f sid = record { numbers = f.numbers; sid = sid; tag = f.tag; tag_len = f.tag_len; present = set f.present 1 true }

abbrev pub with_tag_bytes : Fields → List ℕ → Fields
with_tag_bytes f bs = record { numbers = f.numbers; sid = f.sid; tag = padded 32 bs; tag_len = length bs; present = set f.present 3 true }

-- ---- one field

unfoldable pub limited_at : ℕ → List ℕ → ℕ → Parse ℕ
limited_at limit s at = judged (λ v. leb v limit) too_large (varlen_at s at)

-- each of the sixteen is judged before the next is read
unfoldable pub uuid_at : List ℕ → ℕ → Parse (List ℕ)
uuid_at s at = many (limited_at 255 s) 16 at

-- a length, and so many bytes
abbrev pub string_at : List ℕ → ℕ → Parse (List ℕ)
string_at s at = and_then (varlen_at s at) (λ n from. bytes_at n s from)

-- the tag with its length is one item
unfoldable pub tag_at : List ℕ → ℕ → Parse (List ℕ)
tag_at s at = judged is_tag bad_tag (string_at s at)

-- the value of the field with this id, read and kept. An unknown field is refused up to the last id that may not be ignored, and
-- above it ends the fields
abbrev pub value_at : Kind → ℕ → ℕ → List ℕ → Fields → ℕ → Parse Fields
value_at any_number last id s f at = mapped (with_number id f) (varlen_at s at)
value_at (up_to limit) last id s f at = mapped (with_number id f) (limited_at limit s at)
value_at natural last id s f at = mapped (with_number id f) (natural_at s at)
value_at uuid last id s f at = mapped (with_uuid f) (uuid_at s at)
value_at tag last id s f at = mapped (with_tag_bytes f) (tag_at s at)
value_at unknown last id s f at = pick (leb id last) (refuse unknown_field) (parsed f (length s))

unfoldable pub field_at : ℕ → List ℕ → Fields → ℕ → Parse Fields
field_at last s f at = and_then (varlen_at s at) (λ id from. value_at (kind_of id) last id s f from)

-- ---- all fields: one after another up to the end of s. (n bounds their number; each takes a byte at least)
unfoldable pub fields_from : ℕ → ℕ → List ℕ → Fields → ℕ → Parse Fields
fields_from zero last s f at = parsed f at
fields_from (suc n) last s f at =
    pick (ltb at (length s)) (and_then (field_at last s f at) (λ more next. fields_from n last s more next)) (parsed f at)

abbrev pub fields_of : ℕ → List ℕ → Parse Fields
fields_of last s = fields_from (length s) last s no_fields 0
