-- Demand 1, the table for events: the event's bytes are laid out up to a place, and this is wrong there. No parser is named here.
use Rattle.std.specs.Prelude.{ℕ, ◌+◌, ◌-◌, ◌*◌, ◌^◌, ◌≤◌, ◌<◌, ◌≡◌, false, List, [], ◌∷◌, ◌++◌, ◌⊎◌, length}
use Rattle.misc.specs.Body.{body_limit}
use Rattle.misc.specs.Forms.{Number, Ones, Form}
use Rattle.packets.specs.Tag.{is_tag}
use Rattle.promises.specs.TaggedLayout.{Sent, Items, Value, FieldsLaid, sends}
use Rattle.promises.specs.UntaggedLayout.{PairIfLeft, LengthIfLeft}

-- ---- integers that the bytes end inside

pub data CutForm : List ℕ → Type 0 where
  nothing : CutForm []
  few : (t first : ℕ) (more : List ℕ) → t < 8 → Ones t first → length more < t → CutForm (first ∷ more)
  nine : (more : List ℕ) → length more < 8 → CutForm (0xFF ∷ more)

pub data CutLenenc : List ℕ → Type 0 where
  led_by_fc : (more : List ℕ) → length more < 2 → CutLenenc (0xFC ∷ more)
  led_by_fd : (more : List ℕ) → length more < 3 → CutLenenc (0xFD ∷ more)
  led_by_fe : (more : List ℕ) → length more < 8 → CutLenenc (0xFE ∷ more)

-- ---- the fields of a tagged event

-- fields that are in order, one after another
pub data FieldsFront : List ℕ → Type 0 where
  none : FieldsFront []
  more : {id : ℕ} {x : Sent} {bs value rest : List ℕ} → Form id bs → Value id x value → FieldsFront rest → FieldsFront (bs ++ value ++ rest)

-- what is wrong behind a field's id
pub data ValueFault (last : ℕ) : ℕ → List ℕ → ℕ → Type 0 where
  -- 1: the payload ends inside the number, an item of the uuid, or the tag's bytes
  cut_number : {id : ℕ} {rest : List ℕ} → id < 12 → (id ≡ 1 → ⊥) → CutForm rest → ValueFault last id rest 1
  cut_item : {us done rest : List ℕ} → Items us done → length us < 16 → CutForm rest → ValueFault last 1 (done ++ rest) 1
  cut_tag : {n : ℕ} {size : List ℕ} (rest : List ℕ) → Form n size → length rest < n → ValueFault last 3 (size ++ rest) 1
  -- 2: flags or an item of the uuid above 255, a server version above 2^32-1
  large_flags : {v : ℕ} {bs : List ℕ} (rest : List ℕ) → Form v bs → 255 < v → ValueFault last 0 (bs ++ rest) 2
  large_item : {u : ℕ} {us done bs : List ℕ} (rest : List ℕ) → Items us done → length us < 16 → Form u bs → 255 < u → ValueFault last 1 (done ++ (bs ++ rest)) 2
  large_version : {id v : ℕ} {bs : List ℕ} (rest : List ℕ) → (id ≡ 9) ⊎ (id ≡ 10) → Form v bs → 2 ^ 32 - 1 < v → ValueFault last id (bs ++ rest) 2
  -- 3: gno, last_committed or sequence_number is - (n + 1)
  negative : {id : ℕ} (n : ℕ) {bs : List ℕ} (rest : List ℕ) → (id ≡ 2) ⊎ ((id ≡ 4) ⊎ (id ≡ 5)) → Form (n * 2 + 1) bs → ValueFault last id (bs ++ rest) 3
  -- 5: an unknown id, at most the last non-ignorable one
  unknown_id : {id : ℕ} {rest : List ℕ} → 12 ≤ id → id ≤ last → ValueFault last id rest 5
  -- 6: the tag breaks the tag rule
  tag_rule : (t : List ℕ) {size : List ℕ} (rest : List ℕ) → Form (length t) size → is_tag t ≡ false → ValueFault last 3 (size ++ (t ++ rest)) 6

-- behind fields that are in order: an id that the payload ends inside, or an id and something wrong behind it
pub data FieldFault (last : ℕ) : List ℕ → ℕ → Type 0 where
  cut_id : {front rest : List ℕ} → FieldsFront front → 1 ≤ length rest → CutForm rest → FieldFault last (front ++ rest) 1
  bad_value : {id n : ℕ} {front bs rest : List ℕ} → FieldsFront front → Form id bs → ValueFault last id rest n → FieldFault last (front ++ (bs ++ rest)) n

-- ---- a tagged event

pub data TaggedFault : List ℕ → ℕ → Type 0 where
  -- 1: version byte, size or last non-ignorable id cut off; or the payload, which is itself one item, judged before its fields
  cut_version : TaggedFault [] 1
  cut_size : {rest : List ℕ} → CutForm rest → TaggedFault (2 ∷ rest) 1
  cut_last : {size : ℕ} {a rest : List ℕ} → Form size a → CutForm rest → TaggedFault (2 ∷ (a ++ rest)) 1
  cut_payload : {size last : ℕ} {a b : List ℕ} (rest : List ℕ) → Form size a → Form last b → length (2 ∷ (a ++ b)) ≤ size
      → length (2 ∷ (a ++ (b ++ rest))) < size
      → TaggedFault (2 ∷ (a ++ (b ++ rest))) 1
  -- 4: the version byte isn't 2
  wrong_version : {v : ℕ} {rest : List ℕ} → (v ≡ 2 → ⊥) → TaggedFault (v ∷ rest) 4
  -- 9: the declared payload is smaller than its envelope
  small_payload : {size last : ℕ} {a b : List ℕ} (rest : List ℕ) → Form size a → Form last b → size < length (2 ∷ (a ++ b))
      → TaggedFault (2 ∷ (a ++ (b ++ rest))) 9
  -- 1, 2, 3, 5, 6: a fault of the fields
  in_fields : {size last n : ℕ} {a b fields : List ℕ} (rest : List ℕ) → Form size a → Form last b → size ≡ length (2 ∷ (a ++ (b ++ fields)))
      → FieldFault last fields n
      → TaggedFault (2 ∷ (a ++ (b ++ (fields ++ rest)))) n
  -- 7: the fields end without a tag
  no_tag : {size last : ℕ} {a b fields : List ℕ} {told : List Sent} (rest : List ℕ) → Form size a → Form last b → size ≡ length (2 ∷ (a ++ (b ++ fields)))
      → FieldsLaid last told fields → sends 3 told ≡ false → TaggedFault (2 ∷ (a ++ (b ++ (fields ++ rest)))) 7

-- ---- an untagged event: `front` is flags, uuid and gno; `clock` is last_committed and sequence_number

pub data UntaggedFault : List ℕ → ℕ → Type 0 where
  -- 1: the body ends inside flags, uuid or gno; behind the typecode inside last_committed or sequence_number; inside an original timestamp, a
  -- transaction length or an original server version
  cut_opening : (s : List ℕ) → length s < 25 → UntaggedFault s 1
  cut_clock : (front rest : List ℕ) → length front ≡ 25 → length rest < 16 → UntaggedFault (front ++ (2 ∷ rest)) 1
  cut_timestamp : (v : ℕ) (front clock bs rest : List ℕ) → length front ≡ 25 → length clock ≡ 16 → Number 7 (v + 2 ^ 55) bs → v < 2 ^ 55 → length rest < 7
      → UntaggedFault (front ++ (2 ∷ (clock ++ (bs ++ rest)))) 1
  cut_length : {i o : ℕ} (front clock times rest : List ℕ) → length front ≡ 25 → length clock ≡ 16 → PairIfLeft 7 0 i o times rest → CutLenenc rest
      → UntaggedFault (front ++ (2 ∷ (clock ++ (times ++ rest)))) 1
  cut_version : {i o len : ℕ} (v : ℕ) (front clock times len_bytes bs rest : List ℕ) → length front ≡ 25 → length clock ≡ 16
      → PairIfLeft 7 0 i o times (len_bytes ++ (bs ++ rest)) → LengthIfLeft len len_bytes (bs ++ rest) → Number 4 (v + 2 ^ 31) bs → v < 2 ^ 31
      → length rest < 4 → UntaggedFault (front ++ (2 ∷ (clock ++ (times ++ (len_bytes ++ (bs ++ rest)))))) 1
  -- 10: a length-encoded lead byte FB or FF
  bad_lead : {i o : ℕ} (lead : ℕ) (front clock times rest : List ℕ) → length front ≡ 25 → length clock ≡ 16 → PairIfLeft 7 0 i o times (lead ∷ rest)
      → (lead ≡ 0xFB) ⊎ (lead ≡ 0xFF) → UntaggedFault (front ++ (2 ∷ (clock ++ (times ++ (lead ∷ rest))))) 10

-- ---- an event by its type and body

pub data EventFault (type : ℕ) (s : List ℕ) : ℕ → Type 0 where
  -- 11: a body over 65,536 bytes
  too_long : body_limit < length s → EventFault type s 11
  -- 8: an event type not served by this call
  wrong_type : length s ≤ body_limit → (type ≡ 33 → ⊥) → (type ≡ 34 → ⊥) → (type ≡ 42 → ⊥) → EventFault type s 8
  untagged : {n : ℕ} → length s ≤ body_limit → (type ≡ 33) ⊎ (type ≡ 34) → UntaggedFault s n → EventFault type s n
  tagged : {n : ℕ} → length s ≤ body_limit → type ≡ 42 → TaggedFault s n → EventFault type s n
