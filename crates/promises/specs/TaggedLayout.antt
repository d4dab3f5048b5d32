-- Demand 2, the layout of a tagged record (type 42): which bytes are which record. No parser is named here.
use Rattle.std.specs.Prelude.{ℕ, ◌-◌, ◌*◌, ◌^◌, ◌≤◌, ◌<◌, ◌≡◌, Bool, true, false, ◌||◌, List, [], ◌∷◌, ◌++◌, map, eqb, length, replicate}
use Rattle.misc.specs.Pick.{pick}
use Rattle.misc.specs.Forms.{Form}
use Rattle.packets.specs.Kept.{padded}
use Rattle.packets.specs.Tag.{is_tag}
use Rattle.gtid_event.specs.declared.GtidEvent.{GtidEvent}
use Rattle.gtid_event_read.specs.Seen.{Seen}

-- ---- fields

-- what a field says: a number, by the field's id; the uuid; or the tag
pub data Sent : Type 0 where
  number : ℕ → ℕ → Sent
  the_uuid : List ℕ → Sent
  the_tag : List ℕ → Sent

-- integers one after another, each a byte
pub data Items : List ℕ → List ℕ → Type 0 where
  none : Items [] []
  more : {u : ℕ} {us bs rest : List ℕ} → Form u bs → u ≤ 255 → Items us rest → Items (u ∷ us) (bs ++ rest)

-- the table: an id, what its field says, and the bytes of the value. A signed integer that isn't negative is sent as its double
pub data Value : ℕ → Sent → List ℕ → Type 0 where
  gtid_flags : {v : ℕ} {bs : List ℕ} → Form v bs → v ≤ 255 → Value 0 (number 0 v) bs
  uuid : {us bs : List ℕ} → Items us bs → length us ≡ 16 → Value 1 (the_uuid us) bs
  gno : {v : ℕ} {bs : List ℕ} → Form (v * 2) bs → Value 2 (number 2 v) bs
  tag : {t bs : List ℕ} → Form (length t) bs → is_tag t ≡ true → Value 3 (the_tag t) (bs ++ t)
  last_committed : {v : ℕ} {bs : List ℕ} → Form (v * 2) bs → Value 4 (number 4 v) bs
  sequence_number : {v : ℕ} {bs : List ℕ} → Form (v * 2) bs → Value 5 (number 5 v) bs
  immediate_commit_timestamp : {v : ℕ} {bs : List ℕ} → Form v bs → Value 6 (number 6 v) bs
  original_commit_timestamp : {v : ℕ} {bs : List ℕ} → Form v bs → Value 7 (number 7 v) bs
  transaction_length : {v : ℕ} {bs : List ℕ} → Form v bs → Value 8 (number 8 v) bs
  immediate_server_version : {v : ℕ} {bs : List ℕ} → Form v bs → v ≤ 2 ^ 32 - 1 → Value 9 (number 9 v) bs
  original_server_version : {v : ℕ} {bs : List ℕ} → Form v bs → v ≤ 2 ^ 32 - 1 → Value 10 (number 10 v) bs
  commit_group_ticket : {v : ℕ} {bs : List ℕ} → Form v bs → Value 11 (number 11 v) bs

-- fields in any order, each an id and its value; then nothing, or an unknown id above the last non-ignorable one, and anything
pub data FieldsLaid (last : ℕ) : List Sent → List ℕ → Type 0 where
  end : FieldsLaid last [] []
  ignored : {id : ℕ} {bs : List ℕ} (rest : List ℕ) → Form id bs → 12 ≤ id → last < id → FieldsLaid last [] (bs ++ rest)
  field : {id : ℕ} {x : Sent} {told : List Sent} {bs value rest : List ℕ} → Form id bs → Value id x value → FieldsLaid last told rest
      → FieldsLaid last (x ∷ told) (bs ++ value ++ rest)

-- ---- which were there

-- the id of the field that says this
abbrev pub id_of : Sent → ℕ
id_of (number id v) = id
id_of (the_uuid us) = 1
id_of (the_tag t) = 3

-- whether a field with this id is among them
abbrev pub sends : ℕ → List Sent → Bool
sends id [] = false
sends id (x ∷ told) = eqb (id_of x) id || sends id told

-- each of the twelve
abbrev pub sent_fields : List Sent → List Bool
sent_fields told = map (λ id. sends id told) (0 ∷ 1 ∷ 2 ∷ 3 ∷ 4 ∷ 5 ∷ 6 ∷ 7 ∷ 8 ∷ 9 ∷ 10 ∷ 11 ∷ [])

-- ---- what they say: the last field of an id counts; where there is none, what stands for an absent one

abbrev pub last_number : ℕ → List Sent → ℕ → ℕ
last_number id [] absent = absent
last_number id (number k v ∷ told) absent = last_number id told (pick (eqb k id) v absent)
last_number id (the_uuid us ∷ told) absent = last_number id told absent
last_number id (the_tag t ∷ told) absent = last_number id told absent

abbrev pub last_uuid : List Sent → List ℕ → List ℕ
last_uuid [] absent = absent
last_uuid (number k v ∷ told) absent = last_uuid told absent
last_uuid (the_uuid us ∷ told) absent = last_uuid told us
last_uuid (the_tag t ∷ told) absent = last_uuid told absent

abbrev pub last_tag : List Sent → List ℕ → List ℕ
last_tag [] absent = absent
last_tag (number k v ∷ told) absent = last_tag told absent
last_tag (the_uuid us ∷ told) absent = last_tag told absent
last_tag (the_tag t ∷ told) absent = last_tag told t

-- the record: absent originals equal the immediates, absent versions are 999,999, absent others 0; no typecode
abbrev pub said : List Sent → GtidEvent
said told =
    record {
      flags = last_number 0 told 0;
      sid = last_uuid told (replicate 16 0);
      gno = last_number 2 told 0;
      tag = padded 32 (last_tag told []);
      tag_len = length (last_tag told []);
      lc_typecode = 0;
      last_committed = last_number 4 told 0;
      sequence_number = last_number 5 told 0;
      immediate_commit_timestamp = last_number 6 told 0;
      original_commit_timestamp = last_number 7 told (last_number 6 told 0);
      tx_length = last_number 8 told 0;
      immediate_server_version = last_number 9 told 999999;
      original_server_version = last_number 10 told (last_number 9 told 999999);
      commit_group_ticket = last_number 11 told 0;
    }

abbrev pub seen_in : List Sent → Seen
seen_in told = record { event = said told; present = sent_fields told }

-- ---- the record's bytes: version byte 2, the size, which counts them all and is what is used, the last non-ignorable id, the fields, among them a
-- tag; and what is behind them, unread
pub record TaggedLaid (s : List ℕ) (x : Seen) (used : ℕ) : Type 0 where
  pub last : ℕ
  pub size_bytes : List ℕ
  pub last_bytes : List ℕ
  pub fields : List ℕ
  pub unread : List ℕ
  pub whole : s ≡ (2 ∷ []) ++ size_bytes ++ last_bytes ++ fields ++ unread
  pub size_is : Form used size_bytes
  pub last_is : Form last last_bytes
  pub counts : used ≡ length ((2 ∷ []) ++ size_bytes ++ last_bytes ++ fields)
  pub told : List Sent
  pub fields_are : FieldsLaid last told fields
  pub tagged : sends 3 told ≡ true
  pub is : x ≡ seen_in told
