-- The building of a record told once more, part by part: which parts a new record has, and that each step changes its own part alone.
use Rattle.std.specs.Prelude.{ℕ, ◌≡◌, true, List, [], ◌∷◌, length, set, Result, Ok}
use Rattle.misc.specs.declared.refusal.Refusal.{Refusal}
use Rattle.packets.specs.Kept.{padded}
use Rattle.packets.specs.Tag.{is_tag}
use Rattle.gtid_event.specs.Event.{new_untagged, new_tagged, with_tag, set_number, set_sid, set_typecode}
use Rattle.gtid_event.specs.declared.GtidEvent.{GtidEvent}

-- a number as a part
abbrev pub only : ℕ → List ℕ
only v = v ∷ []

-- a tag as a part: its length, and its field
abbrev pub tag_part : List ℕ → List ℕ
tag_part tag = length tag ∷ padded 32 tag

-- the parts in the order of the ids that the tagged layout gives them, and the typecode, which it hasn't, behind them
abbrev pub parts : GtidEvent → List (List ℕ)
parts e =
    only e.flags
    ∷ e.sid
    ∷ only e.gno
    ∷ (e.tag_len ∷ e.tag)
    ∷ only e.last_committed
    ∷ only e.sequence_number
    ∷ only e.immediate_commit_timestamp
    ∷ only e.original_commit_timestamp
    ∷ only e.tx_length
    ∷ only e.immediate_server_version
    ∷ only e.original_server_version
    ∷ only e.commit_group_ticket
    ∷ only e.lc_typecode
    ∷ []

-- those of a new record: server versions 999,999, and zeros but for what is given
abbrev pub new_parts : List ℕ → List ℕ → ℕ → ℕ → List (List ℕ)
new_parts sid tag gno typecode =
    only 0 ∷ sid ∷ only gno ∷ tag_part tag
    ∷ only 0 ∷ only 0 ∷ only 0 ∷ only 0 ∷ only 0
    ∷ only 999999 ∷ only 999999 ∷ only 0 ∷ only typecode ∷ []

-- not refused, and a record with these parts
abbrev pub Gives : Result GtidEvent Refusal → List (List ℕ) → Type 0
Gives r ps = (e : GtidEvent) × (r ≡ Ok e) × (parts e ≡ ps)

-- the parts that are numbers
pub data IsNumber : ℕ → Type 0 where
  flags : IsNumber 0
  gno : IsNumber 2
  last_committed : IsNumber 4
  sequence_number : IsNumber 5
  immediate_commit_timestamp : IsNumber 6
  original_commit_timestamp : IsNumber 7
  tx_length : IsNumber 8
  immediate_server_version : IsNumber 9
  original_server_version : IsNumber 10
  commit_group_ticket : IsNumber 11

pub record Built : Type 0 where
  -- records with the same parts are the same
  pub whole : (a b : GtidEvent) → parts a ≡ parts b → a ≡ b
  -- new records
  pub new : (sid : List ℕ) (gno : ℕ) → parts (new_untagged sid gno) ≡ new_parts sid [] gno 2
  pub new_tagged : (sid tag : List ℕ) (gno : ℕ) → is_tag tag ≡ true → Gives (new_tagged sid tag gno) (new_parts sid tag gno 0)
  -- steps: one part has another value. So a tag keeps the typecode and the versions that it finds, whatever they are
  pub with_number : {id : ℕ} → IsNumber id → (v : ℕ) (e : GtidEvent) → parts (set_number id v e) ≡ set (parts e) id (only v)
  pub with_sid : (sid : List ℕ) (e : GtidEvent) → parts (set_sid sid e) ≡ set (parts e) 1 sid
  pub with_tag : (tag : List ℕ) (e : GtidEvent) → is_tag tag ≡ true → Gives (with_tag tag e) (set (parts e) 3 (tag_part tag))
  pub with_typecode : (typecode : ℕ) (e : GtidEvent) → parts (set_typecode typecode e) ≡ set (parts e) 12 (only typecode)
