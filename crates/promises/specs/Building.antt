-- Building a record: each step changes its own part alone, and a new record has the server versions that a reader gives where none were sent.
use Rattle.std.specs.Prelude.{ℕ, ◌^◌, ◌<◌, ◌≡◌, true, false, List, [], ◌∷◌, ◌++◌, length, Result, Ok}
use Rattle.misc.specs.declared.refusal.Refusal.{Refusal}
use Rattle.misc.specs.Parse.{Bytes, parsed}
use Rattle.misc.specs.Le.{le_bytes}
use Rattle.misc.specs.Output.{bytes}
use Rattle.packets.specs.Tag.{is_tag}
use Rattle.gtid_event.specs.Event.{new_untagged, new_tagged, with_tag, set_typecode}
use Rattle.gtid_event.specs.Parts.{Built}
use Rattle.gtid_event.specs.declared.GtidEvent.{GtidEvent}
use Rattle.gtid_event_read.specs.Seen.{Seen}
use Rattle.gtid_event_read.specs.Read.{gtid}
use Rattle.gtid_event_write.specs.Write.{event_output}
use Rattle.promises.specs.UntaggedLayout.{ShortLaid, LongLaid}
use Rattle.promises.specs.TaggedLayout.{sends, TaggedLaid}

-- the server versions of a record, immediate and original
abbrev pub server_versions : GtidEvent → List ℕ
server_versions e = e.immediate_server_version ∷ e.original_server_version ∷ []

-- bytes that are laid out as this record, and so read as it, in which no server version was sent
pub data Unversioned (s : List ℕ) (e : GtidEvent) (used : ℕ) : Type 0 where
  -- there is no typecode, and so nothing behind the gno
  short : ShortLaid s e used → Unversioned s e used
  -- nothing is left for the versions
  long : (laid : LongLaid s e used) → laid.versions ≡ [] → Unversioned s e used
  -- neither field is there
  tagged : {x : Seen} (laid : TaggedLaid s x used) → e ≡ x.event → sends 9 laid.told ≡ false → sends 10 laid.told ≡ false → Unversioned s e used

-- of anything that makes a record of a uuid and a gno: it has the versions that a reader gives where none were sent
abbrev pub NewVersions : (List ℕ → ℕ → GtidEvent) → Type 0
NewVersions new = (s : List ℕ) (e : GtidEvent) (used : ℕ) → Unversioned s e used → (sid : List ℕ) (gno : ℕ)
    → server_versions (new sid gno) ≡ server_versions e

-- of any step that adds a tag: it does, and the versions stay
abbrev pub KeepsVersions : (List ℕ → GtidEvent → Result GtidEvent Refusal) → Type 0
KeepsVersions step = (tag : List ℕ) (e : GtidEvent) → is_tag tag ≡ true → (x : GtidEvent) × (step tag e ≡ Ok x) × (server_versions x ≡ server_versions e)

pub record Building : Type 0 where
  -- new records and steps, part by part
  pub built : Built
  -- tagged or not, a new record has the versions that a reader gives where none were sent
  pub untagged : NewVersions new_untagged
  pub tagged : (tag : List ℕ) → is_tag tag ≡ true
      → (new : List ℕ → ℕ → GtidEvent) × ((sid : List ℕ) (gno : ℕ) → new_tagged sid tag gno ≡ Ok (new sid gno)) × NewVersions new
  -- a tag keeps the versions that it finds, also those that were set to 0 (`zeros-kept` of proofs/BuildingHolds.antt)
  pub kept : KeepsVersions with_tag
  -- without its typecode a new untagged record is written, as 25 bytes, flags, uuid and gno, and comes back equal from them
  pub written : (sid : List ℕ) (gno : ℕ) → length sid ≡ 16 → Bytes sid → gno < 2 ^ 64
      → let bare : GtidEvent = set_typecode 0 (new_untagged sid gno) in
      let bs : List ℕ = 0 ∷ (sid ++ le_bytes 8 gno) in
      (event_output bare ≡ bytes bs) × (length bs ≡ 25) × (gtid 33 bs ≡ parsed bare 25)
