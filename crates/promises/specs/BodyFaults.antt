-- Demand 1, the table for Previous-GTIDs bodies: the bytes are laid out up to a place, and this is wrong there. No parser is named here.
use Rattle.std.specs.Prelude.{ℕ, ◌*◌, ◌≤◌, ◌<◌, ◌≡◌, Bool, true, false, List, ◌++◌, length}
use Rattle.misc.specs.Body.{body_limit}
use Rattle.misc.specs.Forms.{Number, Form}
use Rattle.previous_gtids_event.specs.Entry.{Entry}
use Rattle.packets.specs.Tag.{none_or_tag}
use Rattle.previous_gtids_event.specs.Layout.{HeaderLaid, TagLaid, EntriesLaid}
use Rattle.promises.specs.Faults.{CutForm}

-- ---- what is wrong with an entry

pub data EntryFault : Bool → List ℕ → ℕ → Type 0 where
  -- 1: the bytes end inside the uuid, the tag's length, the tag, the count, or the intervals
  cut_uuid : {tagged : Bool} {rest : List ℕ} → length rest < 16 → EntryFault tagged rest 1
  cut_tag_length : (uuid : List ℕ) {rest : List ℕ} → length uuid ≡ 16 → CutForm rest → EntryFault true (uuid ++ rest) 1
  cut_tag : {n : ℕ} (uuid : List ℕ) {size : List ℕ} (rest : List ℕ) → length uuid ≡ 16 → Form n size → length rest < n
      → EntryFault true (uuid ++ (size ++ rest)) 1
  cut_count : {tagged : Bool} (uuid : List ℕ) {tag bytes : List ℕ} (rest : List ℕ) → length uuid ≡ 16 → TagLaid tagged tag bytes → length rest < 8
      → EntryFault tagged (uuid ++ (bytes ++ rest)) 1
  cut_intervals : {tagged : Bool} {n : ℕ} (uuid : List ℕ) {tag bytes count : List ℕ} (rest : List ℕ) → length uuid ≡ 16 → TagLaid tagged tag bytes
      → Number 8 n count → length rest < 16 * n → EntryFault tagged (uuid ++ (bytes ++ (count ++ rest))) 1
  -- 6: the tag breaks the tag rule
  tag_rule : (uuid t : List ℕ) {size : List ℕ} (rest : List ℕ) → length uuid ≡ 16 → Form (length t) size → none_or_tag t ≡ false
      → EntryFault true (uuid ++ (size ++ (t ++ rest))) 6

-- ---- a body

pub data BodyFault : List ℕ → ℕ → Type 0 where
  -- 11: a body over 65,536 bytes
  too_long : (s : List ℕ) → body_limit < length s → BodyFault s 11
  -- 1: it ends inside the header
  cut_header : (s : List ℕ) → length s < 8 → BodyFault s 1
  -- 1, 6: a fault of an entry that the header counts, behind entries that are in order
  in_entries : {tagged : Bool} {count n : ℕ} {es : List Entry} {header front rest : List ℕ} → length (header ++ (front ++ rest)) ≤ body_limit
      → HeaderLaid tagged count header → EntriesLaid tagged es front → length es < count → EntryFault tagged rest n → BodyFault (header ++ (front ++ rest)) n
