-- Demand 1, the table for the calls that read one integer or one part of a body, that add a tag, and that write. `rest` are the bytes from the
-- call's place on. No parser is named here.
use Rattle.std.specs.Prelude.{ℕ, ◌+◌, ◌*◌, ◌≤◌, ◌<◌, ◌≡◌, Bool, false, List, [], ◌∷◌, ◌++◌, ◌⊎◌, length, drop}
use Rattle.misc.specs.Body.{body_limit}
use Rattle.misc.specs.Forms.{Form}
use Rattle.packets.specs.Tag.{is_tag}
use Rattle.previous_gtids_event.specs.Entry.{Entry}
use Rattle.previous_gtids_event.specs.Layout.{HeaderLaid, EntriesLaid}
use Rattle.gtid_event.specs.declared.GtidEvent.{GtidEvent}
use Rattle.gtid_event_write.specs.Writable.{writable}
use Rattle.promises.specs.Faults.{CutForm, CutLenenc}
use Rattle.promises.specs.BodyFaults.{EntryFault}

-- ---- one integer

-- so many bytes
pub data FixedFault (width : ℕ) (rest : List ℕ) : ℕ → Type 0 where
  -- 1: they aren't all there
  cut : length rest < width → FixedFault width rest 1

-- a variable-length integer, signed or not
pub data VarlenFault (rest : List ℕ) : ℕ → Type 0 where
  -- 1: the bytes end inside it
  cut : CutForm rest → VarlenFault rest 1

-- a signed one that may not be negative
pub data NaturalFault : List ℕ → ℕ → Type 0 where
  cut : {rest : List ℕ} → CutForm rest → NaturalFault rest 1
  -- 3: it is - (n + 1)
  negative : (n : ℕ) {bs : List ℕ} (rest : List ℕ) → Form (n * 2 + 1) bs → NaturalFault (bs ++ rest) 3

-- a length-encoded one
pub data LenencFault : List ℕ → ℕ → Type 0 where
  nothing : LenencFault [] 1
  cut : {rest : List ℕ} → CutLenenc rest → LenencFault rest 1
  -- 10: its lead byte is FB or FF
  bad_lead : (lead : ℕ) (rest : List ℕ) → (lead ≡ 0xFB) ⊎ (lead ≡ 0xFF) → LenencFault (lead ∷ rest) 10

-- ---- a part of a body, whose length is judged first

pub data OfBody (body : List ℕ) (Fault : ℕ → Type 0) : ℕ → Type 0 where
  -- 11: a body over 65,536 bytes
  too_long : body_limit < length body → OfBody body Fault 11
  in_part : {n : ℕ} → length body ≤ body_limit → Fault n → OfBody body Fault n

-- the entry at a place, with tags if the header says so; `left` says how many entries are wanted there, and where none is, only the header is read
pub data HeadedFault (left at : ℕ) (body : List ℕ) : ℕ → Type 0 where
  -- 1: the body ends inside the header
  cut_header : length body < 8 → HeadedFault left at body 1
  -- 1, 6: a fault of the entry
  in_entry : {tagged : Bool} {count n : ℕ} {header : List ℕ} (rest : List ℕ) → body ≡ header ++ rest → HeaderLaid tagged count header → (left ≡ 0 → ⊥)
      → EntryFault tagged (drop at body) n → HeadedFault left at body n

-- entry number `index`, from 0 on, behind all before it
pub data NumberFault (index : ℕ) (body : List ℕ) : ℕ → Type 0 where
  cut_header : length body < 8 → NumberFault index body 1
  -- 1, 6: a fault of this entry or of one before it, among those that the header counts
  in_entries : {tagged : Bool} {count n : ℕ} {es : List Entry} {header front rest : List ℕ} → body ≡ header ++ (front ++ rest) → HeaderLaid tagged count header
      → EntriesLaid tagged es front → length es ≤ index → length es < count → EntryFault tagged rest n → NumberFault index body n

-- ---- a tag that is added, and a record that is to be written

pub data TagFault (tag : List ℕ) : ℕ → Type 0 where
  -- 6: it breaks the tag rule
  tag_rule : is_tag tag ≡ false → TagFault tag 6

pub data RecordFault (e : GtidEvent) : ℕ → Type 0 where
  -- 12: it isn't writable
  not_writable : writable e ≡ false → RecordFault e 12

-- ---- a call that writes: the refusal's number, and the length that it names

-- 13: the output is shorter than the bytes, whose length is told
pub data ShortFault (bs : List ℕ) (room : ℕ) : ℕ → ℕ → Type 0 where
  short : room < length bs → ShortFault bs room 13 (length bs)

-- what it was asked to write is at fault; or there are bytes to be written, and no room for them
pub data WriteFault (Fault : ℕ → Type 0) (Gives : List ℕ → Type 0) (room : ℕ) : ℕ → ℕ → Type 0 where
  itself : {n : ℕ} → Fault n → WriteFault Fault Gives room n 0
  no_room : {bs : List ℕ} {n len : ℕ} → Gives bs → ShortFault bs room n len → WriteFault Fault Gives room n len
