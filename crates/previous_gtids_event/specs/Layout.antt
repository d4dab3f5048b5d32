-- The layout of a Previous-GTIDs body (type 35): which bytes are which entries. No parser is named here.
use Rattle.std.specs.Prelude.{ℕ, ◌≡◌, Bool, true, false, List, [], ◌∷◌, ◌++◌, length}
use Rattle.misc.specs.Forms.{Number, Form}
use Rattle.packets.specs.Gno.{Interval, interval}
use Rattle.previous_gtids_event.specs.Entry.{Entry, entry}
use Rattle.packets.specs.Tag.{none_or_tag}

-- the header's eight bytes: whether the entries have tags, and how many there are
pub data HeaderLaid : Bool → ℕ → List ℕ → Type 0 where
  -- with top byte 0 the seven others count the entries
  plain : {n : ℕ} {count : List ℕ} → Number 7 n count → HeaderLaid false n (count ++ (0 ∷ []))
  -- with any other top byte the entries have tags, and bits 8 to 55 count them
  tagged : {n : ℕ} {count : List ℕ} (bottom top : ℕ) → Number 6 n count → (top ≡ 0 → ⊥) → HeaderLaid true n (bottom ∷ (count ++ (top ∷ [])))

-- nothing in an untagged body; else a length, in any form, and no tag or one that obeys the tag rule
pub data TagLaid : Bool → List ℕ → List ℕ → Type 0 where
  untagged : TagLaid false [] []
  sized : {t size : List ℕ} → Form (length t) size → none_or_tag t ≡ true → TagLaid true t (size ++ t)

-- each interval: its start, and the end that it doesn't reach
pub data IntervalsLaid : List Interval → List ℕ → Type 0 where
  none : IntervalsLaid [] []
  more : {start end : ℕ} {a b rest : List ℕ} {is : List Interval} → Number 8 start a → Number 8 end b → IntervalsLaid is rest
      → IntervalsLaid (interval start end ∷ is) (a ++ (b ++ rest))

-- uuid, tag, how many intervals, and these
pub data EntryLaid (tagged : Bool) : Entry → List ℕ → Type 0 where
  parts : (uuid : List ℕ) {tag bytes count intervals : List ℕ} {is : List Interval} → length uuid ≡ 16 → TagLaid tagged tag bytes
      → Number 8 (length is) count → IntervalsLaid is intervals → EntryLaid tagged (entry (uuid ++ tag) is) (uuid ++ (bytes ++ (count ++ intervals)))

pub data EntriesLaid (tagged : Bool) : List Entry → List ℕ → Type 0 where
  none : EntriesLaid tagged [] []
  more : {e : Entry} {es : List Entry} {one rest : List ℕ} → EntryLaid tagged e one → EntriesLaid tagged es rest → EntriesLaid tagged (e ∷ es) (one ++ rest)

-- the body: a header, the entries that it counts, and what is behind them, unread
pub record BodyLaid (s : List ℕ) (es : List Entry) (used : ℕ) : Type 0 where
  pub tagged : Bool
  pub header : List ℕ
  pub entries : List ℕ
  pub unread : List ℕ
  pub whole : s ≡ header ++ (entries ++ unread)
  pub says : HeaderLaid tagged (length es) header
  pub laid : EntriesLaid tagged es entries
  pub uses : used ≡ length (header ++ entries)
