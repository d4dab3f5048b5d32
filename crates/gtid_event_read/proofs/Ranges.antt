-- What every record that is read from bytes has: its numbers within their fields, its uuid whole, its tag kept as a record keeps one.
use mathlib.Core.Path.{◌≡◌, refl}
use mathlib.Core.Logic.{◌⊎◌, inl, inr}
use mathlib.Core.Bool.{Bool, true, false}
use mathlib.Core.List.{List}
use Prim.Native.Nat.{ℕ, ◌+◌, ◌-◌, ◌*◌, ◌^◌, ◌<◌}
use native.Mathlib.Omega.{arith}
use lib.Dec.{leb}
use lib.ListN.{length, get_or, replicate}
use Rattle.misc.specs.Pick.{pick}
use Rattle.misc.specs.Parse.{Bytes, parsed, part, bytes_at}
use Rattle.misc.specs.Le.{le_at}
use Rattle.misc.specs.Mark.{has_bit, clear_bit}
use Rattle.misc.proofs.ParseLaws.{then-parsed, mapped-parsed, pick-either, bytes-parsed, part_length}
use Rattle.misc.proofs.LeLaws.{pow-bytes}
use Rattle.misc.proofs.Bounds.{part_bytes, byte-below, le_below, lenenc-below, cleared-below, unmarked-below}
use Rattle.packets.specs.Kept.{padded}
use Rattle.packets.specs.Tag.{is_tag}
use Rattle.gtid_event.specs.Event.{undefined_version}
use Rattle.gtid_event.specs.declared.GtidEvent.{GtidEvent}
use Rattle.gtid_event_read.specs.Seen.{Seen}
use Rattle.gtid_event_read.specs.Untagged.{Pair, pair, original_after, pair_at, timestamps_at, length_at, versions_at, opened, opening_at, clocked, typecode_at}
use Rattle.gtid_event_read.specs.Untagged.{untagged}
use Rattle.gtid_event_read.specs.Tagged.{record_of, tagged}
use Rattle.gtid_event_read.specs.Range.{InRange}
use Rattle.gtid_event_read.specs.Read.{gtid}
use Rattle.gtid_event_read.specs.declared.Fields.{Fields}
use Rattle.gtid_event_read.proofs.FieldRanges.{Shaped, fields-in-range, fields-shaped}
use Rattle.gtid_event_read.proofs.UntaggedLaws.{OpeningParts, opening-parsed, clock-parsed}
use Rattle.gtid_event_read.proofs.TaggedLaws.{tagged-parsed}
use Rattle.gtid_event_read.proofs.ReadLaws.{seen-parsed, gtid-parsed}

-- ---- tagged records
pub record TaggedRange (e : GtidEvent) : Type 0 where
  pub uuid : length e.sid ≡ 16
  pub uuid-bytes : Bytes e.sid
  pub tag : List ℕ
  pub kept : e.tag ≡ padded 32 tag
  pub counted : e.tag_len ≡ length tag
  pub valid : is_tag tag ≡ true
  pub typecode : e.lc_typecode ≡ 0
  pub flags : e.flags < 2 ^ 8
  pub gno : e.gno < 2 ^ 63
  pub last_committed : e.last_committed < 2 ^ 63
  pub sequence_number : e.sequence_number < 2 ^ 63
  pub immediate-timestamp : e.immediate_commit_timestamp < 2 ^ 64
  pub original-timestamp : e.original_commit_timestamp < 2 ^ 64
  pub tx_length : e.tx_length < 2 ^ 64
  pub immediate-version : e.immediate_server_version < 2 ^ 32
  pub original-version : e.original_server_version < 2 ^ 32
  pub ticket : e.commit_group_ticket < 2 ^ 64

pick-below : (t : Bool) (a b n : ℕ) → a < n → b < n → pick t a b < n
pick-below true a b n h k = h
pick-below false a b n h k = k

record-range : (f : Fields) → InRange f.numbers → Shaped f → get_or f.present 3 false ≡ true → TaggedRange (record_of f)
record-range f n h there = record {
  uuid = h.uuid;
  uuid-bytes = h.uuid-bytes;
  tag = h.tag;
  kept = h.kept;
  counted = h.counted;
  valid = h.valid there;
  typecode = refl;
  flags = omega (arith, n.limited 0);
  gno = omega (arith, n.limited 2);
  last_committed = omega (arith, n.limited 4);
  sequence_number = omega (arith, n.limited 5);
  immediate-timestamp = omega (arith, n.limited 6);
  original-timestamp = pick-below (get_or f.present 7 false) (get_or f.numbers 7 0) (get_or f.numbers 6 0) (2 ^ 64) (omega (arith, n.limited 7))
      (omega (arith, n.limited 6));
  tx_length = omega (arith, n.limited 8);
  immediate-version = omega (arith, n.limited 9);
  original-version = pick-below (get_or f.present 10 false) (get_or f.numbers 10 0) (get_or f.numbers 9 0) (2 ^ 32) (omega (arith, n.limited 10))
      (omega (arith, n.limited 9));
  ticket = omega (arith, n.limited 11);
}

pub tagged-range : (s : List ℕ) → Bytes s → {x : Seen} {next : ℕ} → tagged s ≡ parsed x next → TaggedRange x.event
tagged-range s bytes q =
    let t = tagged-parsed s q in
    let size = t.size - t.start in
    let inner = part s t.start size in
    let numbers = fields-in-range t.last inner (part_bytes s t.start size bytes) t.fields_read in
    rw t.is (record-range t.fields numbers (fields-shaped t.last inner t.fields_read) t.tag_there)

-- ---- untagged records
pub record UntaggedRange (e : GtidEvent) : Type 0 where
  pub uuid : length e.sid ≡ 16
  pub uuid-bytes : Bytes e.sid
  pub no_tag : e.tag ≡ replicate 32 0
  pub none : e.tag_len ≡ 0
  pub flags : e.flags < 2 ^ 8
  pub gno : e.gno < 2 ^ 64
  pub last_committed : e.last_committed < 2 ^ 64
  pub sequence_number : e.sequence_number < 2 ^ 64
  pub immediate-timestamp : e.immediate_commit_timestamp < 2 ^ 55
  pub original-timestamp : e.original_commit_timestamp < 2 ^ 56
  pub tx_length : e.tx_length < 2 ^ 64
  pub immediate-version : e.immediate_server_version < 2 ^ 31
  pub original-version : e.original_server_version < 2 ^ 32
  pub ticket : e.commit_group_ticket ≡ 0
  -- a record without a typecode has nothing after the gno
  pub typecode : (e.lc_typecode ≡ 2) ⊎ (e ≡ opened e.flags e.sid e.gno)

-- the immediate number is below the mark, the original within the width
abbrev PairBelow : ℕ → Pair → Type 0
PairBelow w (pair i o) = (i < 2 ^ (8 * w - 1)) × (o < 2 ^ (8 * w))

module _ (s : List ℕ) (bytes : Bytes s) where
  pair-below : (w at : ℕ) → 0 < w → {p : Pair} {next : ℕ} → pair_at w s at ≡ parsed p next → PairBelow w p
  unfolding pair_at
  pair-below w at some {p} {next} e =
      let k = 8 * w - 1 in
      let (v, m, q, r) = then-parsed (le_at w s at) (original_after w s) p next e in
      let top : k + 1 ≡ 8 * w = omega arith in
      let below : v < 2 ^ (8 * w) = rw pow-bytes at (le_below s bytes w at q) in
      let below' : v < 2 ^ (k + 1) = rw top below in
      pick-either (has_bit k v) r
      (λ bit t.
      let (o, u, z) = mapped-parsed (pair (clear_bit k v)) (le_at w s m) p next t in
      rw z (cleared-below k v below' bit, rw pow-bytes at (le_below s bytes w m u)))
      (λ bit t. let same : pair v v ≡ p = cc in rw (← same) (unmarked-below k v below' bit, below))

  timestamps-below : (at : ℕ) {p : Pair} {next : ℕ} → timestamps_at s at ≡ parsed p next → PairBelow 7 p
  unfolding timestamps_at
  timestamps-below at {p} {next} e =
      pick-either (leb 7 (length s - at)) e (λ _ q. pair-below 7 at (omega arith) q)
      (λ _ q. let same : pair 0 0 ≡ p = cc in rw (← same) (omega arith, omega arith))

  versions-below : (at : ℕ) {p : Pair} {next : ℕ} → versions_at s at ≡ parsed p next → PairBelow 4 p
  unfolding versions_at
  versions-below at {p} {next} e =
      pick-either (leb 4 (length s - at)) e (λ _ q. pair-below 4 at (omega arith) q)
      (λ _ q. let same : pair undefined_version undefined_version ≡ p = cc in rw (← same) (omega arith, omega arith))

  length-below : (at : ℕ) {v next : ℕ} → length_at s at ≡ parsed v next → v < 2 ^ 64
  unfolding length_at
  length-below at {v} {next} e =
      pick-either (leb 1 (length s - at)) e (λ _ q. lenenc-below s bytes at q) (λ _ q. let same : 0 ≡ v = cc in omega arith)

  sid-read : (at : ℕ) {sid : List ℕ} {next : ℕ} → bytes_at 16 s at ≡ parsed sid next → (length sid ≡ 16) × Bytes sid
  sid-read at {sid} {next} e =
      let b = bytes-parsed 16 s at sid next e in
      rw (← b.1) (part_length 16 s at b.0, part_bytes s at 16 bytes)

  opened-range : (at : ℕ) {e : GtidEvent} {next : ℕ} → OpeningParts s at e next → UntaggedRange e
  opened-range at o =
      rw o.is record {
        uuid = (sid-read o.at₁ o.sid-read).0;
        uuid-bytes = (sid-read o.at₁ o.sid-read).1;
        no_tag = refl;
        none = refl;
        flags = byte-below s bytes at o.flags-read;
        gno = le_below s bytes 8 o.at₂ o.gno-read;
        last_committed = omega arith;
        sequence_number = omega arith;
        immediate-timestamp = omega arith;
        original-timestamp = omega arith;
        tx_length = omega arith;
        immediate-version = omega arith;
        original-version = omega arith;
        ticket = refl;
        typecode = inr refl;
      }

  clocked-range : (event : GtidEvent) (last sequence len : ℕ) (t v : Pair) → UntaggedRange event
      → last < 2 ^ 64 → sequence < 2 ^ 64 → PairBelow 7 t → len < 2 ^ 64 → PairBelow 4 v → UntaggedRange (clocked event last sequence t len v)
  clocked-range event last sequence len (pair i o) (pair w x) h hl hs ht hn hv = record {
    uuid = h.uuid;
    uuid-bytes = h.uuid-bytes;
    no_tag = h.no_tag;
    none = h.none;
    flags = h.flags;
    gno = h.gno;
    last_committed = hl;
    sequence_number = hs;
    immediate-timestamp = ht.0;
    original-timestamp = ht.1;
    tx_length = hn;
    immediate-version = hv.0;
    original-version = hv.1;
    ticket = h.ticket;
    typecode = inl refl;
  }

  pub untagged-range : {e : GtidEvent} {next : ℕ} → untagged s ≡ parsed e next → UntaggedRange e
  unfolding untagged
  untagged-range {e} {next} q =
      let (event, at, p, r) = then-parsed (opening_at s 0) _ e next q in
      let opening = opened-range 0 (opening-parsed s 0 p) in
      pick-either (typecode_at s at) r
      (λ _ u.
      let c = clock-parsed s event (at + 1) u in
      rw c.is
      (clocked-range event c.last c.sequence c.len c.timestamps c.versions opening
      (le_below s bytes 8 (at + 1) c.last-read) (le_below s bytes 8 c.at₁ c.sequence-read)
      (timestamps-below c.at₂ c.timestamps-read) (length-below c.at₃ c.len_read) (versions-below c.at₄ c.versions-read)))
      (λ _ u. let same : event ≡ e = cc in rw same at opening)

-- ---- either, by the event's type
pub gtid-range : (type : ℕ) (s : List ℕ) → Bytes s → {e : GtidEvent} {next : ℕ} → gtid type s ≡ parsed e next → UntaggedRange e ⊎ TaggedRange e
gtid-range type s bytes p =
    let (x, q, is) = gtid-parsed type s p in
    rw is (seen-parsed type s q (λ _ _ e u same. rw same (inl (untagged-range s bytes u))) (λ _ _ u. inr (tagged-range s bytes u)))
