-- An untagged record that is laid out is read.
use Prim.Native.Nat.{ℕ, ◌+◌, ◌-◌, ◌*◌, ◌^◌, ◌≤◌, ◌<◌}
use mathlib.Core.Path.{◌≡◌, sym, ap, ◌∙◌}
use mathlib.Core.Bool.{true, false}
use mathlib.Core.List.{List, [], ◌∷◌, ◌++◌, append_assoc}
use mathlib.Core.Logic.{inl, inr}
use native.Mathlib.Nat.{add-zero, pow-suc}
use native.Mathlib.Numerals.{add-one}
use native.Mathlib.Omega.{arith}
use lib.ListN.{length, replicate, length-append}
use borrow.Author.Tests.{le-leb, lt-leb}
use Rattle.misc.specs.Parse.{parsed, part}
use Rattle.misc.specs.Le.{le_of}
use Rattle.misc.specs.Mark.{has_bit, clear_bit}
use Rattle.misc.specs.Forms.{Number}
use Rattle.misc.proofs.MarkLaws.{top-bit-clear, top-bit-set}
use Rattle.misc.proofs.Places.{From, from-size, from-room, from_next, from-part, from_first}
use Rattle.misc.proofs.FormsRead.{number-reads, lenenc-reads, lenenc-some}
use Rattle.gtid_event.specs.Event.{set_number, set_others}
use Rattle.gtid_event.specs.declared.GtidEvent.{GtidEvent}
use Rattle.gtid_event_read.specs.Untagged.{pair, if_left, pair_at, timestamps_at, length_at, versions_at, opening_at, untagged}
use Rattle.gtid_event_read.proofs.UntaggedLaws.{opening-here, untagged-clock, untagged-other, untagged-end, clock-later}
use Rattle.promises.specs.UntaggedLayout.{PairLaid, PairIfLeft, LengthIfLeft, NoTypecode, UntaggedLaid}

-- ---- a record without a tag and a ticket, and what is one

abbrev untagged_record : ℕ → List ℕ → ℕ → ℕ → ℕ → ℕ → ℕ → ℕ → ℕ → ℕ → ℕ → GtidEvent
untagged_record flags uuid gno typecode last sequence immediate original len version original_version =
    record {
      flags = flags;
      sid = uuid;
      gno = gno;
      tag = replicate 32 0;
      tag_len = 0;
      lc_typecode = typecode;
      last_committed = last;
      sequence_number = sequence;
      immediate_commit_timestamp = immediate;
      original_commit_timestamp = original;
      tx_length = len;
      immediate_server_version = version;
      original_server_version = original_version;
      commit_group_ticket = 0;
    }

whole-record : (e : GtidEvent) (typecode : ℕ) (tag : List ℕ) (len ticket : ℕ) → e.lc_typecode ≡ typecode → e.tag ≡ tag → e.tag_len ≡ len
    → e.commit_group_ticket ≡ ticket
    → set_number 11 ticket (set_others e.sid tag len typecode e) ≡ e
whole-record e typecode tag len ticket a b c d = rw (← a, ← b, ← c, ← d)

-- ---- the highest bit of a number of w bytes

module _ (w v : ℕ) (small : v < 2 ^ (8 * w - 1)) where
  pub unmarked : has_bit (8 * w - 1) v ≡ false
  unmarked = (top-bit-clear (8 * w - 1) v small).0

  pub marked : (has_bit (8 * w - 1) (v + 2 ^ (8 * w - 1)) ≡ true) × (clear_bit (8 * w - 1) (v + 2 ^ (8 * w - 1)) ≡ v)
  marked =
      let k = 8 * w - 1 in
      let double : 2 ^ (k + 1) ≡ 2 ^ k * 2 = rw (add-one k, pow-suc) in
      let (bit, clear) = top-bit-set k (v + 2 ^ k) (omega arith) (omega arith) in
      (bit, clear ∙ omega arith)

module _ (s : List ℕ) where
  -- ---- parts

  pair_reads : (w at i o : ℕ) (bs rest : List ℕ) → PairLaid w i o bs → From s at (bs ++ rest) → pair_at w s at ≡ parsed (pair i o) (at + length bs)
  unfolding pair_at
  pair_reads w at i o bs rest (PairLaid.equal n small) h =
      rw (number-reads s w at i bs rest n h, unmarked w i small, n.long)
  pair_reads w at i o bs rest (PairLaid.both {bs = first} {more = more} n small m) h =
      let split : From s at (first ++ (more ++ rest)) = rw append_assoc at h in
      let behind : From s (at + w) (more ++ rest) = rw n.long at (from_next s at first (more ++ rest) split) in
      let (bit, clear) = marked w i small in
      let end : at + w + w ≡ at + length (first ++ more) = omega (arith, length-append first more, n.long, m.long) in
      rw (number-reads s w at _ first (more ++ rest) n split, bit, number-reads s w (at + w) o more rest m behind, clear, end)

  pair-there : (w i o : ℕ) (bs : List ℕ) → PairLaid w i o bs → w ≤ length bs
  pair-there w i o bs (PairLaid.equal n small) = omega (arith, n.long)
  pair-there w i o bs (PairLaid.both {bs = first} {more = more} n small m) = omega (arith, length-append first more, n.long)

  pub left-reads : (w absent at i o : ℕ) (bs rest : List ℕ) → PairIfLeft w absent i o bs rest → From s at (bs ++ rest)
      → if_left w s at (pair absent absent) (pair_at w s at) ≡ parsed (pair i o) (at + length bs)
  left-reads w absent at i o bs rest (PairIfLeft.gone few) h =
      let size = from-size s at rest h in
      rw (lt-leb w (length s - at) (omega arith), add-zero at)
  left-reads w absent at i o bs rest (PairIfLeft.there p) h =
      let most = pair-there w i o bs p in
      rw (le-leb w (length s - at) (omega (arith, from-room s at bs rest h))) (pair_reads w at i o bs rest p h)

  pub length-reads : (at v : ℕ) (bs rest : List ℕ) → LengthIfLeft v bs rest → From s at (bs ++ rest) → length_at s at ≡ parsed v (at + length bs)
  unfolding length_at
  length-reads at v bs rest LengthIfLeft.gone h =
      let size = from-size s at [] h in
      rw (lt-leb 1 (length s - at) (omega arith), add-zero at)
  length-reads at v bs rest (LengthIfLeft.there form) h =
      rw (le-leb 1 (length s - at) (omega (arith, from-room s at bs rest h, lenenc-some v bs form))) (lenenc-reads s at v bs rest form h)

  -- ---- flags, uuid and gno

  opening-reads : (flags gno : ℕ) (uuid gno_bytes rest : List ℕ) → length uuid ≡ 16 → Number 8 gno gno_bytes
      → From s 0 ((flags ∷ []) ++ (uuid ++ (gno_bytes ++ rest)))
      → (opening_at s 0 ≡ parsed (untagged_record flags uuid gno 0 0 0 0 0 0 999999 999999) 25) × From s 25 rest
  opening-reads flags gno uuid gno_bytes rest sixteen eight h =
      let (first, _) = from_first s 0 flags (uuid ++ (gno_bytes ++ rest)) h in
      let second : From s 1 (uuid ++ (gno_bytes ++ rest)) = from_next s 0 (flags ∷ []) (uuid ++ (gno_bytes ++ rest)) h in
      let third : From s 17 (gno_bytes ++ rest) = rw sixteen at (from_next s 1 uuid (gno_bytes ++ rest) second) in
      let fourth : From s 25 rest = rw eight.long at (from_next s 17 gno_bytes rest third) in
      let uuid_is : part s 1 16 ≡ uuid = from-part s 1 uuid (gno_bytes ++ rest) second 16 (sym sixteen) in
      let gno_is : le_of (part s 17 8) ≡ gno = ap le_of (from-part s 17 gno_bytes rest third 8 (sym eight.long)) ∙ eight.spells in
      (opening-here s fourth.inside ∙ rw (first, uuid_is, gno_is), fourth)

  short-reads : (e : GtidEvent) (rest : List ℕ) → NoTypecode rest → From s 25 rest → opening_at s 0 ≡ parsed e 25 → untagged s ≡ parsed e 25
  short-reads e rest NoTypecode.nothing h read = untagged-end s read (omega (arith, from-size s 25 [] h))
  short-reads e rest (NoTypecode.other {b = b} {rest = more} no-two) h read =
      let (first, inside) = from_first s 25 b more h in
      untagged-other s read inside (λ two. no-two (sym first ∙ two))

  long-reads : (flags gno last sequence i o len v ov : ℕ) (uuid last_bytes sequence_bytes timestamps len_bytes versions unread : List ℕ)
      → opening_at s 0 ≡ parsed (untagged_record flags uuid gno 0 0 0 0 0 0 999999 999999) 25
      → From s 25 ((2 ∷ []) ++ (last_bytes ++ (sequence_bytes ++ (timestamps ++ (len_bytes ++ (versions ++ unread))))))
      → Number 8 last last_bytes → Number 8 sequence sequence_bytes → PairIfLeft 7 0 i o timestamps (len_bytes ++ (versions ++ unread))
      → LengthIfLeft len len_bytes (versions ++ unread) → PairIfLeft 4 999999 v ov versions unread
      → untagged s ≡ parsed (untagged_record flags uuid gno 2 last sequence i o len v ov) (42 + length timestamps + length len_bytes + length versions)
  unfolding timestamps_at versions_at
  long-reads flags gno last sequence i o len v ov uuid last_bytes sequence_bytes timestamps len_bytes versions unread read h last_is sequence_is times-are
      len_is versions_are =
      let rest₄ = len_bytes ++ (versions ++ unread) in
      let rest₃ = timestamps ++ rest₄ in
      let (two, inside) = from_first s 25 2 (last_bytes ++ (sequence_bytes ++ rest₃)) h in
      let one : From s 26 (last_bytes ++ (sequence_bytes ++ rest₃)) = from_next s 25 (2 ∷ []) (last_bytes ++ (sequence_bytes ++ rest₃)) h in
      let second : From s 34 (sequence_bytes ++ rest₃) = rw last_is.long at (from_next s 26 last_bytes (sequence_bytes ++ rest₃) one) in
      let third : From s 42 rest₃ = rw sequence_is.long at (from_next s 34 sequence_bytes rest₃ second) in
      let fourth = from_next s 42 timestamps rest₄ third in
      let fifth = from_next s (42 + length timestamps) len_bytes (versions ++ unread) fourth in
      untagged-clock s read inside two
      ∙ clock-later s _ 26 (number-reads s 8 26 last last_bytes (sequence_bytes ++ rest₃) last_is one)
      (number-reads s 8 34 sequence sequence_bytes rest₃ sequence_is second)
      ∙ rw (
        left-reads 7 0 42 i o timestamps rest₄ times-are third,
        length-reads (42 + length timestamps) len len_bytes (versions ++ unread) len_is fourth,
        left-reads 4 999999 (42 + length timestamps + length len_bytes) v ov versions unread versions_are fifth,
      )

pub untagged-reads : (s : List ℕ) (e : GtidEvent) (used : ℕ) → UntaggedLaid s e used → untagged s ≡ parsed e used
untagged-reads s e used (inl l) =
    let h : From s 0 ((e.flags ∷ []) ++ (e.sid ++ (l.gno_bytes ++ l.unread))) = record { is = l.whole ∙ simp append_assoc; inside = omega arith } in
    let (read, rest) = opening-reads s e.flags e.gno e.sid l.gno_bytes l.unread l.uuid_is l.gno_is h in
    let end : 25 ≡ used = sym (l.uses ∙ simp length-append (omega (arith, l.uuid_is, l.gno_is.long))) in
    short-reads s _ l.unread l.no_typecode rest read ∙ ap (λ (x : GtidEvent). parsed x 25) (sym l.others) ∙ ap (parsed e) end
untagged-reads s e used (inr l) =
    let behind = (2 ∷ []) ++ (l.last_bytes ++ (l.sequence_bytes ++ (l.timestamps ++ (l.len_bytes ++ (l.versions ++ l.unread))))) in
    let h : From s 0 ((e.flags ∷ []) ++ (e.sid ++ (l.gno_bytes ++ behind))) = record { is = l.whole ∙ simp append_assoc; inside = omega arith } in
    let (read, rest) = opening-reads s e.flags e.gno e.sid l.gno_bytes behind l.uuid_is l.gno_is h in
    let end : 42 + length l.timestamps + length l.len_bytes + length l.versions ≡ used =
    sym (l.uses ∙ simp length-append (omega (arith, l.uuid_is, l.gno_is.long, l.last_is.long, l.sequence_is.long))) in
    let times : PairIfLeft 7 0 e.immediate_commit_timestamp e.original_commit_timestamp l.timestamps (l.len_bytes ++ (l.versions ++ l.unread)) =
    rw append_assoc at l.timestamps_are in
    long-reads s e.flags e.gno e.last_committed e.sequence_number e.immediate_commit_timestamp e.original_commit_timestamp
    e.tx_length e.immediate_server_version e.original_server_version
    e.sid l.last_bytes l.sequence_bytes l.timestamps l.len_bytes l.versions l.unread read rest
    l.last_is l.sequence_is times l.len_is l.versions_are
    ∙ ap (λ (x : GtidEvent). parsed x (42 + length l.timestamps + length l.len_bytes + length l.versions))
    (whole-record e 2 (replicate 32 0) 0 0 l.others.0 l.others.1 l.others.2 l.others.3)
    ∙ ap (parsed e) end
