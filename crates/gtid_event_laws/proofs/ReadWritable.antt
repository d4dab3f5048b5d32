-- Every record that was read from bytes fits its types and can be written, and so it reads back from its own bytes.
use mathlib.Core.Path.{◌≡◌, refl, ap}
use mathlib.Core.Logic.{◌⊎◌, inl, inr}
use mathlib.Core.Bool.{true, not, ◌&&◌}
use mathlib.Core.List.{List, [], ◌∷◌}
use Prim.Native.Nat.{ℕ, zero, suc, ◌-◌, ◌^◌, ◌<◌, ◌≤◌}
use native.Mathlib.Omega.{arith}
use lib.Dec.{leb}
use lib.ListN.{length, take, drop, replicate, length-append, length-replicate}
use lib.Seq.{take-append_seam, drop-append_seam}
use borrow.Author.Tests.{lt-ltb, le-leb, lt-leb, ne_eqb}
use Rattle.misc.specs.Parse.{Bytes, parsed}
use Rattle.misc.proofs.Bounds.{append-bytes, zeros-bytes}
use Rattle.packets.specs.Kept.{padded}
use Rattle.packets.specs.Tag.{is_tag_byte, is_digit, all_tag_bytes, is_tag}
use Rattle.packets.proofs.Tests.{split, and-true, clash, tests}
use Rattle.packets.proofs.TagLaws.{tag-not-empty, tag-at-most-32}
use Rattle.gtid_event.specs.Event.{type_of}
use Rattle.gtid_event.specs.declared.GtidEvent.{GtidEvent}
use Rattle.gtid_event_read.specs.Untagged.{opened}
use Rattle.gtid_event_read.specs.Read.{gtid}
use Rattle.gtid_event_read.proofs.Ranges.{UntaggedRange, TaggedRange, gtid-range}
use Rattle.gtid_event_write.specs.Writable.{signed_top, all_zero, writable}
use Rattle.gtid_event_write.specs.Write.{event_bytes}
use Rattle.gtid_event.specs.Fits.{Fits}
use Rattle.gtid_event_laws.proofs.EventBack.{event-alone}

-- ---- untagged
module _ (e : GtidEvent) (h : UntaggedRange e) where
  untagged-fits : Fits e
  untagged-fits = record {
    flags_fit = h.flags;
    sid_size = h.uuid;
    sid_fits = h.uuid-bytes;
    gno_fits = h.gno;
    tag_size = rw h.no_tag;
    tag_fits = rw h.no_tag (zeros-bytes 32);
    tag_len_fits = omega arith;
    typecode_fits = code h.typecode;
    last_fits = h.last_committed;
    sequence_fits = h.sequence_number;
    immediate_fits = omega arith;
    original_fits = omega arith;
    length_fits = h.tx_length;
    version_fits = omega arith;
    original_version_fits = h.original-version;
    ticket_fits = omega arith;
  }
    where
      code : (e.lc_typecode ≡ 2) ⊎ (e ≡ opened e.flags e.sid e.gno) → e.lc_typecode < 256
      code (inl two) = omega arith
      code (inr none) = let zero : e.lc_typecode ≡ 0 = ap (λ (x : GtidEvent). x.lc_typecode) none in omega arith

  untagged-can : writable e ≡ true
  unfolding writable all_zero
  untagged-can = go h.typecode
    where
      go : (e.lc_typecode ≡ 2) ⊎ (e ≡ opened e.flags e.sid e.gno) → writable e ≡ true
      go (inl two) =
          simp (
            two,
            h.no_tag,
            h.none,
            h.ticket,
            lt-ltb _ (2 ^ 55) h.immediate-timestamp,
            lt-ltb _ (2 ^ 56) h.original-timestamp,
            lt-ltb _ (2 ^ 31) h.immediate-version,
          )
      go (inr none) = ap writable none

-- ---- tagged

-- the bytes of a tag are bytes
tag-byte-small : (b : ℕ) → is_tag_byte b ≡ true → b < 256
tag-byte-small b h =
    split (leb b 255) (λ k. omega tests) (λ k.
    let large : 255 < b = omega tests in
    clash h (simp (
      le-leb 97 b (omega arith),
      le-leb 48 b (omega arith),
      lt-leb b 122 (omega arith),
      lt-leb b 57 (omega arith),
      ne_eqb b 95 (λ e. omega arith),
    )))

tag-bytes-small : (t : List ℕ) → all_tag_bytes t ≡ true → Bytes t
unfolding all_tag_bytes
tag-bytes-small [] h i = omega arith
tag-bytes-small (b ∷ bs) h zero = tag-byte-small b (and-true (is_tag_byte b) (all_tag_bytes bs) h).0
tag-bytes-small (b ∷ bs) h (suc i) = tag-bytes-small bs (and-true (is_tag_byte b) (all_tag_bytes bs) h).1 i

tag_small : (t : List ℕ) → is_tag t ≡ true → Bytes t
unfolding is_tag
tag_small [] h = clash h refl
tag_small (b ∷ bs) h = tag-bytes-small (b ∷ bs) (and-true (leb (length (b ∷ bs)) 32 && not (is_digit b)) _ h).1

zeros-all : (n : ℕ) → all_zero (replicate n 0) ≡ true
unfolding all_zero
zeros-all zero = refl
zeros-all (suc n) = zeros-all n

module _ (e : GtidEvent) (h : TaggedRange e) where
  most : length h.tag ≤ 32
  most = tag-at-most-32 h.tag h.valid

  tagged-fits : Fits e
  unfolding padded
  tagged-fits =
      let most = most in
      let counted = h.counted in
      record {
        flags_fit = h.flags;
        sid_size = h.uuid;
        sid_fits = h.uuid-bytes;
        gno_fits = omega arith;
        tag_size = rw h.kept (simp (length-append, length-replicate) (omega arith));
        tag_fits = rw h.kept (append-bytes h.tag _ (tag_small h.tag h.valid) (zeros-bytes (32 - length h.tag)));
        tag_len_fits = omega arith;
        typecode_fits = omega arith;
        last_fits = omega arith;
        sequence_fits = omega arith;
        immediate_fits = h.immediate-timestamp;
        original_fits = h.original-timestamp;
        length_fits = h.tx_length;
        version_fits = h.immediate-version;
        original_version_fits = h.original-version;
        ticket_fits = h.ticket;
      }

  tagged-can : writable e ≡ true
  unfolding writable signed_top padded
  tagged-can =
      let most = most in
      let some = tag-not-empty h.tag h.valid in
      let counted = h.counted in
      let behind = replicate {A = ℕ} (32 - length h.tag) 0 in
      let front : take e.tag_len e.tag ≡ h.tag = rw (h.kept, counted) (take-append_seam h.tag behind) in
      let rest : all_zero (drop e.tag_len e.tag) ≡ true = rw (h.kept, counted, drop-append_seam h.tag behind) (zeros-all (32 - length h.tag)) in
      simp (
        h.typecode,
        rest,
        lt-ltb 0 e.tag_len (omega arith),
        le-leb e.tag_len 32 (omega arith),
        front,
        h.valid,
        lt-ltb e.gno (2 ^ 63) h.gno,
        lt-ltb e.last_committed (2 ^ 63) h.last_committed,
        lt-ltb e.sequence_number (2 ^ 63) h.sequence_number,
      )

-- ---- either
module _ (s : List ℕ) (are : Bytes s) (type : ℕ) (e : GtidEvent) (next : ℕ) (read : gtid type s ≡ parsed e next) where
  pub read_fits : Fits e
  read_fits = go (gtid-range type s are read)
    where
      go : UntaggedRange e ⊎ TaggedRange e → Fits e
      go (inl h) = untagged-fits e h
      go (inr h) = tagged-fits e h

  pub read-writable : writable e ≡ true
  read-writable = go (gtid-range type s are read)
    where
      go : UntaggedRange e ⊎ TaggedRange e → writable e ≡ true
      go (inl h) = untagged-can e h
      go (inr h) = tagged-can e h

  -- written again, it reads back equal
  pub written-again : gtid (type_of e) (event_bytes e) ≡ parsed e (length (event_bytes e))
  written-again = event-alone e read_fits read-writable
