-- A record that is written as bytes is read back from them.
use mathlib.Core.Path.{◌≡◌, refl}
use mathlib.Core.List.{List, [], ◌∷◌, ◌++◌, append_assoc, append-nil}
use Prim.Native.Nat.{ℕ, zero, suc, ◌+◌, ◌^◌, ◌≤◌, ◌<◌}
use native.Mathlib.Omega.{arith}
use borrow.Author.Tests.{eq-eqb, lt-ltb}
use lib.ListN.{length, get_or, drop}
use lib.Dec.{ltb}
use Rattle.misc.specs.Parse.{part, parsed_or}
use Rattle.misc.specs.Le.{le_bytes, le_at, number_at}
use Rattle.misc.proofs.LeLaws.{length-le_bytes, le_of-le_bytes, le-here}
use Rattle.gtid_event.specs.declared.GtidEvent.{GtidEvent}
use Rattle.gtid_event_write.specs.Write.{event_output}
use Rattle.gtid_event.specs.Fits.{Fits}
use Rattle.misc.proofs.Places.{part-there, after_there, left_there, byte-there}
use Rattle.abi.specs.Answers.{bit}
use Rattle.abi.specs.Flat.{flat, flat_identity, flat_clock, flat_rest, four_at, typecode_if, flat_read, write_output}
use Rattle.abi.proofs.FlatLaws.{length-flat}

-- ---- what stands at a place, and what follows it

module _ (s : List ℕ) (at : ℕ) where
  pub byte_next : (b : ℕ) (rest : List ℕ) → drop at s ≡ b ∷ rest → (get_or s at 0 ≡ b) × (drop (at + 1) s ≡ rest)
  byte_next b rest h = (byte-there s at b rest h, after_there s at 1 (b ∷ []) rest h refl)

  bytes_next : (n : ℕ) (item rest : List ℕ) → length item ≡ n → drop at s ≡ item ++ rest → (part s at n ≡ item) × (drop (at + n) s ≡ rest)
  bytes_next n item rest e h = (part-there s at n item rest h e, after_there s at n item rest h e)

  pub number-next : (n v : ℕ) (rest : List ℕ) → 0 < n → v < 256 ^ n → drop at s ≡ le_bytes n v ++ rest
      → (parsed_or 0 (le_at n s at) ≡ v) × (drop (at + n) s ≡ rest)
  number-next n v rest some small h =
      let (p, q) = bytes_next n (le_bytes n v) rest (length-le_bytes n v) h in
      let inside : at + n ≤ length s = omega (arith, left_there s at (le_bytes n v) rest h, length-le_bytes n v) in
      (rw (le-here n s at inside, p) (le_of-le_bytes n v small), q)

-- ---- the whole record

typecode-back : (code : ℕ) → typecode_if (bit (ltb 0 code)) code ≡ code
typecode-back zero = refl
typecode-back (suc n) = rw (lt-ltb 0 (suc n) (omega arith))

side_by_side : (a b c d f g h i j k l m n o p : List ℕ)
    → (a ++ b ++ c ++ d ++ f) ++ (g ++ h ++ i ++ j ++ k ++ l) ++ (m ++ n ++ o ++ p)
    ≡ a ++ (b ++ (c ++ (d ++ (f ++ (g ++ (h ++ (i ++ (j ++ (k ++ (l ++ (m ++ (n ++ (o ++ (p ++ []))))))))))))))
side_by_side a b c d f g h i j k l m n o p = simp (append_assoc, append-nil)

module _ (e : GtidEvent) where
  -- what follows a field
  abbrev after_originally : List ℕ
  after_originally = le_bytes 8 e.commit_group_ticket ++ []

  abbrev after_version : List ℕ
  after_version = le_bytes 4 e.original_server_version ++ after_originally

  abbrev after_length : List ℕ
  after_length = le_bytes 4 e.immediate_server_version ++ after_version

  abbrev after_original : List ℕ
  after_original = le_bytes 8 e.tx_length ++ after_length

  abbrev after_immediate : List ℕ
  after_immediate = le_bytes 8 e.original_commit_timestamp ++ after_original

  abbrev after_sequence : List ℕ
  after_sequence = le_bytes 8 e.immediate_commit_timestamp ++ after_immediate

  abbrev after_last : List ℕ
  after_last = le_bytes 8 e.sequence_number ++ after_sequence

  abbrev after_typecode : List ℕ
  after_typecode = le_bytes 8 e.last_committed ++ after_last

  abbrev after_tag : List ℕ
  after_tag = bit (ltb 0 e.lc_typecode) ∷ e.lc_typecode ∷ after_typecode

  abbrev after_gno : List ℕ
  after_gno = e.tag_len ∷ (e.tag ++ after_tag)

  abbrev after_flags : List ℕ
  after_flags = e.sid ++ (le_bytes 8 e.gno ++ after_gno)

  begins : flat e ≡ e.flags ∷ after_flags
  unfolding flat flat_identity flat_clock flat_rest
  begins =
      side_by_side (e.flags ∷ []) e.sid (le_bytes 8 e.gno) (e.tag_len ∷ []) e.tag
      (bit (ltb 0 e.lc_typecode) ∷ []) (e.lc_typecode ∷ []) (le_bytes 8 e.last_committed) (le_bytes 8 e.sequence_number)
      (le_bytes 8 e.immediate_commit_timestamp) (le_bytes 8 e.original_commit_timestamp)
      (le_bytes 8 e.tx_length) (le_bytes 4 e.immediate_server_version) (le_bytes 4 e.original_server_version) (le_bytes 8 e.commit_group_ticket)

  pub flat_back : Fits e → flat_read (flat e) ≡ e
  unfolding flat_read number_at four_at
  flat_back f =
      let s = flat e in
      let (flags, at1) = byte_next s 0 e.flags after_flags begins in
      let (sid, at17) = bytes_next s 1 16 e.sid (le_bytes 8 e.gno ++ after_gno) f.sid_size at1 in
      let (gno, at25) = number-next s 17 8 e.gno after_gno (omega arith) f.gno_fits at17 in
      let (size, at26) = byte_next s 25 e.tag_len (e.tag ++ after_tag) at25 in
      let (tag, at58) = bytes_next s 26 32 e.tag after_tag f.tag_size at26 in
      let (there, at59) = byte_next s 58 (bit (ltb 0 e.lc_typecode)) (e.lc_typecode ∷ after_typecode) at58 in
      let (code, at60) = byte_next s 59 e.lc_typecode after_typecode at59 in
      let (last, at68) = number-next s 60 8 e.last_committed after_last (omega arith) f.last_fits at60 in
      let (sequence, at76) = number-next s 68 8 e.sequence_number after_sequence (omega arith) f.sequence_fits at68 in
      let (immediate, at84) = number-next s 76 8 e.immediate_commit_timestamp after_immediate (omega arith) f.immediate_fits at76 in
      let (original, at92) = number-next s 84 8 e.original_commit_timestamp after_original (omega arith) f.original_fits at84 in
      let (len, at100) = number-next s 92 8 e.tx_length after_length (omega arith) f.length_fits at92 in
      let (version, at104) = number-next s 100 4 e.immediate_server_version after_version (omega arith) f.version_fits at100 in
      let (originally, at108) = number-next s 104 4 e.original_server_version after_originally (omega arith) f.original_version_fits at104 in
      let (ticket, _) = number-next s 108 8 e.commit_group_ticket [] (omega arith) f.ticket_fits at108 in
      rw (flags, sid, gno, tag, size, there, code, typecode-back e.lc_typecode, last, sequence, immediate, original, len, version, originally, ticket)

  -- so the event that is written from the bytes is the record's own
  pub written-from-flat : Fits e → write_output (flat e) ≡ event_output e
  unfolding write_output
  written-from-flat f = rw (eq-eqb (length (flat e)) 116 (length-flat e f.sid_size f.tag_size), flat_back f)
