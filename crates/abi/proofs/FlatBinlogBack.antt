-- A binlog reader that is written as bytes is read back from them.
use Prim.Native.Nat.{ℕ, ◌^◌, ◌<◌}
use mathlib.Core.Path.{◌≡◌, refl, sym, ap, ◌∙◌}
use mathlib.Core.Bool.{Bool, true, false}
use mathlib.Core.List.{List, [], ◌∷◌, ◌++◌, append_assoc, append-nil}
use native.Mathlib.Omega.{arith}
use lib.ListN.{length}
use lib.Dec.{ltb}
use Rattle.misc.specs.Le.{le_bytes, number_at}
use Rattle.binlog.specs.declared.Phase.{Phase}
use Rattle.binlog.specs.declared.Phase.TheVariants as phase
use Rattle.binlog_reader.specs.declared.Answer.{Answer}
use Rattle.abi.specs.Answers.{bit}
use Rattle.abi.specs.FlatBinlog.{phase_numbers, phase_from, said_numbers, flat_step, reader_in, flat_keeps}
use Rattle.abi.proofs.FlatBack.{byte_next, number-next}
use Rattle.abi.proofs.FlatBinlogLaws.{length-step, kept-told}

-- a phase comes back from its numbers
phase-back : (p : Phase) → phase_from (phase_numbers p).kind (phase_numbers p).number (phase_numbers p).left (phase_numbers p).have ≡ p
phase-back (phase.Opening n) = refl
phase-back (phase.Header n) = refl
phase-back (phase.Body type left have) = refl
phase-back (phase.Skip left) = refl
phase-back (phase.Whole type have) = refl
phase-back phase.Ended = refl
phase-back (phase.Stopped r n) = refl

bit-back : (b : Bool) → ltb 0 (bit b) ≡ b
bit-back true = refl
bit-back false = refl

-- its numbers of eight bytes fit into them
pub record ReaderFits (s : Answer) : Type 0 where
  pub left-fits : (phase_numbers s.reader.phase).left < 2 ^ 64
  pub have-fits : (phase_numbers s.reader.phase).have < 2 ^ 64
  pub len-fits : s.reader.len < 2 ^ 64

module _ (s : Answer) where
  -- what follows a field
  abbrev after_len : List ℕ
  after_len = le_bytes 8 s.used ++ (le_bytes 8 (said_numbers s.said).len ++ [])

  abbrev after_have : List ℕ
  after_have = le_bytes 8 s.reader.len ++ after_len

  abbrev after_left : List ℕ
  after_left = le_bytes 8 (phase_numbers s.reader.phase).have ++ after_have

  abbrev after_head : List ℕ
  after_head = le_bytes 8 (phase_numbers s.reader.phase).left ++ after_left

  abbrev after_checksums : List ℕ
  after_checksums = (said_numbers s.said).kind ∷ (said_numbers s.said).event ∷ 0 ∷ 0 ∷ 0 ∷ after_head

  begins : flat_step s
      ≡ (phase_numbers s.reader.phase).kind ∷ (phase_numbers s.reader.phase).number ∷ bit s.reader.checksums ∷ after_checksums
  unfolding flat_step
  begins = simp (append_assoc, append-nil)

  pub reader-back : ReaderFits s → reader_in (flat_step s) ≡ s.reader
  unfolding reader_in number_at
  reader-back f =
      let bs = flat_step s in
      let n = phase_numbers s.reader.phase in
      let m = said_numbers s.said in
      let c = bit s.reader.checksums in
      let (kind, at1) = byte_next bs 0 n.kind (n.number ∷ c ∷ after_checksums) begins in
      let (number, at2) = byte_next bs 1 n.number (c ∷ after_checksums) at1 in
      let (checksums, at3) = byte_next bs 2 c after_checksums at2 in
      let (_, at4) = byte_next bs 3 m.kind (m.event ∷ 0 ∷ 0 ∷ 0 ∷ after_head) at3 in
      let (_, at5) = byte_next bs 4 m.event (0 ∷ 0 ∷ 0 ∷ after_head) at4 in
      let (_, at6) = byte_next bs 5 0 (0 ∷ 0 ∷ after_head) at5 in
      let (_, at7) = byte_next bs 6 0 (0 ∷ after_head) at6 in
      let (_, at8) = byte_next bs 7 0 after_head at7 in
      let (left, at16) = number-next bs 8 8 n.left after_left (omega arith) (omega (arith, f.left-fits)) at8 in
      let (have, at24) = number-next bs 16 8 n.have after_have (omega arith) (omega (arith, f.have-fits)) at16 in
      let (len, _) = number-next bs 24 8 s.reader.len after_len (omega arith) (omega (arith, f.len-fits)) at24 in
      rw (kind, number, checksums, left, have, len, phase-back s.reader.phase, bit-back s.reader.checksums)

  -- so the bytes that a call keeps are a reader again, and the one that it answers
  pub keeps-back : (bs : List ℕ) → length bs ≡ 48 → ReaderFits s → (length (flat_keeps bs s) ≡ 48) × (reader_in (flat_keeps bs s) ≡ s.reader)
  keeps-back bs long f =
      let (_, same) = kept-told bs long s s (flat_step s) (said_numbers s.said).refusal refl (refl, refl) in
      (ap length (sym same) ∙ length-step s, ap reader_in (sym same) ∙ reader-back f)
