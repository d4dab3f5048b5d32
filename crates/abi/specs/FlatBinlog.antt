-- A binlog reader as 48 bytes, which its owner keeps between the calls, and in which each call tells what it says. Numbers are little-endian.
use Rattle.std.specs.Prelude.{ℕ, Bool, List, [], ◌∷◌, ◌++◌, length, get_or, eqb, ltb}
use Rattle.misc.specs.Pick.{pick}
use Rattle.misc.specs.Refusal.{number, not_writable}
use Rattle.misc.specs.Le.{le_bytes, number_at}
use Rattle.binlog.specs.declared.Phase.{Phase}
use Rattle.binlog.specs.declared.Phase.TheVariants as phase
use Rattle.binlog_reader.specs.Step.{Stepped, step_of, run_in, step_leaves, step_holds}
use Rattle.binlog_reader.specs.declared.Told.{Told}
use Rattle.binlog_reader.specs.declared.Told.TheVariants.{NoId, AlreadyThere, Taken, Joined}
use Rattle.binlog_reader.specs.declared.Said.{Said}
use Rattle.binlog_reader.specs.declared.Said.TheVariants.{MoreWanted, Ended, Event, Refused}
use Rattle.binlog_reader.specs.declared.Reader.{Reader}
use Rattle.binlog_reader.specs.declared.Answer.{Answer}
use Rattle.abi.specs.Answers.{bit}
use Rattle.abi.specs.declared.flat_binlog.PhaseNumbers.{PhaseNumbers}
use Rattle.abi.specs.declared.flat_binlog.SaidNumbers.{SaidNumbers}

abbrev pub reader_size : ℕ
reader_size = 48

-- ---- as numbers

-- where the reader is: the kind of place; the event's type, or the refusal's number; how many bytes are to come; how many have come, or what 13 names
abbrev pub phase_numbers : Phase → PhaseNumbers
phase_numbers (phase.Opening n) = record { kind = 0; number = 0; left = 0; have = n }
phase_numbers (phase.Header n) = record { kind = 1; number = 0; left = 0; have = n }
phase_numbers (phase.Body type left have) = record { kind = 2; number = type; left = left; have = have }
phase_numbers (phase.Skip left) = record { kind = 3; number = 0; left = left; have = 0 }
phase_numbers (phase.Whole type have) = record { kind = 4; number = type; left = 0; have = have }
phase_numbers phase.Ended = record { kind = 5; number = 0; left = 0; have = 0 }
phase_numbers (phase.Stopped r n) = record { kind = 6; number = r; left = 0; have = n }

-- and back; another kind is a phase that no call made
abbrev pub phase_from : ℕ → ℕ → ℕ → ℕ → Phase
phase_from kind number left have =
    pick (eqb kind 0) (phase.Opening have)
    (pick (eqb kind 1) (phase.Header have)
    (pick (eqb kind 2) (phase.Body number left have)
    (pick (eqb kind 3) (phase.Skip left)
    (pick (eqb kind 4) (phase.Whole number have)
    (pick (eqb kind 5) phase.Ended
    (pick (eqb kind 6) (phase.Stopped number have)
    (phase.Stopped 0 0)))))))

-- an event's answer, as an offer's (`numbers_of`), and 4 for joined
abbrev pub told_number : Told → ℕ
told_number Taken = 1
told_number AlreadyThere = 2
told_number NoId = 3
told_number Joined = 4

-- what is said: the refusal's number, 0 for none; the kind, 0 refused, 1 to 4 an event's answer, 5 more bytes wanted, 6 ended; the event's type; and
-- the length of its body, or what 13 names
abbrev pub said_numbers : Said → SaidNumbers
said_numbers (Refused r n) = record { refusal = r; kind = 0; event = 0; len = n }
said_numbers (Event t type n) = record { refusal = 0; kind = told_number t; event = type; len = n }
said_numbers MoreWanted = record { refusal = 0; kind = 5; event = 0; len = 0 }
said_numbers Ended = record { refusal = 0; kind = 6; event = 0; len = 0 }

-- ---- as bytes

-- the reader's kind of place and its number, whether there are checksums; what is said, the event's type and three zeros; then in eight bytes each
-- how many bytes are to come, how many have come, the length of the set, how many bytes of the chunk were used, and the length that is said
unfoldable pub flat_step : Answer → List ℕ
flat_step s =
    ((phase_numbers s.reader.phase).kind ∷ (phase_numbers s.reader.phase).number ∷ bit s.reader.checksums ∷ [])
    ++ ((said_numbers s.said).kind ∷ (said_numbers s.said).event ∷ 0 ∷ 0 ∷ 0 ∷ [])
    ++ le_bytes 8 (phase_numbers s.reader.phase).left
    ++ le_bytes 8 (phase_numbers s.reader.phase).have
    ++ le_bytes 8 s.reader.len
    ++ le_bytes 8 s.used
    ++ le_bytes 8 (said_numbers s.said).len

-- the reader in such bytes
unfoldable pub reader_in : List ℕ → Reader
reader_in bs = record {
  phase = phase_from (get_or bs 0 0) (get_or bs 1 0) (number_at bs 8) (number_at bs 16);
  checksums = ltb 0 (get_or bs 2 0);
  len = number_at bs 24;
}

-- ---- what the calls answer and leave

abbrev pub is_reader : List ℕ → Bool
is_reader bs = eqb (length bs) reader_size

-- the refusal of what is said; 12 where the bytes are no reader
unfoldable pub flat_says : List ℕ → Answer → ℕ
flat_says bs s = pick (is_reader bs) (said_numbers s.said).refusal (number not_writable)

-- the bytes of the reader afterwards
unfoldable pub flat_keeps : List ℕ → Answer → List ℕ
flat_keeps bs s = pick (is_reader bs) (flat_step s) bs

-- a step by a reader in bytes
unfoldable pub flat_stepped : List ℕ → List ℕ → List ℕ → ℕ → List ℕ → Stepped
flat_stepped bs work set spare chunk = step_of (reader_in bs) work set spare chunk

-- what it leaves in a buffer, and at the front of the work bytes
unfoldable pub flat_buffer : List ℕ → List ℕ → Stepped → List ℕ
flat_buffer bs buffer s = pick (is_reader bs) (step_leaves buffer (run_in s)) buffer

unfoldable pub flat_holds : List ℕ → Stepped → List ℕ
flat_holds bs s = pick (is_reader bs) (step_holds (run_in s)) []
