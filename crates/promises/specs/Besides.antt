-- Demand 1: what a call answers and writes besides its number.
use Rattle.std.specs.Prelude.{ℕ, ℤ, ◌≤◌, ◌<◌, ◌≡◌, false, List, [], ◌++◌, length, drop, replicate, Ok, Err}
use Rattle.misc.specs.declared.refusal.Refusal.{Refusal}
use Rattle.misc.specs.declared.refusal.WriteError.TheVariants.{Refused}
use Rattle.misc.specs.Refusal.{bad_tag, not_writable, not_a_set}
use Rattle.misc.specs.Parse.{refuse, read_of}
use Rattle.misc.specs.Body.{unread_of}
use Rattle.misc.specs.Output.{refused, bytes, output_of, answer_of, written_len}
use Rattle.packets.specs.Tag.{is_tag}
use Rattle.previous_gtids_event.specs.Entry.{Entry}
use Rattle.previous_gtids_event.specs.Answers.{previous_read, header_read, entry_read, interval_read}
use Rattle.previous_gtids_reader.specs.declared.Cursor.{Cursor}
use Rattle.previous_gtids_reader.specs.Steps.{cursor_of, stepped, headed_step}
use Rattle.gtid_event.specs.Event.{no_event, with_tag, new_tagged}
use Rattle.gtid_event.specs.declared.GtidEvent.{GtidEvent}
use Rattle.gtid_event_read.specs.Read.{gtid_read}
use Rattle.gtid_event_write.specs.Writable.{writable}
use Rattle.gtid_event_write.specs.Write.{length_of}
use Rattle.gtid_sets.specs.Lent.{unfit}
use Rattle.set_check.specs.Check.{checked_of}
use Rattle.set_join.specs.Answers.{contained}
use Rattle.resume_set.specs.Answers.{set_read}
use Rattle.abi.specs.Answers.{number_in}
use Rattle.abi.specs.Flat.{flat}

-- ---- what else a refusal answers

pub record Zeros (r : Refusal) : Type 1 where
  -- it hands out nothing. No event, where a caller asks for one, is laid out for Rust and C as 116 zeros
  pub no_event_is : flat no_event ≡ replicate 116 0
  -- calls that read
  pub uint : read_of {A = ℕ} (refuse r) ≡ Err r
  pub int : read_of {A = ℤ} (refuse r) ≡ Err r
  pub event : gtid_read (refuse r) ≡ Err r
  pub previous_gtids : previous_read (refuse r) ≡ Err r
  pub header : header_read (refuse r) ≡ Err r
  pub entry : entry_read (refuse r) ≡ Err r
  pub interval : interval_read (refuse r) ≡ Err r
  pub start : cursor_of (refuse r) ≡ Err r
  -- a step of the reader: no entry, and no cursor
  pub step_header : (s : List ℕ) (c : Cursor) → headed_step s c (refuse r) ≡ Err r
  pub step_entry : (left : ℕ) → stepped left (refuse r) ≡ Err r
  -- nothing is handed out as the unread part
  pub event_rest : (s : List ℕ) → unread_of {A = GtidEvent} s (refuse r) ≡ []
  pub previous_rest : (s : List ℕ) → unread_of {A = List Entry} s (refuse r) ≡ []
  -- bytes that are no set. (Over two sets every part of the answer is told in `WithinAnswer`, `HandedBack` and `Heads`)
  pub checked : checked_of unfit ≡ Err not_a_set
  pub set : set_read unfit ≡ Err not_a_set
  pub asked : (uuid tag : List ℕ) (gno : ℕ) → contained unfit uuid tag gno ≡ Err not_a_set
  -- a tag that breaks the tag rule, and a record that can't be written
  pub step : (tag : List ℕ) (e : GtidEvent) → is_tag tag ≡ false → with_tag tag e ≡ Err bad_tag
  pub new : (sid tag : List ℕ) (gno : ℕ) → is_tag tag ≡ false → new_tagged sid tag gno ≡ Err bad_tag
  pub sized : (e : GtidEvent) → writable e ≡ false → length_of e ≡ Err not_writable
  -- a call that writes: no length, and the output as it was
  pub wrote : (out : List ℕ) → answer_of out (refused r) ≡ Err (Refused r)
  pub untouched : (out : List ℕ) → output_of out (refused r) ≡ out
  -- to the archive's callers: zeros in the place of whatever numbers would have been told, and no length
  pub numbers : {A : Type 0} (told : A → ℕ) → number_in {A = A} (Err r) told ≡ 0
  pub no_len : written_len (Err (Refused r)) ≡ 0

-- ---- what a call leaves in its output that has something to write

pub record Outputs (bs out : List ℕ) : Type 0 where
  -- 13: the output as it was
  pub short : length out < length bs → output_of out (bytes bs) ≡ out
  -- else the bytes at its front, and the rest unchanged
  pub fits : length bs ≤ length out
      → (answer_of out (bytes bs) ≡ Ok (length bs)) × (output_of out (bytes bs) ≡ bs ++ drop (length bs) out)
