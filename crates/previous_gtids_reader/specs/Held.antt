-- A reader: the body that it holds, and where it is in it.
use Rattle.std.specs.Prelude.{ℕ, List, Result, Ok, Err}
use Rattle.std.specs.Borrow.{Bor}
use Rattle.misc.specs.declared.refusal.Refusal.{Refusal}
use Rattle.previous_gtids_reader.specs.declared.Cursor.{Cursor}
use Rattle.previous_gtids_reader.specs.declared.Reader.{Reader}
use Rattle.previous_gtids_reader.specs.Steps.{cursor_at}

abbrev pub reader_at : Bor (List ℕ) → Cursor → Reader
reader_at body cursor = record { body = body; cursor = cursor }

-- a start, or, where there is none, a cursor at no entry
abbrev pub or_at_none : Result Cursor Refusal → Cursor
or_at_none (Ok cursor) = cursor
or_at_none (Err r) = cursor_at 0 0

-- a reader at a start, if there is one
abbrev pub begun : Bor (List ℕ) → Result Cursor Refusal → Result Reader Refusal
begun body (Ok cursor) = Ok (reader_at body cursor)
begun body (Err r) = Err r
