-- The binlog file as it arrives (CR 2): what reading one comes to, of any way of reading, by the file's layout; the table of what an event of it is
-- refused for; demand 3 over files; the caller's loop of steps; and the archive's reader.
use Rattle.std.specs.Prelude.{ℕ, ◌^◌, ◌<◌, ◌≤◌, min, ◌≡◌, Bool, true, false, List, [], ◌∷◌, ◌++◌, ◌⊎◌, length}
use Rattle.misc.specs.Refusal.{full}
use Rattle.misc.specs.Parse.{Bytes}
use Rattle.previous_gtids_event.specs.Entry.{Entry}
use Rattle.previous_gtids_event.specs.Rewrite.{body_bytes}
use Rattle.gtid_sets.specs.TakeIn.{lawful}
use Rattle.gtid_sets.specs.Limits.{fine, breaks, limits, longest_set, EntryOver}
use Rattle.gtid_sets.specs.Lent.{SetLaid}
use Rattle.gtid_sets.specs.Combine as ops
use Rattle.set_join.specs.JoinIn.{join_answers}
use Rattle.resume_set.specs.declared.Offered.{Offered}
use Rattle.resume_set.specs.declared.Offered.TheVariants as offered
use Rattle.resume_set_laws.specs.History.{Tells}
use Rattle.binlog.specs.Format.{trailer}
use Rattle.binlog.specs.Stop.{Stop, stop_number}
use Rattle.binlog.specs.Run.{did, fails, Word, chunk, end, spelled}
use Rattle.binlog.specs.Layout.{Says, EndSays}
use Rattle.binlog.specs.Walk.{is_whole}
use Rattle.binlog.specs.Held.{made, needs, place_of, Front}
use Rattle.binlog.specs.declared.Phase.TheVariants as phase
use Rattle.binlog_reader.specs.Does.{acts, does}
use Rattle.binlog_reader.specs.Step.{SetRun, Stepped, run_in, step_of, step_answers, step_leaves, begin_answers}
use Rattle.binlog_reader.specs.declared.Told.{Told}
use Rattle.binlog_reader.specs.declared.Told.TheVariants as told
use Rattle.binlog_reader.specs.declared.Said.{Said}
use Rattle.binlog_reader.specs.declared.Said.TheVariants.{MoreWanted, Ended, Event, Refused}
use Rattle.binlog_reader.specs.declared.Reader.{Reader}
use Rattle.binlog_reader.specs.declared.Answer.{Answer}
use Rattle.binlog_laws.specs.Files.{FileTurn, file_comes, FileRead, read_in, start_of, our_files, FilesTell, FilesAgain}
use Rattle.binlog_laws.specs.Loop.{Lending, StepsTo, Stands, DrivesHears}
use Rattle.abi.specs.FlatBinlog.{phase_numbers, reader_in, flat_says, flat_keeps, flat_buffer}
use Rattle.promises.specs.BodyFaults.{BodyFault}
use Rattle.promises.specs.PlainFaults.{ShortFault}
use Rattle.promises.specs.SetFaults.{SetFault, BodyIs, Accepts, OfferFault}
use Rattle.promises.specs.Exact.{Exactly, RefusesExactly, WritesExactly}
use Rattle.promises.specs.TwoSets.{Keeps}

-- ---- what an event of a file is refused for

-- a body that is joined: the refusal's number, and the length that it names
pub data JoinFault (set body : List ℕ) (room : ℕ) : ℕ → ℕ → Type 0 where
  -- 14: what is kept is no set
  bad_set : {n : ℕ} → SetFault set n → JoinFault set body room n 0
  -- 11, 1, 6: a fault of the body
  bad_body : {s : List Entry} {n : ℕ} → SetLaid set s → BodyFault body n → JoinFault set body room n 0
  -- 15: an interval of it breaks the gno rule, whatever the set holds
  gno_rule : {s es : List Entry} → SetLaid set s → BodyIs body es → lawful es ≡ false → JoinFault set body room 15 0
  -- 17: in the set of the ids of either an entry has more than 1,024 intervals, whatever the body has by itself
  crowded_entry : {s es u : List Entry} → SetLaid set s → BodyIs body es → lawful es ≡ true → Keeps ops.either s es u → EntryOver 1024 u
      → JoinFault set body room 17 0
  -- 16: none has, but that set breaks the limits of all together
  over_limits : {s es u : List Entry} → SetLaid set s → BodyIs body es → lawful es ≡ true → Keeps ops.either s es u → limits u ≡ breaks full
      → JoinFault set body room 16 0
  -- 13: that set has more bytes than there is room for
  no_room : {s es u : List Entry} {n len : ℕ} → SetLaid set s → BodyIs body es → lawful es ≡ true → Keeps ops.either s es u → limits u ≡ fine
      → ShortFault (body_bytes u) room n len → JoinFault set body room n len

-- a body that was joined: the set that is kept then
pub data JoinedAs (set body : List ℕ) (room : ℕ) : List ℕ → Type 0 where
  joined : {s es u : List Entry} → SetLaid set s → BodyIs body es → lawful es ≡ true → Keeps ops.either s es u → limits u ≡ fine
      → length (body_bytes u) ≤ room → JoinedAs set body room (body_bytes u)

-- an offer's answer as what an event of a file is told
abbrev pub told_as : Offered → Told
told_as (offered.NoId len) = told.NoId
told_as (offered.AlreadyThere len) = told.AlreadyThere
told_as (offered.Taken len) = told.Taken

-- an event that was offered: what it is told, and the set that is kept then, as an offer has it
pub data AcceptedAs (set : List ℕ) (type : ℕ) (body : List ℕ) (room : ℕ) : Told → List ℕ → Type 0 where
  accepted : {s u : List Entry} {case : ℕ → Offered} → SetLaid set s → Accepts s type body case u → length (body_bytes u) ≤ room
      → AcceptedAs set type body room (told_as (case 0)) (body_bytes u)

-- an event by its type
pub data ActFault (set : List ℕ) (type : ℕ) (body : List ℕ) (room : ℕ) : ℕ → ℕ → Type 0 where
  joining : {n len : ℕ} → type ≡ 35 → JoinFault set body room n len → ActFault set type body room n len
  offering : {n len : ℕ} → (type ≡ 35 → ⊥) → OfferFault set type body room n len → ActFault set type body room n len

pub record EventsJudged (set body : List ℕ) (room : ℕ) : Type 0 where
  pub refused : (type : ℕ) (r : Stop) (len : ℕ) → Exactly (acts room set type body ≡ fails r len) (ActFault set type body room (stop_number r) len)
  pub joined : (after : List ℕ) → Exactly (acts room set 35 body ≡ did told.Joined after) (JoinedAs set body room after)
  pub offered : (type : ℕ) (t : Told) (after : List ℕ) → (type ≡ 35 → ⊥)
      → Exactly (acts room set type body ≡ did t after) (AcceptedAs set type body room t after)
  -- refusals of `join_in` and `join`, which write the set
  pub join_in : (out : List ℕ) → WritesExactly (join_answers set body out) (JoinFault set body (length out))

-- ---- what reading a file comes to

-- by what arrives, from a set, and whether checksums end the events
pub record ReadsFiles (room : ℕ) (set : List ℕ) (checksums : Bool) (f : List Word → FileRead) : Type 0 where
  -- 14: it was begun with what is no set
  pub start : (ws : List Word) → SetFault set 14 → f ws ≡ record { judged = []; said = Refused 14 0; set = set }
  -- all bytes that came, here as one chunk, by the layout: there is a case for any bytes, and a case forces what is read
  pub comes : (s : List Entry) (bs : List ℕ) → SetLaid set s
      → (run : SetRun) × Says (does room) (trailer checksums) set bs run × (f (chunk bs ∷ []) ≡ read_in run)
  pub says : (s : List Entry) (bs : List ℕ) (run : SetRun) → SetLaid set s → Says (does room) (trailer checksums) set bs run → f (chunk bs ∷ []) ≡ read_in run
  -- and where the end was named behind them
  pub ends : (s : List Entry) (bs : List ℕ) → SetLaid set s
      → (run : SetRun) × EndSays (does room) (trailer checksums) set bs run × (f (chunk bs ∷ end ∷ []) ≡ read_in run)
  pub end_says : (s : List Entry) (bs : List ℕ) (run : SetRun) → SetLaid set s → EndSays (does room) (trailer checksums) set bs run
      → f (chunk bs ∷ end ∷ []) ≡ read_in run
  -- it is the same however they came: cutting the same file elsewhere gives equal answers, set and end state; and an empty chunk spells nothing
  pub cut : (us ws : List Word) → spelled us ≡ spelled ws → f us ≡ f ws
  -- naming the end again repeats the answer; bytes behind an end that was answered well are 18, and change nothing else
  pub end_again : (ws : List Word) → f (ws ++ end ∷ end ∷ []) ≡ f (ws ++ end ∷ [])
  pub behind_end : (ws : List Word) (b : ℕ) (bs : List ℕ) → (f (ws ++ end ∷ [])).said ≡ Ended
      → f (ws ++ end ∷ chunk (b ∷ bs) ∷ []) ≡ record { judged = (f (ws ++ end ∷ [])).judged; said = Refused 18 0; set = (f (ws ++ end ∷ [])).set }
  -- after any refusal all that comes repeats it, and the set stays as the events before made it
  pub stays : (us ws : List Word) (n len : ℕ) → (f us).said ≡ Refused n len → f (us ++ ws) ≡ f us

-- ---- refusals of a step

-- the refusal's number in what is said, 0 for none
abbrev pub refusal_in : Said → ℕ
refusal_in MoreWanted = 0
refusal_in Ended = 0
refusal_in (Event t type n) = 0
refusal_in (Refused r n) = r

-- a step that refuses at once: it uses nothing, leaves the set's buffer and the room for the next one as they are, and its reader repeats the refusal
pub record RefusesAtOnce (r : Reader) (s : Stepped) (n len : ℕ) : Type 0 where
  pub answers : step_answers r s
      ≡ record { said = Refused n len; used = 0; reader = record { phase = phase.Stopped n len; checksums = r.checksums; len = r.len } }
  pub leaves : (buffer : List ℕ) → step_leaves buffer (run_in s) ≡ buffer

-- before any byte is looked at, and so wherever the file was cut: 12 for a phase that no call made; 13, with what is needed, for one that needs work bytes
-- and has too few; and a refusal that came before
pub record StepsRefuse (r : Reader) (work set chunk : List ℕ) (spare : ℕ) : Type 0 where
  pub forged : made r.phase ≡ false → RefusesAtOnce r (step_of r work set spare chunk) 12 0
  pub short : made r.phase ≡ true → needs r.phase ≡ 65540 → length work < 65540 → RefusesAtOnce r (step_of r work set spare chunk) 13 65540
  pub again : (n len : ℕ) → 0 < n → r.phase ≡ phase.Stopped n len → RefusesAtOnce r (step_of r work set spare chunk) n len

-- an event whose body is bytes
abbrev pub TurnBytes : FileTurn → Type 0
TurnBytes e = Bytes e.body

-- ---- the archive's reader, which is 48 bytes

-- its calls answer and leave what `begin`, `step` and `end` answer, here any answer a
pub record ArchiveReads : Type 0 where
  -- 12: bytes of another length are no reader, and stay as they are
  pub no_reader : (bs : List ℕ) (a : Answer) → (length bs ≡ 48 → ⊥) → (flat_says bs a ≡ 12) × (flat_keeps bs a ≡ bs)
  pub untouched : (bs buffer : List ℕ) (s : Stepped) → (length bs ≡ 48 → ⊥) → flat_buffer bs buffer s ≡ buffer
  -- else the number is the one that is said, 0 for none, and the bytes are then the reader that was answered
  pub says : (bs : List ℕ) (a : Answer) → length bs ≡ 48 → flat_says bs a ≡ refusal_in a.said
  pub back : (bs : List ℕ) (a : Answer) → length bs ≡ 48 → (phase_numbers a.reader.phase).left < 2 ^ 64 → (phase_numbers a.reader.phase).have < 2 ^ 64
      → a.reader.len < 2 ^ 64 → reader_in (flat_keeps bs a) ≡ a.reader

-- ---- together

pub record Files : Type 0 where
  pub events : (set body : List ℕ) (room : ℕ) → Bytes body → EventsJudged set body room
  pub reads : (room : ℕ) (set : List ℕ) (checksums : Bool) → ReadsFiles room set checksums (our_files room set checksums)
  -- demand 3: members, whatever the room; and replay, where there is room for any set
  pub tells : (room : ℕ) → FilesTell room (our_files room)
  pub again : FilesAgain (our_files longest_set)
  -- members of any events, however they came, from a body that was taken in, in the words of `History`
  pub events_tell : (room : ℕ) → Tells TurnBytes (file_comes room)
  -- `begin` refuses with 14 exactly what is no set
  pub begin : (set : List ℕ) (checksums : Bool) → RefusesExactly (refusal_in (begin_answers set checksums).said) (SetFault set)
  -- and what it makes stands for the beginning of reading, with the set at the front of its buffer; from there the caller's loop of steps comes to
  -- what reading says
  pub begins : (m : Lending) (set : List ℕ) (checksums : Bool) → m.reader ≡ (begin_answers set checksums).reader → Front set m.set
      → 65540 ≤ length m.work → Stands (min (length m.set) (length m.spare)) m (start_of set)
  pub loop : DrivesHears
  pub refuses : (r : Reader) (work set chunk : List ℕ) (spare : ℕ) → StepsRefuse r work set chunk spare
  -- a step from where no event waits to be judged, as after any call, uses a byte at least, where there is one, or refuses
  pub onward : (m m' : Lending) (bs : List ℕ) (r : Answer) → is_whole (place_of m.reader.phase m.work) ≡ false → StepsTo m bs r m'
      → 0 < length bs → (0 < r.used) ⊎ ((n : ℕ) × (len : ℕ) × (r.said ≡ Refused n len))
  pub archive : ArchiveReads
