-- What reading a file comes to, as it arrives, and demand 3 over its events, in the words of `History` of resume_set_laws.
use Rattle.std.specs.Prelude.{ℕ, ◌≡◌, Bool, false, ◌||◌, List, [], ◌∷◌, ◌++◌}
use Rattle.misc.specs.Parse.{Parse, refuse, parsed, Bytes}
use Rattle.packets.specs.Key.{Key}
use Rattle.previous_gtids_event.specs.Entry.{Entry}
use Rattle.previous_gtids_event.specs.Previous.{previous}
use Rattle.gtid_sets.specs.Set.{has}
use Rattle.gtid_sets.specs.Lent.{form, lent_set, SetLaid}
use Rattle.resume_set.specs.Answers.{event_of}
use Rattle.resume_set_laws.specs.History.{Ids, none, all, among, Outcome, refused, accepted, member, id_of}
use Rattle.binlog.specs.Format.{trailer}
use Rattle.binlog.specs.Stop.{stop_number}
use Rattle.binlog.specs.Run.{Done, did, fails, at, Word, chunk, end, hear}
use Rattle.binlog_reader.specs.Does.{Judged, does}
use Rattle.binlog_reader.specs.Step.{SetRun, said_at, begins_at}
use Rattle.binlog_reader.specs.declared.Told.{Told}
use Rattle.binlog_reader.specs.declared.Told.TheVariants.{NoId, AlreadyThere, Taken, Joined}
use Rattle.binlog_reader.specs.declared.Said.{Said}

-- ---- what an event of a file comes to

abbrev pub joined_ids : Parse (List Entry) → Ids
joined_ids (refuse r) = none
joined_ids (parsed es next) = all es

-- the ids that are members by an event's answer: those of a body that was joined, or the event's own
abbrev pub told_ids : Told → ℕ → List ℕ → Ids
told_ids NoId type body = none
told_ids AlreadyThere type body = id_of (event_of type body)
told_ids Taken type body = id_of (event_of type body)
told_ids Joined type body = joined_ids (previous body)

abbrev pub ids_of : Judged → Ids
ids_of j = told_ids j.told j.type j.body

abbrev pub done_in : Done (List ℕ) Judged → Outcome
done_in (did j set) = accepted (ids_of j) set
done_in (fails r n) = refused (stop_number r) n

-- an event: its type and its body
pub record FileTurn : Type 0 where
  pub type : ℕ
  pub body : List ℕ

-- where there is room for a set of so many bytes
abbrev pub file_comes : ℕ → List ℕ → FileTurn → Outcome
file_comes room set e = done_in (does room set e.type e.body)

-- ---- a way of reading files

-- the events that were answered, what the reader says at last, and the set
pub record FileRead : Type 0 where
  pub judged : List Judged
  pub said : Said
  pub set : List ℕ

-- from a set, whether checksums end the events, and what arrives
abbrev pub FileReading : Type 0
FileReading = List ℕ → Bool → List Word → FileRead

abbrev pub read_in : SetRun → FileRead
read_in (at p set js) = record { judged = js; said = said_at p; set = set }

-- the one that `begin`, `step` and `end` promise (`drives-hears` of proofs/LoopLaws.antt), with room for a set of so many bytes
abbrev pub start_of : List ℕ → SetRun
start_of set = at (begins_at (lent_set set)) set []

abbrev pub our_files : ℕ → FileReading
our_files room set checksums ws = read_in (hear (does room) (trailer checksums) (start_of set) ws)

-- ---- demand 3

abbrev pub OfBytes : List Word → Type 0
OfBytes [] = Unit {0}
OfBytes (chunk bs ∷ ws) = Bytes bs × OfBytes ws
OfBytes (end ∷ ws) = OfBytes ws

-- whether the id is a member by one of these answers
abbrev pub granted_by : List Judged → Key → ℕ → Bool
granted_by [] k n = false
granted_by (j ∷ js) k n = among (ids_of j) k n || granted_by js k n

-- each answered event was offered or joined to the set as the events before it left it, and this is kept at last
abbrev pub Follows : ℕ → List ℕ → List Judged → List ℕ → Type 0
Follows room set [] last = set ≡ last
Follows room set (j ∷ js) last = (next : List ℕ) × (does room set j.type j.body ≡ did j next) × Follows room next js last

-- from any set, whatever arrives, and so after each event: what is kept is a set, and its members are those that it began with and those that
-- answered events made members: "taken", "already there" and joined
pub record FilesTell (room : ℕ) (f : FileReading) : Type 0 where
  pub follows : (set : List ℕ) (checksums : Bool) (ws : List Word) → Follows room set (f set checksums ws).judged (f set checksums ws).set
  pub formed : (set : List ℕ) (s : List Entry) (checksums : Bool) (ws : List Word) → SetLaid set s → OfBytes ws
      → (t : List Entry) × (lent_set (f set checksums ws).set ≡ form t)
  pub members : (set : List ℕ) (s : List Entry) (checksums : Bool) (ws : List Word) → SetLaid set s → OfBytes ws → (k : Key) (n : ℕ)
      → member (f set checksums ws).set k n ≡ has s k n || granted_by (f set checksums ws).judged k n

-- a run that was stopped anywhere, saved, and fed everything again from the start ends with identical bytes, and says the same at last. (That it met
-- neither 16 nor 17 need not be asked: a refusal stops the reader, and it stops at the same event again.)
abbrev pub FilesAgain : FileReading → Type 0
FilesAgain f = (set : List ℕ) (s : List Entry) (checksums : Bool) (before behind : List Word) → SetLaid set s → OfBytes (before ++ behind)
    → ((f (f set checksums before).set checksums (before ++ behind)).set ≡ (f set checksums (before ++ behind)).set)
    × ((f (f set checksums before).set checksums (before ++ behind)).said ≡ (f set checksums (before ++ behind)).said)
