-- Demand 1, the table for the calls over sets, and what an offer answers otherwise: each answer, and the bytes that it leaves, by its case. No parser is
-- named here.
use Rattle.std.specs.Prelude.{ℕ, ◌≤◌, ◌≡◌, Bool, true, false, ◌&&◌, List, ◌++◌, length, get_or, take, drop, Result, Ok, Err}
use Rattle.misc.specs.declared.refusal.WriteError.{WriteError}
use Rattle.misc.specs.Refusal.{full, error_number, error_needed}
use Rattle.misc.specs.Body.{body_limit}
use Rattle.packets.specs.Gno.{is_gno}
use Rattle.packets.specs.Key.{Key}
use Rattle.previous_gtids_event.specs.Entry.{Entry}
use Rattle.previous_gtids_event.specs.Rewrite.{body_bytes}
use Rattle.previous_gtids_event.specs.Layout.{BodyLaid}
use Rattle.gtid_event.specs.declared.GtidEvent.{GtidEvent}
use Rattle.gtid_event_read.specs.Seen.{Seen}
use Rattle.gtid_sets.specs.Set.{has, add}
use Rattle.gtid_sets.specs.TakeIn.{lawful, taken_set}
use Rattle.gtid_sets.specs.Limits.{fine, breaks, limits, EntryOver}
use Rattle.gtid_sets.specs.Lent.{SetLaid}
use Rattle.resume_set.specs.declared.Offered.{Offered}
use Rattle.resume_set.specs.declared.Offered.TheVariants.{NoId, AlreadyThere, Taken}
use Rattle.promises.specs.Faults.{EventFault}
use Rattle.promises.specs.BodyFaults.{BodyFault}
use Rattle.promises.specs.Meaning.{RecordLaid}
use Rattle.promises.specs.PlainFaults.{ShortFault}

-- ---- a lent set

pub data SetFault (set : List ℕ) : ℕ → Type 0 where
  -- 14: the bytes are no set
  no_set : ((s : List Entry) → SetLaid set s → ⊥) → SetFault set 14

-- ---- a body that is rewritten, and one that is taken in

-- it isn't too long, and is laid out as these entries
abbrev pub BodyIs : List ℕ → List Entry → Type 0
BodyIs body es = (length body ≤ body_limit) × ((used : ℕ) × BodyLaid body es used)

-- what `rewrite` writes
pub data RewrittenAs (body : List ℕ) : List ℕ → Type 0 where
  entries : {es : List Entry} → BodyIs body es → RewrittenAs body (body_bytes es)

pub data TakeInFault (body : List ℕ) : ℕ → Type 0 where
  -- 1, 6, 11: a fault of the body
  bad_body : {n : ℕ} → BodyFault body n → TakeInFault body n
  -- 15: an interval breaks the gno rule
  gno_rule : {es : List Entry} → BodyIs body es → lawful es ≡ false → TakeInFault body 15
  -- 17: an entry of the set of all its ids has more than 1,024 intervals
  crowded_entry : {es : List Entry} → BodyIs body es → lawful es ≡ true → EntryOver 1024 (taken_set es) → TakeInFault body 17
  -- 16: none has, but the set breaks the limits of all together
  over_limits : {es : List Entry} → BodyIs body es → lawful es ≡ true → limits (taken_set es) ≡ breaks full → TakeInFault body 16

-- what `take_in` writes
pub data TakenInAs (body : List ℕ) : List ℕ → Type 0 where
  joined : {es : List Entry} → BodyIs body es → lawful es ≡ true → limits (taken_set es) ≡ fine → TakenInAs body (body_bytes (taken_set es))

-- ---- `offer`

-- the key in a record
abbrev pub key_of : GtidEvent → Key
key_of e = e.sid ++ take e.tag_len e.tag

-- whether the uuid, field 1, and the gno, field 2, are both among the fields that were there
abbrev pub sent_id : List Bool → Bool
sent_id present = get_or present 1 false && get_or present 2 false

-- what is wrong with an event whose id is asked for, by an offer or a listing
pub data NamingFault (type : ℕ) (body : List ℕ) : ℕ → Type 0 where
  -- 1 to 11: a fault of the event itself
  own : {n : ℕ} → EventFault type body n → NamingFault type body n
  -- 21: it is tagged and in order, but was sent without its uuid, or without its gno (CR 6)
  no_id : {x : Seen} {used : ℕ} → RecordLaid type body x used → type ≡ 42 → sent_id x.present ≡ false → NamingFault type body 21

-- an event that names an id: any but one of type 34, a tagged one if it was sent with its uuid and its gno
pub record Names (type : ℕ) (body : List ℕ) (e : GtidEvent) : Type 0 where
  pub present : List Bool
  pub used : ℕ
  pub laid : RecordLaid type body (record { event = e; present = present }) used
  pub named : type ≡ 34 → ⊥
  pub sent : type ≡ 42 → sent_id present ≡ true

-- an event that the set s doesn't refuse: the answer, and the set after it
pub data Accepts (s : List Entry) (type : ℕ) (body : List ℕ) : (ℕ → Offered) → List Entry → Type 0 where
  -- type 34, which the gno rule doesn't judge: "no id"
  no_id : {x : Seen} {used : ℕ} → RecordLaid type body x used → type ≡ 34 → Accepts s type body NoId s
  -- its id is a member: "already there"
  already : {e : GtidEvent} → Names type body e → is_gno e.gno ≡ true → has s (key_of e) e.gno ≡ true → Accepts s type body AlreadyThere s
  -- it is none, and the set with it is within the limits: "taken"
  taken : {e : GtidEvent} → Names type body e → is_gno e.gno ≡ true → has s (key_of e) e.gno ≡ false → limits (add (key_of e) e.gno s) ≡ fine
      → Accepts s type body Taken (add (key_of e) e.gno s)

-- the refusal's number, and the length that it names
pub data OfferFault (set : List ℕ) (type : ℕ) (body : List ℕ) (room : ℕ) : ℕ → ℕ → Type 0 where
  -- 14: the lent bytes are no set
  bad_set : {n : ℕ} → SetFault set n → OfferFault set type body room n 0
  -- 1 to 11: a fault of the event; 21: it was sent without its id
  bad_event : {s : List Entry} {n : ℕ} → SetLaid set s → NamingFault type body n → OfferFault set type body room n 0
  -- 15: the event's gno breaks the gno rule, whatever the set holds
  gno_rule : {s : List Entry} {e : GtidEvent} → SetLaid set s → Names type body e → is_gno e.gno ≡ false → OfferFault set type body room 15 0
  -- 17: with the event's id, which the set has not, an entry has more than 1,024 intervals
  crowded_entry : {s : List Entry} {e : GtidEvent} → SetLaid set s → Names type body e → is_gno e.gno ≡ true → has s (key_of e) e.gno ≡ false
      → EntryOver 1024 (add (key_of e) e.gno s) → OfferFault set type body room 17 0
  -- 16: none has, but the set with it breaks the limits of all together
  over_limits : {s : List Entry} {e : GtidEvent} → SetLaid set s → Names type body e → is_gno e.gno ≡ true → has s (key_of e) e.gno ≡ false
      → limits (add (key_of e) e.gno s) ≡ breaks full → OfferFault set type body room 16 0
  -- 13: the set after the event has more bytes than the output
  no_room : {s after : List Entry} {case : ℕ → Offered} {n len : ℕ} → SetLaid set s → Accepts s type body case after → ShortFault (body_bytes after) room n len
      → OfferFault set type body room n len

-- every answer, and what the output holds then: as it was after a refusal, else the set after the event at its front
pub data OfferAnswer (set : List ℕ) (type : ℕ) (body : List ℕ) (out : List ℕ) : Result Offered WriteError → List ℕ → Type 0 where
  refused : {x : WriteError} → OfferFault set type body (length out) (error_number x) (error_needed x) → OfferAnswer set type body out (Err x) out
  accepted : {s after : List Entry} {case : ℕ → Offered} → SetLaid set s → Accepts s type body case after → length (body_bytes after) ≤ length out
      → OfferAnswer set type body out (Ok (case (length (body_bytes after)))) (body_bytes after ++ drop (length (body_bytes after)) out)
