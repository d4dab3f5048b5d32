-- What a call answers that doesn't refuse, by the layouts: every part of the answer.
use Rattle.std.specs.Prelude.{ℕ, ◌+◌, ◌-◌, ◌*◌, ◌≤◌, ◌≡◌, Bool, List, [], ◌∷◌, ◌++◌, length, drop, pos, negsuc, Ok}
use Rattle.misc.specs.Parse.{Bytes, read_of}
use Rattle.misc.specs.Le.{le_at}
use Rattle.misc.specs.Varlen.{varlen_at}
use Rattle.misc.specs.Signed.{signed_at, natural_at}
use Rattle.misc.specs.Lenenc.{lenenc_at}
use Rattle.misc.specs.Forms.{Number, Form, LenencForm}
use Rattle.misc.specs.Body.{body_limit, of_body, unread_of}
use Rattle.misc.specs.Output.{bytes}
use Rattle.packets.specs.Kept.{padded}
use Rattle.packets.specs.Gno.{Interval}
use Rattle.previous_gtids_event.specs.Entry.{Entry, entry}
use Rattle.previous_gtids_event.specs.Layout.{HeaderLaid, EntryLaid, BodyLaid}
use Rattle.previous_gtids_event.specs.Previous.{interval_at, entry_at, previous}
use Rattle.previous_gtids_event.specs.Answers.{previous_read, header_read, entry_read, interval_read}
use Rattle.gtid_event.specs.declared.GtidEvent.{GtidEvent}
use Rattle.gtid_event_read.specs.Seen.{Seen, bits_of}
use Rattle.gtid_event_read.specs.Read.{seen, gtid, named, gtid_read}
use Rattle.gtid_event_write.specs.Write.{event_output, length_of}
use Rattle.gtid_sets.specs.Run.{names, anonymous}
use Rattle.resume_set.specs.Answers.{event_of}
use Rattle.text.specs.Lines.{newline, refused_text}
use Rattle.listing.specs.EventText.{anonymous_word, record_text, gtid_text, event_text}
use Rattle.promises.specs.Meaning.{RecordLaid}
use Rattle.promises.specs.SetFaults.{key_of, NamingFault, Names, TakeInFault}

-- ---- integers: an item of bytes that stands at a place

pub record IntegersTold (s : List ℕ) (at : ℕ) (item rest : List ℕ) (there : drop at s ≡ item ++ rest) : Type 0 where
  pub fixed : (w v : ℕ) → 1 ≤ w → Number w v item → read_of (le_at w s at) ≡ Ok (record { value = v; next = at + w })
  pub varlen : (v : ℕ) → Form v item → read_of (varlen_at s at) ≡ Ok (record { value = v; next = at + length item })
  pub positive : (n : ℕ) → Form (n * 2) item → read_of (signed_at s at) ≡ Ok (record { value = pos n; next = at + length item })
  -- `negsuc n` is - (n + 1)
  pub negative : (n : ℕ) → Form (n * 2 + 1) item → read_of (signed_at s at) ≡ Ok (record { value = negsuc n; next = at + length item })
  pub natural : (n : ℕ) → Form (n * 2) item → read_of (natural_at s at) ≡ Ok (record { value = n; next = at + length item })
  pub lenenc : (v : ℕ) → LenencForm v item → read_of (lenenc_at s at) ≡ Ok (record { value = v; next = at + length item })

-- ---- records

pub record EventsTold : Type 0 where
  pub read : (type : ℕ) (body : List ℕ) (x : Seen) (used : ℕ) → RecordLaid type body x used
      → gtid_read (seen type body) ≡ Ok (record { used = used; event = x.event; present = bits_of x.present })
  -- where the event's id is asked for the same is read, unless it is refused
  pub asked : (type : ℕ) (body : List ℕ) → ((n : ℕ) → NamingFault type body n → ⊥) → Bytes body → gtid_read (named type body) ≡ gtid_read (seen type body)
  pub unread : (type : ℕ) (body : List ℕ) (x : Seen) (used : ℕ) → RecordLaid type body x used → unread_of body (gtid type body) ≡ drop used body
  -- the length is that of the bytes written
  pub length_of : (e : GtidEvent) (bs : List ℕ) → event_output e ≡ bytes bs → length_of e ≡ Ok (length bs)
  -- the id that an offer sees
  pub named : (type : ℕ) (body : List ℕ) (e : GtidEvent) → Names type body e → event_of type body ≡ names (key_of e) e.gno
  pub unnamed : (body : List ℕ) (x : Seen) (used : ℕ) → RecordLaid 34 body x used → event_of 34 body ≡ anonymous

-- ---- Previous-GTIDs: a body that isn't too long

pub record BodiesTold (body : List ℕ) (short : length body ≤ body_limit) : Type 0 where
  pub read : (es : List Entry) (used : ℕ) → Bytes body → BodyLaid body es used
      → (previous_read (previous body) ≡ Ok (record { used = used; entries = length es })) × (unread_of body (previous body) ≡ drop used body)
  pub header : (tagged : Bool) (n : ℕ) (laid rest : List ℕ) → Bytes body → HeaderLaid tagged n laid → body ≡ laid ++ rest
      → header_read (of_body body (le_at 8 body 0)) ≡ Ok (record { tagged = tagged; entries = n })
  -- an entry's parts, where its intervals begin, and where it ends
  pub entry : (at : ℕ) (tagged : Bool) (uuid tag : List ℕ) (is : List Interval) (laid rest : List ℕ) → length uuid ≡ 16
      → EntryLaid tagged (entry (uuid ++ tag) is) laid → drop at body ≡ laid ++ rest → let next : ℕ = at + length laid in
      entry_read (of_body body (entry_at tagged body at))
      ≡ Ok (record { uuid = uuid; tag = padded 32 tag; tag_len = length tag; intervals = length is; first = next - 16 * length is; next = next })
  pub interval : (at start end : ℕ) (a b rest : List ℕ) → Number 8 start a → Number 8 end b → drop at body ≡ a ++ (b ++ rest)
      → interval_read (of_body body (interval_at body at)) ≡ Ok (record { start = start; end = end })

-- ---- the listing: beside a Previous-GTIDs event that is taken in, which `Told` has

pub record ListingTold : Type 0 where
  -- it shows what an offer sees, and so the same refusals of an event
  pub alike : (type : ℕ) (body : List ℕ) → (type ≡ 35 → ⊥) → event_text type body ≡ gtid_text (event_of type body)
  pub refused_event : (type : ℕ) (body : List ℕ) (n : ℕ) → (type ≡ 35 → ⊥) → NamingFault type body n → event_text type body ≡ refused_text n
  pub refused_body : (body : List ℕ) (n : ℕ) → Bytes body → TakeInFault body n → event_text 35 body ≡ refused_text n
  pub named : (type : ℕ) (body : List ℕ) (e : GtidEvent) → Names type body e → event_text type body ≡ record_text e
  pub anonymous : (body : List ℕ) (x : Seen) (used : ℕ) → RecordLaid 34 body x used → event_text 34 body ≡ anonymous_word ++ (newline ∷ [])
