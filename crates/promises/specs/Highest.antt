-- The gno rule at its top (CR 4): a number that records carry, and no set. The top is named here; `Rules` has its number.
use Rattle.std.specs.Prelude.{ℕ, ◌≤◌, ◌<◌, ◌≡◌, true, List, [], ◌∷◌, ◌++◌, ◌⊎◌, length, Err}
use Rattle.misc.specs.declared.refusal.WriteError.TheVariants.{Refused}
use Rattle.misc.specs.Refusal.{bad_gno}
use Rattle.misc.specs.Parse.{Bytes, parsed}
use Rattle.misc.specs.Output.{bytes}
use Rattle.packets.specs.Gno.{gno_top, is_gno, Interval, interval}
use Rattle.packets.specs.Key.{Key}
use Rattle.previous_gtids_event.specs.Entry.{Entry, entry}
use Rattle.gtid_event.specs.Event.{type_of, set_number}
use Rattle.gtid_event.specs.declared.GtidEvent.{GtidEvent}
use Rattle.gtid_event_read.specs.Read.{gtid}
use Rattle.gtid_event_write.specs.Writable.{writable}
use Rattle.gtid_event_write.specs.Write.{event_output}
use Rattle.gtid_event.specs.Fits.{Fits}
use Rattle.gtid_sets.specs.Lent.{SetLaid}
use Rattle.set_join.specs.Answers.{take_in_answers}
use Rattle.resume_set.specs.Answers.{offer_answers}
use Rattle.text.specs.Lines.{refused_text}
use Rattle.listing.specs.EventText.{record_text, event_text}
use Rattle.resume_set_laws.specs.History.{kept_all, member, Turn, comes_to}
use Rattle.resume_set_laws.specs.Ours.{ours}
use Rattle.promises.specs.SetFaults.{SetFault, BodyIs, Names}

-- one of the intervals ends there
abbrev pub EndsAt : ℕ → List Interval → Type 0
EndsAt end [] = ⊥
EndsAt end (interval start stop ∷ is) = (stop ≡ end) ⊎ EndsAt end is

-- one of the entries has such an interval
abbrev pub HasEnd : ℕ → List Entry → Type 0
HasEnd end [] = ⊥
HasEnd end (entry k is ∷ es) = EndsAt end is ⊎ HasEnd end es

-- a record that is written, comes back equal, and is listed; and an offer of it is 15, to any set and whatever the output
pub record CarriedOnly (e : GtidEvent) : Type 0 where
  pub body : List ℕ
  pub written : event_output e ≡ bytes body
  pub read : gtid (type_of e) body ≡ parsed e (length body)
  pub listed : event_text (type_of e) body ≡ record_text e
  pub offered : (set : List ℕ) (s : List Entry) (out : List ℕ) → SetLaid set s → offer_answers set (type_of e) body out ≡ Err (Refused bad_gno)

pub record Highest : Type 0 where
  -- an end behind the top: bytes that have one are no set, and a body that has one is 15, taken in or listed
  pub lent : (set : List ℕ) (es : List Entry) (end : ℕ) → Bytes set → BodyIs set es → HasEnd end es → gno_top < end → SetFault set 14
  pub taken_in : (body out : List ℕ) (es : List Entry) (end : ℕ) → Bytes body → BodyIs body es → HasEnd end es → gno_top < end
      → (take_in_answers body out ≡ Err (Refused bad_gno)) × (event_text 35 body ≡ refused_text 15)
  -- whatever can be written, tagged or not, can be written with the top as its gno. (What others wrote with it is read and listed as any event:
  -- `RecordsMean`, `ListingTold`; and an offer of that is 15: `gno_rule` of `OfferFault`. If it is tagged and lacks its uuid, the listing says 21, and
  -- so does the offer)
  pub carried : (e : GtidEvent) → Fits e → writable e ≡ true → CarriedOnly (set_number 2 gno_top e)
  -- demand 3 by this rule: of whatever bytes, and so of a set after any offers, every member's number obeys it
  pub members : (set : List ℕ) (k : Key) (n : ℕ) → member set k n ≡ true → is_gno n ≡ true
  -- and an event whose number is the top or more, wherever it comes in a list of offers, leaves the run as it is without it
  pub passed_over : (set : List ℕ) (before after : List Turn) (t : Turn) (e : GtidEvent) → Names t.type t.body e → gno_top ≤ e.gno
      → kept_all (comes_to ours) set (before ++ (t ∷ after)) ≡ kept_all (comes_to ours) set (before ++ after)
