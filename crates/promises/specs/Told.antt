-- What the other calls over a set say of its members, beside `offer` and `contains` (`Exact`): the check, the listing, and the archive's numbers.
use Rattle.std.specs.Prelude.{ℕ, ◌≡◌, Bool, true, List, length, Result, Ok, Err}
use Rattle.misc.specs.Pick.{pick}
use Rattle.misc.specs.declared.refusal.Refusal.{Refusal}
use Rattle.misc.specs.declared.refusal.WriteError.{WriteError}
use Rattle.misc.specs.Refusal.{error_number, error_needed}
use Rattle.misc.specs.Parse.{Bytes}
use Rattle.packets.specs.Key.{Key}
use Rattle.previous_gtids_event.specs.Entry.{Entry}
use Rattle.previous_gtids_event.specs.Previous.{previous}
use Rattle.previous_gtids_event.specs.Rewrite.{body_bytes}
use Rattle.gtid_sets.specs.Set.{has}
use Rattle.gtid_sets.specs.TakeIn.{lawful, taken_set}
use Rattle.gtid_sets.specs.Limits.{fine, limits, intervals}
use Rattle.gtid_sets.specs.Lent.{lent_set, SetLaid}
use Rattle.set_join.specs.Answers.{saved, taken_in}
use Rattle.resume_set.specs.Answers.{set_read}
use Rattle.resume_set.specs.declared.Offered.TheVariants.{NoId, AlreadyThere, Taken}
use Rattle.listing.specs.SetText.{set_text}
use Rattle.listing.specs.EventText.{previous_word, event_text}
use Rattle.abi.specs.Answers.{number_in, numbers_of, bit}
use Rattle.resume_set_laws.specs.History.{member}
use Rattle.promises.specs.SetFaults.{BodyIs}
use Rattle.promises.specs.Exact.{Exactly, says_yes}

pub record SetsTold : Type 0 where
  -- what bytes that are a set say of members
  pub members : (set : List ℕ) (s : List Entry) → SetLaid set s → (k : Key) (n : ℕ) → member set k n ≡ has s k n
  -- the check accepts exactly such bytes, and counts their entries and intervals; so does the archive's
  pub check_set : (set : List ℕ) (n m : ℕ)
      → Exactly (set_read (lent_set set) ≡ Ok (record { entries = n; intervals = m }))
      ((s : List Entry) × SetLaid set s × (length s ≡ n) × (intervals s ≡ m))
  -- taking in judges the limits on what the joined ids come to, 17 before 16
  pub take_in : (body : List ℕ) (es : List Entry) → Bytes body → BodyIs body es → lawful es ≡ true → taken_in (previous body) ≡ saved (taken_set es)
  -- the set that the listing shows of a Previous-GTIDs event has exactly the event's ids
  pub list : (body : List ℕ) (es : List Entry) → Bytes body → BodyIs body es → lawful es ≡ true → limits (taken_set es) ≡ fine
      → (s : List Entry) × SetLaid (body_bytes s) s × (event_text 35 body ≡ set_text previous_word s) × ((k : Key) (n : ℕ) → has s k n ≡ has es k n)
  -- the archive says 1 for yes and 0 for no, and for a refusal: `gtid_contains`, `gtid_within`
  pub one_or_none : (r : Result Bool Refusal) → number_in r bit ≡ pick (says_yes r) 1 0
  -- and its kinds of an offer are 0 for a refusal, 1 for "taken", 2 for "already there" and 3 for "no id"
  pub refused : (x : WriteError) → numbers_of (Err x) ≡ record { refusal = error_number x; kind = 0; len = error_needed x }
  pub taken : (len : ℕ) → numbers_of (Ok (Taken len)) ≡ record { refusal = 0; kind = 1; len = len }
  pub already_there : (len : ℕ) → numbers_of (Ok (AlreadyThere len)) ≡ record { refusal = 0; kind = 2; len = len }
  pub no_id : (len : ℕ) → numbers_of (Ok (NoId len)) ≡ record { refusal = 0; kind = 3; len = len }
