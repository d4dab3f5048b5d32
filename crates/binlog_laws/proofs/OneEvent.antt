-- One event of a file, offered or joined to a set's bytes: what is kept is a set, and its members are those before and the event's ids.
use Prim.Native.Nat.{ℕ}
use mathlib.Core.Path.{◌≡◌, refl, ap, ◌∙◌}
use mathlib.Core.Bool.{Bool, true, ◌&&◌, ◌||◌, or_comm}
use mathlib.Core.List.{List}
use lib.Dec.{eqb}
use Rattle.misc.specs.Parse.{Parse, refuse, parsed, Bytes}
use Rattle.misc.proofs.ParseLaws.{pick-either}
use Rattle.packets.specs.Key.{Key}
use Rattle.packets.proofs.Tests.{split}
use Rattle.previous_gtids_event.specs.Entry.{Entry}
use Rattle.previous_gtids_event.specs.Previous.{previous}
use Rattle.previous_gtids_event.specs.Rewrite.{body_bytes}
use Rattle.gtid_sets.specs.Set.{has}
use Rattle.gtid_sets.specs.TakeIn.{lawful, union}
use Rattle.gtid_sets.specs.Limits as limit
use Rattle.gtid_sets.specs.Limits.{fine, breaks, limits}
use Rattle.gtid_sets.specs.Run.{Event, Answer, no_id, already, taken, refused, answer, after, is_member, is_of}
use Rattle.gtid_sets.specs.Lent.{form, lent_set}
use Rattle.gtid_sets.proofs.FormLaws.{lawful-holds}
use Rattle.gtid_sets.proofs.TakeInLaws.{has-union}
use Rattle.gtid_sets.proofs.LentLaws.{lent_is, lent_back, lent-union}
use Rattle.gtid_sets.proofs.RunLaws.{has-after, form-after, limits-after}
use Rattle.gtid_sets.proofs.SavedLaws.{good-after}
use Rattle.set_join.specs.Answers.{saved_if}
use Rattle.resume_set.specs.Answers.{event_of}
use Rattle.set_join.specs.JoinIn.{joined_read}
use Rattle.resume_set_laws.specs.History.{Ids, among}
use Rattle.resume_set_laws.proofs.OneOffer.{good-said, among-id}
use Rattle.binlog.specs.Run.{did}
use Rattle.binlog_reader.specs.Does.{Judged, fitted, offered_as, offers, joins, acts, does}
use Rattle.binlog_reader.specs.declared.Told.{Told}
use Rattle.binlog_reader.specs.declared.Told.TheVariants.{NoId, AlreadyThere, Taken, Joined}
use Rattle.binlog_laws.specs.Files.{told_ids, ids_of}
use Rattle.binlog_laws.proofs.DoesLaws.{never-did, fitted-did, did-as}

-- the set that is kept after an event, and its members
pub record Grows (s : List Entry) (ids : Ids) (next : List ℕ) : Type 0 where
  pub grown : List Entry
  pub lent : lent_set next ≡ form grown
  pub members : (k : Key) (n : ℕ) → has grown k n ≡ has s k n || among ids k n

-- ---- offered

module _ (room : ℕ) (set : List ℕ) (s : List Entry) (type : ℕ) (body : List ℕ) (lent : lent_set set ≡ form s) where
  abbrev event : Event
  event = event_of type body

  offer-lent : Bytes body → lent_set (body_bytes (after s event)) ≡ form (after s event)
  offer-lent ok =
      let l = lent_is set s lent in
      let good = good-after s event (good-said type body ok) l.keyed in
      lent_back (after s event) (form-after s event l.formed) good (limits-after s event l.limited)

  -- with this answer, which is no refusal
  offer-as : (a : Answer) (t u : Told) (next : List ℕ) → Bytes body → answer s event ≡ a → fitted room t (body_bytes (after s event)) ≡ did u next
      → ((k : Key) (n : ℕ) → is_member a && is_of event k n ≡ among (told_ids t type body) k n) → Grows s (told_ids u type body) next
  offer-as a t u next ok e h those =
      let (same-told, same_set, fits) = fitted-did room t (body_bytes (after s event)) u next h in
      rw (← same-told, ← same_set) (record {
        grown = after s event;
        lent = offer-lent ok;
        members = λ k n. has-after s event k n ∙ rw e (ap (λ (x : Bool). has s k n || x) (those k n));
      })

  offer-grows : (u : Told) (next : List ℕ) → Bytes body → offers room (form s) event ≡ did u next → Grows s (told_ids u type body) next
  offer-grows u next ok h = go (answer s event) refl h
    where
      go : (a : Answer) → answer s event ≡ a → offered_as room a (body_bytes (after s event)) ≡ did u next → Grows s (told_ids u type body) next
      go no_id e f = offer-as no_id NoId u next ok e f (λ k n. refl)
      go already e f = offer-as already AlreadyThere u next ok e f (among-id event)
      go taken e f = offer-as taken Taken u next ok e f (among-id event)
      go (refused r) e f = never-did f

  -- ---- joined

  join-read : (es : List Entry) (used : ℕ) (u : Told) (next : List ℕ) → previous body ≡ parsed es used
      → joins room (joined_read s (parsed es used)) ≡ did u next → Grows s (told_ids u type body) next
  join-read es used u next is h = split (lawful es)
      (λ good. judged good (limits (union es s)) refl (rw good at h))
      (λ bad. never-did (rw bad at h))
    where
      judged : lawful es ≡ true → (j : limit.Judged) → limits (union es s) ≡ j → joins room (saved_if j (body_bytes (union es s))) ≡ did u next
          → Grows s (told_ids u type body) next
      judged good fine l f =
          let (same-told, same_set, fits) = fitted-did room Joined (body_bytes (union es s)) u next f in
          rw (← same-told, ← same_set, is) (record {
            grown = union es s;
            lent = lent-union body es used set s is lent (lawful-holds es good) l;
            members = λ k n. has-union es s k n ∙ or_comm (has es k n) (has s k n);
          })
      judged good (breaks r) l f = never-did f

  join-grows : (u : Told) (next : List ℕ) → joins room (joined_read s (previous body)) ≡ did u next → Grows s (told_ids u type body) next
  join-grows u next h = go (previous body) refl h
    where
      go : (p : Parse (List Entry)) → previous body ≡ p → joins room (joined_read s p) ≡ did u next → Grows s (told_ids u type body) next
      go (refuse r) is f = never-did f
      go (parsed es used) is f = join-read es used u next is f

  acts-grows : (u : Told) (next : List ℕ) → Bytes body → acts room set type body ≡ did u next → Grows s (told_ids u type body) next
  unfolding acts
  acts-grows u next ok h =
      pick-either (eqb type 35) h
      (λ is f. join-grows u next (rw lent at f))
      (λ is f. offer-grows u next ok (rw lent at f))

-- what is kept after an event that isn't refused is a set, and its members are those before and the event's ids
pub event-grows : (room : ℕ) (set : List ℕ) (s : List Entry) (type : ℕ) (body : List ℕ) (j : Judged) (next : List ℕ) → lent_set set ≡ form s → Bytes body
    → does room set type body ≡ did j next → Grows s (ids_of j) next
event-grows room set s type body j next lent ok h =
    let d = did-as room set type body j next h in
    rw (d.is-type, d.is_body) (acts-grows room set s type body lent j.told next ok d.acted)

-- a member stays a member
pub stays-member : (s : List Entry) (ids : Ids) (next : List ℕ) (g : Grows s ids next) (k : Key) (n : ℕ) → has s k n ≡ true → has g.grown k n ≡ true
stays-member s ids next g k n h = g.members k n ∙ rw h
