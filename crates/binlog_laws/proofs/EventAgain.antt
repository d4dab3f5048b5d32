-- An event of a file that comes again: where it wasn't refused, and its ids are members, it is answered again and changes nothing.
use Prim.Native.Nat.{ℕ, ◌≤◌}
use mathlib.Core.Path.{◌≡◌, refl}
use mathlib.Core.Bool.{true}
use mathlib.Core.List.{List}
use lib.Dec.{eqb}
use lib.ListN.{length}
use borrow.Author.Tests.{le-leb, eq-eqb}
use Rattle.misc.specs.Parse.{Parse, refuse, parsed}
use Rattle.misc.proofs.ParseLaws.{pick-either}
use Rattle.packets.specs.Gno.{is_gno}
use Rattle.packets.specs.Key.{Key}
use Rattle.packets.proofs.Tests.{split}
use Rattle.packets.proofs.Keys.{same_self}
use Rattle.previous_gtids_event.specs.Entry.{Entry}
use Rattle.previous_gtids_event.specs.Previous.{previous}
use Rattle.previous_gtids_event.specs.Rewrite.{body_bytes}
use Rattle.gtid_sets.specs.Set.{has, add}
use Rattle.gtid_sets.specs.TakeIn.{lawful, union}
use Rattle.gtid_sets.specs.Limits as limit
use Rattle.gtid_sets.specs.Limits.{fine, breaks, limits}
use Rattle.gtid_sets.specs.Run.{Event, anonymous, broken, names}
use Rattle.gtid_sets.specs.Lent.{form, lent_set}
use Rattle.gtid_sets.proofs.FormLaws.{lawful-holds}
use Rattle.gtid_sets.proofs.TakeInLaws.{union-within}
use Rattle.gtid_sets.proofs.LentLaws.{lent_is}
use Rattle.gtid_sets.proofs.RunLaws.{answer-cases}
use Rattle.set_join.specs.Answers.{saved_if}
use Rattle.resume_set.specs.Answers.{event_of}
use Rattle.set_join.specs.JoinIn.{joined_read}
use Rattle.resume_set_laws.specs.History.{among}
use Rattle.binlog.specs.Run.{did}
use Rattle.binlog_reader.specs.Does.{Judged, fitted, offers, joins, acts, does}
use Rattle.binlog_reader.specs.declared.Told.{Told}
use Rattle.binlog_reader.specs.declared.Told.TheVariants.{NoId, AlreadyThere, Taken, Joined}
use Rattle.binlog_laws.specs.Files.{told_ids, ids_of}
use Rattle.binlog_laws.proofs.DoesLaws.{never-did, fitted-did, did-as}

module _ (room : ℕ) (later : List ℕ) (l : List Entry) (type : ℕ) (body : List ℕ) (lent : lent_set later ≡ form l) (fits : length later ≤ room) where
  -- the set as it is
  fitted-same : (t : Told) → fitted room t (body_bytes l) ≡ did t later
  fitted-same t = rw (← (lent_is later l lent).written, le-leb (length later) room fits)

  -- it has all ids that were told
  abbrev Has : Told → Type 0
  Has u = (k : Key) (n : ℕ) → among (told_ids u type body) k n ≡ true → has l k n ≡ true

  -- an id that it has already
  named_again : (k : Key) (n : ℕ) → is_gno n ≡ true → has l k n ≡ true → (v : Told) × (offers room (form l) (names k n) ≡ did v later)
  named_again k n g h = (AlreadyThere, rw (g, h) (fitted-same AlreadyThere))

  offer-again : (s : List Entry) (u : Told) (next : List ℕ) → offers room (form s) (event_of type body) ≡ did u next → Has u
      → (v : Told) × (offers room (form l) (event_of type body) ≡ did v later)
  offer-again s u next h those = go (event_of type body) refl h
    where
      go : (x : Event) → event_of type body ≡ x → offers room (form s) x ≡ did u next → (v : Told) × (offers room (form l) x ≡ did v later)
      go anonymous e f = (NoId, fitted-same NoId)
      go (broken r) e f = never-did f
      go (names k n) e f = answer-cases s k n
          (λ g a. never-did (rw a at f))
          (λ g o a.
          let told : AlreadyThere ≡ u = (fitted-did room AlreadyThere (body_bytes s) u next (rw a at f)).0 in
          named_again k n g (those k n (rw (← told, e, same_self k, eq-eqb n n refl))))
          (λ g o fair a.
          let told : Taken ≡ u = (fitted-did room Taken (body_bytes (add k n s)) u next (rw a at f)).0 in
          named_again k n g (those k n (rw (← told, e, same_self k, eq-eqb n n refl))))
          (λ r full g o over a. never-did (rw a at f))

  join-read-again : (s es : List Entry) (used : ℕ) (u : Told) (next : List ℕ) → previous body ≡ parsed es used
      → joins room (joined_read s (parsed es used)) ≡ did u next → Has u → (v : Told) × (joins room (joined_read l (parsed es used)) ≡ did v later)
  join-read-again s es used u next is h those = split (lawful es)
      (λ good. judged good (limits (union es s)) (rw good at h))
      (λ bad. never-did (rw bad at h))
    where
      judged : lawful es ≡ true → (j : limit.Judged) → joins room (saved_if j (body_bytes (union es s))) ≡ did u next
          → (v : Told) × (joins room (joined_read l (parsed es used)) ≡ did v later)
      judged good fine f =
          let told : Joined ≡ u = (fitted-did room Joined (body_bytes (union es s)) u next f).0 in
          let same : union es l ≡ l = union-within es l (lawful-holds es good) (lent_is later l lent).formed (λ k n i. those k n (rw (← told, is) i)) in
          (Joined, rw (good, same, (lent_is later l lent).limited) (fitted-same Joined))
      judged good (breaks r) f = never-did f

  join-again : (s : List Entry) (u : Told) (next : List ℕ) → joins room (joined_read s (previous body)) ≡ did u next → Has u
      → (v : Told) × (joins room (joined_read l (previous body)) ≡ did v later)
  join-again s u next h those = go (previous body) refl h
    where
      go : (p : Parse (List Entry)) → previous body ≡ p → joins room (joined_read s p) ≡ did u next → (v : Told) × (joins room (joined_read l p) ≡ did v later)
      go (refuse r) is f = never-did f
      go (parsed es used) is f = join-read-again s es used u next is f those

  acts-again : (set : List ℕ) (s : List Entry) (u : Told) (next : List ℕ) → lent_set set ≡ form s → acts room set type body ≡ did u next → Has u
      → (v : Told) × (acts room later type body ≡ did v later)
  unfolding acts
  acts-again set s u next first h those =
      pick-either (eqb type 35) h
      (λ is f. rw (is, lent) (join-again s u next (rw first at f) those))
      (λ is f. rw (is, lent) (offer-again s u next (rw first at f) those))

-- where it wasn't refused, it is not refused by a later set that has its ids, and changes nothing there
pub event-again : (room : ℕ) (set : List ℕ) (s : List Entry) (type : ℕ) (body : List ℕ) (j : Judged) (next later : List ℕ) (l : List Entry)
    → lent_set set ≡ form s → does room set type body ≡ did j next → lent_set later ≡ form l → length later ≤ room
    → ((k : Key) (n : ℕ) → among (ids_of j) k n ≡ true → has l k n ≡ true) → (j' : Judged) × (does room later type body ≡ did j' later)
event-again room set s type body j next later l first h lent fits those =
    let d = did-as room set type body j next h in
    let (v, e) = acts-again room later l type body lent fits set s j.told next first d.acted (λ k n i. those k n (rw (d.is-type, d.is_body) i)) in
    (record { type = type; body = body; told = v }, rw e)
