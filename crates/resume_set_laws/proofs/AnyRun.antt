-- Demand 3, members, whatever gives the events: if after each event the set has the ids it had and those of the event's outcome, then after any
-- list of events the members are what the demand says.
use Prim.Native.Nat.{ℕ}
use mathlib.Core.Path.{◌≡◌, sym, ap, ◌∙◌}
use mathlib.Core.Bool.{Bool, ◌||◌, or-false, or_assoc}
use mathlib.Core.List.{List, [], ◌∷◌}
use Rattle.packets.specs.Key.{Key}
use Rattle.previous_gtids_event.specs.Entry.{Entry}
use Rattle.gtid_sets.specs.Set.{has}
use Rattle.gtid_sets.specs.TakeIn.{taken_set}
use Rattle.gtid_sets.specs.Lent.{form, lent_set}
use Rattle.gtid_sets.proofs.TakeInLaws.{has-take_in}
use Rattle.resume_set_laws.specs.History.{Outcome, among, ids_in, kept, kept_all, granted, All, Tells}
use Rattle.resume_set_laws.proofs.Starts.{starts}

-- what is kept after an event is a set, and its members are those before and the ids of the outcome
pub record Keeps {T : Type 0} (comes : List ℕ → T → Outcome) (set : List ℕ) (s : List Entry) (t : T) : Type 0 where
  pub next : List Entry
  pub lent : lent_set (kept comes set t) ≡ form next
  pub members : (k : Key) (n : ℕ) → has next k n ≡ has s k n || among (ids_in (comes set t)) k n

-- so it is after each good event
abbrev pub EachKeeps : {T : Type 0} → (T → Type 0) → (List ℕ → T → Outcome) → Type 0
EachKeeps {T} Good comes = (set : List ℕ) (s : List Entry) (t : T) → lent_set set ≡ form s → Good t → Keeps comes set s t

-- the same after some events
pub record KeepsAll {T : Type 0} (comes : List ℕ → T → Outcome) (set : List ℕ) (s : List Entry) (ts : List T) : Type 0 where
  pub last : List Entry
  pub lent : lent_set (kept_all comes set ts) ≡ form last
  pub members : (k : Key) (n : ℕ) → has last k n ≡ has s k n || granted comes set ts k n

module _ {T : Type 0} (Good : T → Type 0) (comes : List ℕ → T → Outcome) (keeps : EachKeeps Good comes) where
  pub all-events : (set : List ℕ) (s : List Entry) (ts : List T) → lent_set set ≡ form s → All Good ts → KeepsAll comes set s ts
  all-events set s [] lent ok = record { last = s; lent = lent; members = λ k n. sym (or-false (has s k n)) }
  all-events set s (t ∷ ts) lent ok =
      let one = keeps set s t lent ok.0 in
      let rest = all-events (kept comes set t) one.next ts one.lent ok.1 in
      record {
        last = rest.last;
        lent = rest.lent;
        members = λ k n.
            rest.members k n ∙ ap (λ (x : Bool). x || granted comes (kept comes set t) ts k n) (one.members k n)
            ∙ or_assoc (has s k n) (among (ids_in (comes set t)) k n) (granted comes (kept comes set t) ts k n);
      }

  pub tells-from : Tells Good comes
  tells-from body es set ts t ok =
      let run = all-events set (taken_set es) ts (starts body es set t) ok in (
        (run.last, run.lent),
        λ k n. rw run.lent (run.members k n ∙ rw (has-take_in es k n)),
      )
