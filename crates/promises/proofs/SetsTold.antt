-- The statements of `specs/Told.antt`.
use Prim.Native.Nat.{ℕ}
use mathlib.Core.Path.{◌≡◌, refl, ap}
use mathlib.Core.Bool.{Bool, true, false}
use mathlib.Core.List.{List}
use lib.ListN.{length}
use Rattle.misc.specs.Pick.{pick}
use Rattle.misc.specs.declared.refusal.Refusal.{Refusal}
use Rattle.misc.specs.Parse.{Bytes}
use Rattle.packets.specs.Key.{Key}
use Rattle.previous_gtids_event.specs.Entry.{Entry}
use Rattle.previous_gtids_event.specs.Rewrite.{body_bytes}
use Rattle.gtid_sets.specs.Set.{has}
use Rattle.gtid_sets.specs.TakeIn.{lawful, taken_set}
use Rattle.gtid_sets.specs.Limits.{fine, limits, intervals}
use Rattle.gtid_sets.specs.Lent.{Lent, form, unfit, lent_set, SetLaid}
use Rattle.gtid_sets.proofs.FormLaws.{lawful-holds}
use Rattle.gtid_sets.proofs.TakeInLaws.{has-take_in}
use Rattle.gtid_sets.proofs.LentLaws.{lent_is, is-lent, lent-take_in}
use Rattle.resume_set.specs.Answers.{set_read}
use Rattle.resume_set.specs.declared.SetRead.{SetRead}
use Rattle.listing.specs.SetText.{set_text}
use Rattle.listing.specs.EventText.{previous_word, event_text}
use Rattle.abi.specs.Answers.{number_in, bit}
use Rattle.resume_set_laws.specs.History.{member}
use Rattle.std.specs.Prelude.{Result, Ok, Err}
use Rattle.promises.specs.SetFaults.{BodyIs}
use Rattle.promises.specs.Exact.{Exactly, says_yes}
use Rattle.promises.specs.Told.{SetsTold}
use Rattle.promises.proofs.SetsExact.{apart, body-read}

has-members : (set : List ℕ) (s : List Entry) → SetLaid set s → (k : Key) (n : ℕ) → member set k n ≡ has s k n
has-members set s laid k n = rw (is-lent set s laid)

abbrev counted : ℕ → ℕ → Result SetRead Refusal
counted n m = Ok (record { entries = n; intervals = m })

abbrev Counts : List ℕ → ℕ → ℕ → Type 0
Counts set n m = (s : List Entry) × SetLaid set s × (length s ≡ n) × (intervals s ≡ m)

checks : (set : List ℕ) (n m : ℕ) → Exactly (set_read (lent_set set) ≡ counted n m) (Counts set n m)
checks set n m = (go (lent_set set) refl, forced)
  where
    go : (l : Lent) → lent_set set ≡ l → set_read l ≡ counted n m → Counts set n m
    go unfit lent e = apart cc
    go (form s) lent e =
        let same : record { entries = length s; intervals = intervals s } ≡ record { entries = n; intervals = m } = cc in
        (s, lent_is set s lent, ap (λ (r : SetRead). r.entries) same, ap (λ (r : SetRead). r.intervals) same)

    forced : Counts set n m → set_read (lent_set set) ≡ counted n m
    forced (s, laid, many, wide) = rw (is-lent set s laid, many, wide)

module _ (body : List ℕ) (es : List Entry) (are : Bytes body) (is : BodyIs body es) (good : lawful es ≡ true) (room : limits (taken_set es) ≡ fine) where
  taken-lent : lent_set (body_bytes (taken_set es)) ≡ form (taken_set es)
  taken-lent = let (used, read) = body-read body are is in lent-take_in body es used read (lawful-holds es good) room

  shown : event_text 35 body ≡ set_text previous_word (taken_set es)
  unfolding event_text
  shown = let (used, read) = body-read body are is in rw (read, good, room, taken-lent)

  lists : (s : List Entry) × SetLaid (body_bytes s) s × (event_text 35 body ≡ set_text previous_word s) × ((k : Key) (n : ℕ) → has s k n ≡ has es k n)
  lists = (taken_set es, lent_is _ _ taken-lent, shown, has-take_in es)

as_number : (r : Result Bool Refusal) → number_in r bit ≡ pick (says_yes r) 1 0
as_number (Ok true) = refl
as_number (Ok false) = refl
as_number (Err x) = refl

pub sets-told : SetsTold
sets-told = record {
  members = has-members;
  check_set = checks;
  take_in = λ body es are is good. let (used, read) = body-read body are is in rw (read, good);
  list = lists;
  one_or_none = as_number;
  refused = λ x. refl;
  taken = λ len. refl;
  already_there = λ len. refl;
  no_id = λ len. refl;
}
