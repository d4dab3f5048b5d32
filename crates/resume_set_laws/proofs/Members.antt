-- Demand 3, members: after any offers they are the ids of the body that was taken in and those of the events answered "taken" or "already there";
-- and each "taken" adds one to how many there are.
use Prim.Native.Nat.{ℕ, ◌+◌}
use mathlib.Core.Path.{◌≡◌}
use mathlib.Core.List.{List, [], ◌∷◌}
use native.Mathlib.Omega.{arith}
use Rattle.previous_gtids_event.specs.Entry.{Entry}
use Rattle.gtid_sets.specs.Lent.{form, lent_set}
use Rattle.gtid_sets.specs.Total.{total}
use Rattle.gtid_sets.proofs.LentLaws.{is-lent}
use Rattle.resume_set_laws.specs.History.{Turn, kept, kept_all, All, comes_to, OfBytes, TellsHistory, takings, lent_number, CountsTaken}
use Rattle.resume_set_laws.specs.Ours.{ours}
use Rattle.resume_set_laws.proofs.AnyRun.{EachKeeps, tells-from}
use Rattle.resume_set_laws.proofs.OneOffer.{KeepsOne, good-said, one-offer}

offer-keeps : (set : List ℕ) (s : List Entry) (t : Turn) → lent_set set ≡ form s → OfBytes t → KeepsOne set s t
offer-keeps set s t lent ok = one-offer set s t lent (good-said t.type t.body ok)

pub each_keeps : EachKeeps OfBytes (comes_to ours)
each_keeps set s t lent ok = (offer-keeps set s t lent ok).keeps

pub tells-history : TellsHistory ours
tells-history = tells-from OfBytes (comes_to ours) each_keeps

-- ---- how many there are

counted : (set : List ℕ) (s : List Entry) (ts : List Turn) → lent_set set ≡ form s → All OfBytes ts
    → lent_number total (lent_set (kept_all (comes_to ours) set ts)) ≡ total s + takings ours set ts
counted set s [] lent ok = rw lent (omega arith)
counted set s (t ∷ ts) lent ok =
    let one = offer-keeps set s t lent ok.0 in
    omega (arith, counted (kept (comes_to ours) set t) one.keeps.next ts one.keeps.lent ok.1, one.counted)

pub counts-taken : CountsTaken ours
counts-taken set s ts laid ok = counted set s ts (is-lent set s laid) ok
