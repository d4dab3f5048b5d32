-- What the set limits say, in the rules' numbers.
use Prim.Native.Nat.{ℕ, ◌≤◌, ◌<◌}
use mathlib.Core.Path.{◌≡◌, sym, ap, ◌∙◌}
use mathlib.Core.Logic.{◌⊎◌, inl, inr}
use mathlib.Core.List.{List}
use native.Mathlib.Omega.{arith}
use lib.Dec.{leb, eqb}
use lib.ListN.{length}
use borrow.Author.Tests.{leb-true, leb-false, eqb-true, eqb-false}
use Rattle.misc.specs.declared.refusal.Refusal.{Refusal}
use Rattle.misc.specs.Refusal.{full, crowded}
use Rattle.misc.specs.Parse.{refusal_in}
use Rattle.packets.proofs.Tests.{split}
use Rattle.previous_gtids_event.specs.Entry.{Entry}
use Rattle.gtid_sets.specs.Limits.{max_entries, max_intervals, intervals, crowds, Judged, fine, breaks, judged_as, limits, EntryOver}
use Rattle.gtid_sets.proofs.LimitLaws.{max_entries-is, max_intervals-is, max_of_entry-is, entry-over, over-entry, limits-crowded, limits-from, too-many-entries}
use Rattle.gtid_sets.proofs.LimitLaws.{too-many-intervals}
use Rattle.promises.specs.Exact.{Exactly}

module _ (s : List Entry) where
  pub counts : EntryOver 1024 s → crowds s ≡ 0 → ⊥
  counts e = entry-over s (rw max_of_entry-is e)

  pub counted : (crowds s ≡ 0 → ⊥) → EntryOver 1024 s
  counted some = rw max_of_entry-is at (over-entry s some)

  -- the three ways they come out
  pub limits-kinds : {P : Type 0} → (EntryOver 1024 s → limits s ≡ breaks crowded → P)
      → ((EntryOver 1024 s → ⊥) → (384 < length s) ⊎ (2560 < intervals s) → limits s ≡ breaks full → P)
      → ((EntryOver 1024 s → ⊥) → length s ≤ 384 → intervals s ≤ 2560 → limits s ≡ fine → P) → P
  limits-kinds over many within = split (eqb (crowds s) 0)
      (λ zero.
      let fair = eqb-true (crowds s) 0 zero in
      let lower : EntryOver 1024 s → ⊥ = λ e. counts e fair in
      split (leb (length s) max_entries)
      (λ few. split (leb (intervals s) max_intervals)
      (λ less.
      let a = leb-true _ _ few in
      let b = leb-true _ _ less in
      within lower (omega (arith, max_entries-is)) (omega (arith, max_intervals-is)) (limits-from s fair a b))
      (λ more. let b = leb-false _ _ more in many lower (inr (omega (arith, max_intervals-is))) (too-many-intervals s fair b)))
      (λ more. let a = leb-false _ _ more in many lower (inl (omega (arith, max_entries-is))) (too-many-entries s fair a)))
      (λ some. let ne = eqb-false (crowds s) 0 some in over (counted ne) (limits-crowded s ne))

  -- as a number, 0 for none
  abbrev said : Judged → ℕ
  said j = refusal_in (judged_as j)

  -- two of them are never the same
  other : {X : Type 0} (a b : ℕ) → a < b → a ≡ b → X
  other a b less same = absurd (omega arith)

  both : length s ≤ 384 → intervals s ≤ 2560 → (384 < length s) ⊎ (2560 < intervals s) → ⊥
  both few less (inl h) = omega arith
  both few less (inr h) = omega arith

  pub entry_limit : Exactly (limits s ≡ breaks crowded) (EntryOver 1024 s)
  entry_limit = (
    λ h. limits-kinds
        (λ e _. e)
        (λ _ _ is. other 16 17 (omega arith) (ap said (sym is ∙ h)))
        (λ _ _ _ is. other 0 17 (omega arith) (ap said (sym is ∙ h))),
    λ e. limits-crowded s (counts e),
  )

  pub other_limits : Exactly (limits s ≡ breaks full) ((EntryOver 1024 s → ⊥) × ((384 < length s) ⊎ (2560 < intervals s)))
  other_limits = (
    λ h. limits-kinds
        (λ _ is. other 16 17 (omega arith) (ap said (sym h ∙ is)))
        (λ none many _. (none, many))
        (λ _ _ _ is. other 0 16 (omega arith) (ap said (sym is ∙ h))),
    λ (none, many). limits-kinds (λ e _. absurd (none e)) (λ _ _ is. is) (λ _ few less _. absurd (both few less many)),
  )

  pub set_limits : Exactly (limits s ≡ fine) ((EntryOver 1024 s → ⊥) × (length s ≤ 384) × (intervals s ≤ 2560))
  set_limits = (
    λ h. limits-kinds
        (λ _ is. other 0 17 (omega arith) (ap said (sym h ∙ is)))
        (λ _ _ is. other 0 16 (omega arith) (ap said (sym h ∙ is)))
        (λ none few less _. (none, few, less)),
    λ (none, few, less). limits-kinds (λ e _. absurd (none e)) (λ _ many _. absurd (both few less many)) (λ _ _ _ is. is),
  )

  -- what they refuse with is 17 or 16
  pub limits-refuse : {P : Type 0} {r : Refusal} → limits s ≡ breaks r → (EntryOver 1024 s → r ≡ crowded → P) → (limits s ≡ breaks full → r ≡ full → P) → P
  limits-refuse {P} {r} h over many = limits-kinds
      (λ e is. let same : breaks r ≡ breaks crowded = sym h ∙ is in over e cc)
      (λ _ _ is. let same : breaks r ≡ breaks full = sym h ∙ is in many is cc)
      (λ _ _ _ is. let same : fine ≡ breaks r = sym is ∙ h in let z : ◌≡◌ {A = ℕ} 0 1 = cc in absurd (omega arith))
