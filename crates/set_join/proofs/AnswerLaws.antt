-- Laws of answers and outputs.
use Prim.Native.Nat.{ℕ, ◌<◌, ◌≤◌}
use mathlib.Core.Path.{◌≡◌, refl, sym, ap, ◌∙◌}
use mathlib.Core.Bool.{Bool, true, false}
use mathlib.Core.List.{List, ◌++◌}
use native.Mathlib.Omega.{arith}
use borrow.Author.Tests.{eq-eqb}
use lib.ListN.{length, take}
use Rattle.std.specs.Prelude.{⊤, Result, Ok, Err}
use Rattle.misc.specs.declared.refusal.Refusal.{Refusal}
use Rattle.misc.specs.declared.refusal.WriteError.{WriteError}
use Rattle.misc.specs.declared.refusal.WriteError.TheVariants.{Refused, NoRoom}
use Rattle.misc.specs.Refusal.{not_a_set, bad_gno}
use Rattle.misc.specs.Output.{bytes, output_of, answer_of, Placed, WhereFits}
use Rattle.misc.proofs.ParseLaws.{ok-err}
use Rattle.misc.proofs.OutputLaws.{output-fits, output-short, output-refused}
use Rattle.packets.specs.Gno.{is_gno}
use Rattle.packets.specs.Key.{Key}
use Rattle.previous_gtids_event.specs.Entry.{Entry}
use Rattle.packets.specs.Tag.{none_or_tag}
use Rattle.previous_gtids_event.specs.Rewrite.{body_bytes}
use Rattle.gtid_sets.specs.Set.{has, join}
use Rattle.gtid_sets.specs.Limits.{Judged, fine, breaks, judged_as, judged, limits, over, crowds}
use Rattle.gtid_sets.specs.Run.{names}
use Rattle.gtid_sets.specs.Lent.{form, unfit, lent_set}
use Rattle.gtid_sets.proofs.LimitLaws.{limits-judged}
use Rattle.set_join.specs.Answers.{contained, saved, output, joined_id}
use Rattle.set_check.specs.SetOf.{set_of}
use Rattle.set_join.specs.Find.{Counted}
use Rattle.set_join.specs.Join.{PlanIs}
use Rattle.set_join.specs.declared.Joined.{Joined}
use Rattle.set_join.specs.declared.Held.{Held}
use Rattle.set_join.specs.declared.Plan.{Plan}

-- ---- `contains`

module _ (bs u t : List ℕ) (n : ℕ) (lent : lent_set bs ≡ form (set_of bs)) where
  pub is-asked : (b : Bool) → length u ≡ 16 → true ≡ none_or_tag t → true ≡ is_gno n → b ≡ has (set_of bs) (u ++ t) n
      → Ok b ≡ contained (lent_set bs) u t n
  is-asked b long p q e = rw (lent, eq-eqb (length u) 16 long, ← p, ← q, e)

-- ---- what the limits say of a set that was made, and of one that is planned

pub counts-judged : (s : List Entry) (h : Held) → Counted s h → judged h.crowded h.entries h.intervals ≡ limits s
counts-judged s h c = limits-judged s h.crowded h.entries h.intervals c.crowd c.count c.total

-- the entry that the interval goes into is the only one that can have too many
pub plan-judged : (bs u t : List ℕ) (a b : ℕ) (p : Plan) → PlanIs bs u t a b p → crowds (set_of bs) ≡ 0 → (crowd : ℕ) → crowd ≡ over p.held
    → judged crowd p.entries p.intervals ≡ limits (join (u ++ t) a b (set_of bs))
plan-judged bs u t a b p is none crowd e =
    limits-judged (join (u ++ t) a b (set_of bs)) crowd p.entries p.intervals
    (omega (arith, is.crowd_was, is.crowd_is)) is.entries_is is.intervals_is

-- ---- a set that was made, or is to be written

-- within the limits it is written as it is
pub saved-fine : (s : List Entry) (bs out d : List ℕ) (w : Result ℕ WriteError) → body_bytes s ≡ bs
    → w ≡ answer_of out (bytes bs) → d ≡ output_of out (bytes bs) → limits s ≡ fine → (w ≡ answer_of out (saved s)) × (d ≡ output_of out (saved s))
saved-fine s bs out d w whole p q f = rw (f, whole) (p, q)

module _ (s : List Entry) (out : List ℕ) where
  -- either the set is refused
  pub saved-refused : {x : Refusal} → Err x ≡ judged_as (limits s) → (Err (Refused x) ≡ answer_of out (saved s)) × (out ≡ output_of out (saved s))
  saved-refused {x} told = go (limits s) refl
    where
      go : (j : Judged) → limits s ≡ j → (Err (Refused x) ≡ answer_of out (saved s)) × (out ≡ output_of out (saved s))
      go fine e = absurd (ok-err (sym (told ∙ ap judged_as e)))
      go (breaks r) e =
          let said : ◌≡◌ {A = Result ⊤ Refusal} (Err x) (Err r) = told ∙ ap judged_as e in
          let same : x ≡ r = cc in
          rw (same, e) (output-refused out r)

  -- or it is within the limits
  module _ {u : ⊤} (told : Ok u ≡ judged_as (limits s)) where
    pub within : limits s ≡ fine
    within = go (limits s) refl
      where
        go : (j : Judged) → limits s ≡ j → j ≡ fine
        go fine e = refl
        go (breaks r) e = absurd (ok-err (told ∙ ap judged_as e))

    module _ (len : ℕ) (size : len ≡ length (body_bytes s)) where
      pub joined-short : length out < len → (Err (NoRoom len) ≡ answer_of out (saved s)) × (out ≡ output_of out (saved s))
      joined-short h = rw within (output-short out (body_bytes s) len size h)

      pub joined-fits : (runs d : List ℕ) (r : ℕ) → len ≤ length out → body_bytes s ≡ runs → WhereFits out 0 runs d r
          → (Ok len ≡ answer_of out (saved s)) × (d ≡ output_of out (saved s))
      joined-fits runs d r h b w =
          let w' : WhereFits out 0 (body_bytes s) d r = rw (← b) at w in
          let p : Placed out 0 (body_bytes s) d r = w'.placed (omega arith) in
          rw within (output-fits (omega arith) (record { holds = p.holds; ends = omega (arith, size) }))

-- ---- an id

module _ (s : List Entry) (k : Key) (n : ℕ) (out : List ℕ) where
  pub id-unlawful : is_gno n ≡ false
      → (record { already = false; wrote = Err (Refused bad_gno) } ≡ joined_id (form s) k n out)
      × (out ≡ output_of out (output (form s) (names k n)))
  unfolding output_of answer_of
  id-unlawful h = rw h (refl, refl)

-- lent bytes that are no set
pub id-unfit : (bs out : List ℕ) (k : Key) (n : ℕ) (x : Refusal) → (lent_set bs ≡ unfit) × (x ≡ not_a_set)
    → (record { already = false; wrote = Err (Refused x) } ≡ joined_id (lent_set bs) k n out)
    × (out ≡ output_of out (output (lent_set bs) (names k n)))
unfolding output_of answer_of
id-unfit bs out k n x (p, q) = rw (p, q) (refl, refl)

-- or a set, with a tag of which so many bytes count
pub id-lent : (bs out d u t : List ℕ) (len shown n : ℕ) (r : Joined) → lent_set bs ≡ form (set_of bs) → take shown t ≡ take len t
    → (r ≡ joined_id (form (set_of bs)) (u ++ take shown t) n out) × (d ≡ output_of out (output (form (set_of bs)) (names (u ++ take shown t) n)))
    → (r ≡ joined_id (lent_set bs) (u ++ take len t) n out) × (d ≡ output_of out (output (lent_set bs) (names (u ++ take len t) n)))
id-lent bs out d u t len shown n r lent same p = rw (lent, ← same) p
