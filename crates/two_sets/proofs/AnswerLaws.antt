-- Laws of the answers over two sets.
use Prim.Native.Nat.{ℕ, ◌+◌, ◌<◌, ◌≤◌}
use mathlib.Core.Path.{◌≡◌, refl, sym, ap, ◌∙◌}
use mathlib.Core.Logic.{inl, inr}
use mathlib.Core.Bool.{Bool, true, false, not, not-not}
use mathlib.Core.List.{List, [], ◌∷◌, ◌++◌}
use native.Mathlib.Omega.{arith}
use lib.Dec.{ltb}
use lib.ListN.{length, length-append}
use borrow.Author.Tests.{ltb-false}
use Rattle.misc.specs.Pick.{pick}
use Rattle.std.specs.Prelude.{⊤, Result, Ok, Err}
use Rattle.misc.specs.declared.refusal.Refusal.{Refusal}
use Rattle.misc.specs.declared.refusal.WriteError.{WriteError}
use Rattle.misc.specs.declared.refusal.WriteError.TheVariants.{Refused, NoRoom}
use Rattle.misc.specs.Refusal.{not_a_set, diverged}
use Rattle.misc.specs.Output.{refused, output_of, answer_of, WhereFits}
use Rattle.misc.proofs.OutputLaws.{◌also◌, output-refused}
use Rattle.packets.proofs.Tests.{split}
use Rattle.previous_gtids_event.specs.Entry.{Entry, entry, tag_of}
use Rattle.previous_gtids_event.specs.Rewrite.{entries_bytes, any_tag, header_bytes, body_bytes}
use Rattle.previous_gtids_event.proofs.Writing.{length-header, entry_length}
use Rattle.gtid_sets.specs.Limits.{judged_as, judged, limits}
use Rattle.gtid_sets.specs.Lent.{Lent, form, unfit, lent_set, GoodKeys}
use Rattle.gtid_sets.specs.Combine.{without, is_empty, subset}
use Rattle.gtid_sets.proofs.Bools.{or-false-parts}
use Rattle.gtid_sets.proofs.ByteLaws.{entries-least}
use Rattle.gtid_sets.proofs.LimitLaws.{limits-judged}
use Rattle.gtid_sets.proofs.CombineLaws.{combined-good, combined-swap}
use Rattle.set_check.specs.Check.{checked_of}
use Rattle.set_check.specs.declared.Checked.{Checked}
use Rattle.misc.proofs.VarlenLaws.{one_byte}
use Rattle.set_join.specs.Answers.{saved}
use Rattle.set_check.proofs.CursorLaws.{cursor-begins}
use Rattle.set_check.proofs.SetOfLaws.{check-told, check-unfit}
use Rattle.set_join.proofs.AnswerLaws.{saved-refused, joined-short, joined-fits}
use Rattle.two_sets.specs.Answers.{
  combined_output,
  combine_answers,
  combine_leaves,
  within_read,
  within_answers,
  head_read,
  which_answers,
  OneUnfit,
  BothLent,
  Begins,
}
use Rattle.set_check.specs.Cursor.{entries_left, begun, CursorIs}
use Rattle.two_sets.specs.Pairs.{CursorsAre, combining}
use Rattle.two_sets.specs.Write.{MadeIs, made_length}
use Rattle.two_sets.specs.declared.Cursors.{Cursors}
use Rattle.two_sets.specs.Differ.{own_ids}
use Rattle.two_sets.specs.declared.Choice.TheVariants.{First, Second}
use Rattle.two_sets.specs.declared.Own.{Own}
use Rattle.two_sets.specs.declared.Made.{Made}

-- ---- where the walk begins

module _ (bs cs : List ℕ) where
  -- the first bytes are none
  pub first-none : (x : Refusal) → Err x ≡ checked_of (lent_set bs) → Begins bs cs (Err x)
  first-none x told = let (none, same) = check-unfit bs told in (same, inl none)

  -- they are a set, and the second decides
  module _ (c : Checked) (told : Ok c ≡ checked_of (lent_set bs)) where
    is_first : CursorIs bs (begun c) × (lent_set bs ≡ form (entries_left bs (begun c)))
    is_first = cursor-begins bs c (check-told bs told)

    pub second-none : (x : Refusal) → Err x ≡ checked_of (lent_set cs) → Begins bs cs (Err x)
    second-none x said = let (none, same) = check-unfit cs said in (same, inr (entries_left bs (begun c), is_first.1, none))

    pub both-lent : (d : Checked) → Ok d ≡ checked_of (lent_set cs) → BothLent bs cs (record { first = begun c; second = begun d })
    both-lent d said =
        let (second, there) = cursor-begins cs d (check-told cs said) in
        record { first = is_first.1; second = there; cursors = record { first = is_first.0; second = second }; far = omega arith }

-- ---- what the calls answer then

-- one of the two is no set
unfit-told : {A : Type 0} (answer : Lent → Lent → A) (a : A) → ((y : Lent) → a ≡ answer unfit y) → ((s : List Entry) → a ≡ answer (form s) unfit)
    → (bs cs : List ℕ) → OneUnfit bs cs → a ≡ answer (lent_set bs) (lent_set cs)
unfit-told answer a one two bs cs (inl p) = rw p (one (lent_set cs))
unfit-told answer a one two bs cs (inr (s, p, q)) = rw (p, q) (two s)

module _ (bs cs : List ℕ) (x : Refusal) (b : Begins bs cs (Err x)) where
  pub combine-unfit : (op : Bool → Bool → Bool) (out : List ℕ) → (Err (Refused x) ≡ combine_answers op bs cs out) × (out ≡ combine_leaves op bs cs out)
  combine-unfit op out =
      rw (b.0, ← unfit-told (combined_output op) (refused not_a_set) (λ _. refl) (λ _. refl) bs cs b.1) (output-refused out not_a_set)

  pub within-unfit : Err x ≡ within_answers bs cs
  within-unfit = rw b.0 (unfit-told within_read (Err not_a_set) (λ _. refl) (λ _. refl) bs cs b.1)

  pub which-unfit : Err x ≡ which_answers bs cs
  which-unfit = rw b.0 (unfit-told head_read (Err not_a_set) (λ _. refl) (λ _. refl) bs cs b.1)

module _ (bs cs : List ℕ) (from : Cursors) (b : BothLent bs cs from) where
  abbrev s : List Entry
  s = entries_left bs from.first

  abbrev t : List Entry
  t = entries_left cs from.second

  pub combine-lent : (op : Bool → Bool → Bool) (out : List ℕ) (w : Result ℕ WriteError) (l : List ℕ)
      → (w ≡ answer_of out (saved (combining op bs cs from))) × (l ≡ output_of out (saved (combining op bs cs from)))
      → (w ≡ combine_answers op bs cs out) × (l ≡ combine_leaves op bs cs out)
  combine-lent op out w l h = rw (b.first, b.second) h

  pub within-lent : (own : Own) → own ≡ own_ids bs cs from (record { first = false; second = true }) → Ok (not own.first) ≡ within_answers bs cs
  within-lent own is = rw (is, b.first, b.second, not-not (is_empty (combining without bs cs from)))

  module _ (own : Own) (is : own ≡ own_ids bs cs from (record { first = false; second = false })) where
    -- the second has no id of its own exactly if it is a subset of the first, and so the other way round
    which-told : pick (not own.second) (Ok First) (pick (not own.first) (Ok Second) (Err diverged)) ≡ which_answers bs cs
    which-told =
        let turned = combined-swap without refl t s b.cursors.second.formed b.cursors.first.formed in
        rw (is, b.first, b.second, ← turned, not-not (subset t s), not-not (subset s t))

    pub first-has : not own.second ≡ true → Ok First ≡ which_answers bs cs
    first-has e = rw e at which-told

    pub second-has : not own.second ≡ false → not own.first ≡ true → Ok Second ≡ which_answers bs cs
    second-has e f = rw (e, f) at which-told

    pub neither-has : not own.second ≡ false → not own.first ≡ false → Err diverged ≡ which_answers bs cs
    neither-has e f = rw (e, f) at which-told

-- ---- a result that was measured

-- its keys are as keys are read
pub combining-good : (op : Bool → Bool → Bool) (bs cs : List ℕ) (c : Cursors) → CursorsAre bs cs c → GoodKeys (combining op bs cs c)
combining-good op bs cs c i =
    combined-good op (entries_left bs c.first) (entries_left cs c.second) i.first.keyed i.second.keyed

-- without tags each entry has a byte less
plain-shorter : (s : List Entry) → GoodKeys s → any_tag s ≡ false → length (entries_bytes true s) ≡ length (entries_bytes false s) + length s
unfolding entries_bytes any_tag
plain-shorter [] g h = refl
plain-shorter (entry k is ∷ s) g h =
    let (first, others) = or-false-parts (ltb 0 (length (tag_of k))) (any_tag s) h in
    let none : length (tag_of k) ≡ 0 = omega (arith, ltb-false 0 (length (tag_of k)) first) in
    simp (length-append, entry_length true k is g.0.uuid, entry_length false k is g.0.uuid, one_byte (length (tag_of k)) (omega arith))
    (omega (arith, plain-shorter s g.1 others))

body-length : (s : List Entry) → length (body_bytes s) ≡ 8 + length (entries_bytes (any_tag s) s)
unfolding body_bytes
body-length s = simp (length-append, length-header) refl

module _ (s : List Entry) (g : GoodKeys s) (z : Made) (i : MadeIs s true z) where
  pub entries_below : z.entries ≤ z.end
  entries_below = omega (arith, i.entries_is, i.end_is, entries-least true s g)

  pub length-is : made_length z ≡ length (body_bytes s)
  length-is = split z.tagged
      (λ h. let tags : any_tag s ≡ true = sym i.tags_is ∙ h in
      rw h (i.end_is ∙ sym (body-length s ∙ rw tags)))
      (λ h. let plain : any_tag s ≡ false = sym i.tags_is ∙ h in
      let size : length (body_bytes s) ≡ 8 + length (entries_bytes false s) = body-length s ∙ rw plain in
      rw h (omega (arith, size, i.end_is, i.entries_is, plain-shorter s g plain)))

  body-runs : body_bytes s ≡ header_bytes z.tagged z.entries ++ entries_bytes z.tagged s
  unfolding body_bytes
  body-runs = rw (i.tags_is, i.entries_is)

  -- ---- what is answered and written

  by-limits : {r : Result ⊤ Refusal} → r ≡ judged_as (judged z.crowded z.entries z.intervals) → r ≡ judged_as (limits s)
  by-limits told = told ∙ ap judged_as (limits-judged s z.crowded z.entries z.intervals i.crowd_is i.entries_is i.intervals_is)

  module _ (out : List ℕ) where
    pub over-limits : {x : Refusal} → Err x ≡ judged_as (judged z.crowded z.entries z.intervals)
        → (Err (Refused x) ≡ answer_of out (saved s)) × (out ≡ output_of out (saved s))
    over-limits told = saved-refused s out (by-limits told)

    module _ {u : ⊤} (told : Ok u ≡ judged_as (judged z.crowded z.entries z.intervals)) (len : ℕ) (size : len ≡ made_length z) where
      pub no_room : length out < len → (Err (NoRoom len) ≡ answer_of out (saved s)) × (out ≡ output_of out (saved s))
      no_room h = joined-short s out (by-limits told) len (size ∙ length-is) h

      pub all-written : len ≤ length out → {l l' : List ℕ} {at r : ℕ} → WhereFits out 0 (header_bytes z.tagged z.entries) l at
          → WhereFits l 8 (entries_bytes z.tagged s) l' r
          → (Ok len ≡ answer_of out (saved s)) × (l' ≡ output_of out (saved s))
      all-written h {l} {l'} {at} {r} p q =
          let p' : WhereFits out 0 (header_bytes z.tagged z.entries) l 8 =
          record { placed = λ room. record { holds = (p.placed room).holds; ends = omega (arith, length-header z.tagged z.entries) } } in
          joined-fits s out (by-limits told) len (size ∙ length-is) (header_bytes z.tagged z.entries ++ entries_bytes z.tagged s) l' r h body-runs
          (p' also q)
