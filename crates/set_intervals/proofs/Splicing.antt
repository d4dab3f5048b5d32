-- An interval that is joined to gapped ones, as a splice of their bytes.
use Prim.Native.Nat.{ℕ, ◌+◌, ◌-◌, ◌*◌, ◌/◌, ◌<◌, ◌≤◌, max}
use mathlib.Core.Path.{◌≡◌, sym, ap, ◌∙◌}
use mathlib.Core.List.{List, [], ◌∷◌, ◌++◌, append_assoc, append-nil}
use native.Mathlib.Omega.{arith}
use lib.Dec.{ltb}
use lib.ListN.{length, take, drop, length-append, length-drop, drop_of_length-le}
use lib.Seq.{length-take-le, drop-drop}
use Rattle.misc.specs.Parse.{Bytes}
use Rattle.packets.specs.Gno.{Interval, interval}
use Rattle.packets.proofs.Tests.{split}
use Rattle.previous_gtids_event.specs.Rewrite.{intervals_bytes}
use Rattle.gtid_sets.specs.Interval.{Gapped, insert}
use Rattle.gtid_sets.specs.Splice.{earlier, taken_up, reach, from}
use Rattle.gtid_sets.proofs.SpliceLaws.{insert-splice}
use Rattle.gtid_sets.proofs.ByteLaws.{intervals_bytes-append}
use Rattle.set_intervals.specs.Intervals.{intervals_at, intervals_from, intervals_in, splice_of, spliced_run}
use Rattle.set_intervals.specs.declared.Splice.{Splice}
use Rattle.set_intervals.proofs.Standing.{take-intervals, intervals-part, intervals-stand, left-count, left_behind}
use Rattle.set_intervals.proofs.Walks.{earlier-few}

pub taken-few : (b : ℕ) (is : List Interval) → taken_up b is ≤ length is
taken-few b [] = omega arith
taken-few b (interval s e ∷ is) = split (ltb b s) (λ h. rw h (omega arith)) (λ h. rw h (omega (arith, taken-few (max b e) is)))

-- the first intervals, and those from a place on, as they stand in the bytes
front_bytes : (bs : List ℕ) → Bytes bs → (k : ℕ) → 16 * k ≤ length bs → intervals_bytes (take k (intervals_in bs)) ≡ take (16 * k) bs
unfolding intervals_from
front_bytes bs ok k h =
    ap intervals_bytes (take-intervals k ((length bs - 0) / 16) bs 0 (omega arith)) ∙ intervals-part bs ok k 0 (omega arith)

back_bytes : (bs : List ℕ) → Bytes bs → (at : ℕ) → at + 16 * ((length bs - at) / 16) ≡ length bs → intervals_bytes (intervals_from bs at) ≡ drop at bs
unfolding intervals_from
back_bytes bs ok at h =
    let n : ℕ = (length bs - at) / 16 in
    sym (
    intervals-stand bs ok n at (omega arith)
    ∙ ap (λ (l : List ℕ). intervals_bytes (intervals_at n bs at) ++ l) (drop_of_length-le bs {i = at + 16 * n} (omega arith))
    ∙ append-nil (intervals_bytes (intervals_at n bs at))
    )

-- what a splice comes to: the intervals once the new one is joined to them
pub record SpliceIs (bs : List ℕ) (a b : ℕ) (s : Splice) : Type 0 where
  pub inside : 16 * (s.before + s.taken) ≤ length bs
  pub bytes : intervals_bytes (insert a b (intervals_in bs)) ≡ spliced_run bs s
  pub count-is : length (insert a b (intervals_in bs)) ≡ length bs / 16 - s.taken + 1

module _ (bs : List ℕ) (ok : Bytes bs) (whole : 16 * (length bs / 16) ≡ length bs) (a b : ℕ) (o : a < b) (g : Gapped 0 (intervals_in bs)) where
  abbrev before : ℕ
  before = earlier a (intervals_in bs)

  abbrev rest : List Interval
  rest = drop before (intervals_in bs)

  abbrev taken : ℕ
  taken = taken_up b rest

  abbrev behind : ℕ
  behind = 16 * (before + taken)

  few : before + taken ≤ length bs / 16
  few = omega (arith, earlier-few a (intervals_in bs), taken-few b rest, length-drop before (intervals_in bs), left-count bs 0)

  inserted : insert a b (intervals_in bs) ≡ take before (intervals_in bs) ++ (interval (from a b rest) (reach b rest) ∷ intervals_from bs behind)
  inserted =
      insert-splice 0 a b (intervals_in bs) o g
      ∙ ap (λ (l : List Interval). take before (intervals_in bs) ++ (interval (from a b rest) (reach b rest) ∷ l))
      (drop-drop taken before (intervals_in bs) ∙ left_behind bs (before + taken) (omega (arith, few)))

  pub splice-is : SpliceIs bs a b (splice_of a b (intervals_in bs))
  unfolding intervals_bytes
  splice-is = record {
    inside = omega (arith, few);
    bytes =
        ap intervals_bytes inserted
        ∙ intervals_bytes-append (take before (intervals_in bs)) (interval (from a b rest) (reach b rest) ∷ intervals_from bs behind)
        ∙ rw (front_bytes bs ok before (omega (arith, few)), back_bytes bs ok behind (omega (arith, few, whole))) (simp append_assoc);
    count-is =
        ap length inserted
        ∙ length-append (take before (intervals_in bs)) (interval (from a b rest) (reach b rest) ∷ intervals_from bs behind)
        ∙ omega (arith, length-take-le before (intervals_in bs) (earlier-few a (intervals_in bs)), left-count bs behind, few);
  }
