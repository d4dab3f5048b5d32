-- What the walks over intervals need.
use Prim.Native.Nat.{ℕ, ◌-◌, ◌<◌, ◌≤◌}
use mathlib.Core.Path.{◌≡◌, refl, sym, ap, ◌∙◌}
use mathlib.Core.Bool.{Bool, ◌&&◌, or-false}
use mathlib.Core.List.{List, [], ◌∷◌}
use native.Mathlib.Omega.{arith}
use lib.Dec.{ltb, leb}
use lib.ListN.{length, get_or, take, drop, length-map, length-drop}
use lib.Seq.{take_all, drop-cons}
use Rattle.std.proofs.lemmas.List.{drop-map}
use Rattle.std.specs.List.{list_all, prefix_len}
use Rattle.misc.specs.Le.{number_at}
use Rattle.packets.specs.Gno.{Interval, interval, is_interval}
use Rattle.packets.proofs.Tests.{split, tests}
use Rattle.gtid_sets.specs.Interval.{within, covers, Gapped}
use Rattle.gtid_sets.specs.Splice.{earlier, from}
use Rattle.gtid_sets.specs.TakeIn.{proper}
use Rattle.gtid_sets.proofs.IntervalLaws.{outside, gapped-misses}
use Rattle.set_intervals.specs.Intervals.{first_holds, held_in, interval_of, told, splice_of, reach_of}
use Rattle.set_intervals.specs.declared.Splice.{Splice}
use Rattle.set_intervals.specs.declared.Reach.{Reach}

-- ---- their form

pub all_proper : (is : List Interval) → list_all is_interval is ≡ proper is
all_proper [] = refl
all_proper (i ∷ is) = rw (all_proper is)

-- ---- how many end before a number

pub earlier-few : (a : ℕ) (is : List Interval) → earlier a is ≤ length is
earlier-few a [] = omega arith
earlier-few a (interval s e ∷ is) = split (ltb e a) (λ h. rw h (omega (arith, earlier-few a is))) (λ h. rw h (omega arith))

abbrev pub ends-before : ℕ → Interval → Bool
ends-before a (interval start end) = ltb end a

pub earlier-is : (a : ℕ) (is : List Interval) → prefix_len (ends-before a) is ≡ earlier a is
earlier-is a [] = refl
earlier-is a (interval s e ∷ is) = split (ltb e a) (λ h. rw (h, earlier-is a is) (omega arith)) (λ h. rw h)

-- so many is a place among the chunks
pub before-inside : (cs : List (List ℕ)) (is : List Interval) (a before : ℕ) → told cs ≡ is → before ≡ earlier a is → before ≤ length cs
before-inside cs is a before all counted = omega (arith, counted, earlier-few a is, ap length (sym all), length-map cs interval_of)

-- ---- whether a number is held

pub held-one : (cs : List (List ℕ)) (before n : ℕ) → before < length cs → (chunk : List ℕ) → chunk ≡ get_or cs before []
    → (leb (number_at chunk 0) n && ltb n (number_at chunk 8)) ≡ first_holds n (drop before (told cs))
held-one cs before n h chunk e = rw (drop-map, drop-cons cs before [] h, e)

-- those that end before n don't hold it, and those after the next one begin above it
pub held-covers : (low n : ℕ) (is : List Interval) → Gapped low is → held_in n is ≡ covers is n
held-covers low n [] g = refl
held-covers low n (interval s e ∷ is) g = split (ltb e n)
    (λ k. rw (k, outside s e n (omega tests)) (held-covers e n is g.3))
    (λ k. rw (k, gapped-misses e is n g.3 (omega tests)) (sym (or-false (within s e n))))

-- ---- a splice

pub splice-made : (cs : List (List ℕ)) (is : List Interval) (a b before start : ℕ) (r : Reach) → told cs ≡ is → before ≡ earlier a is
    → start ≡ from a b (told (take (length cs - before) (drop before cs))) → r ≡ reach_of b (told (take (length cs - before) (drop before cs)))
    → ◌≡◌ {A = Splice} (record { before = before; taken = r.taken; start = start; end = r.end }) (splice_of a b is)
splice-made cs is a b before start r all p x y =
    let whole : take (length cs - before) (drop before cs) ≡ drop before cs = take_all _ _ (rw length-drop (omega arith)) in
    let rest : told (take (length cs - before) (drop before cs)) ≡ drop (earlier a is) is =
    ap told whole ∙ sym (drop-map interval_of before cs) ∙ rw (all, p) in
    rw (p, x, y, rest)
