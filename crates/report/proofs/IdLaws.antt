-- Counting the ids of a set: those of an entry, interval after interval, and those of the entries, one after another.
use Prim.Native.Nat.{ℕ, ◌+◌, ◌-◌, ◌*◌, ◌^◌, ◌<◌, ◌≤◌}
use mathlib.Core.Path.{◌≡◌, ap, ◌∙◌}
use mathlib.Core.Bool.{true}
use mathlib.Core.List.{List, ◌∷◌}
use native.Mathlib.Omega.{arith}
use lib.ListN.{length}
use Rattle.packets.specs.Gno.{interval}
use Rattle.packets.proofs.GnoLaws.{gno_top-is}
use Rattle.gtid_sets.specs.Interval.{Gapped, gapped}
use Rattle.gtid_sets.specs.Total.{size, total}
use Rattle.gtid_sets.proofs.FormLaws.{gapped-holds, gapped-tests}
use Rattle.gtid_sets.proofs.TotalLaws.{size-most, total-most}
use Rattle.misc.specs.Le.{number_at}
use Rattle.set_intervals.specs.Intervals.{intervals_at}
use Rattle.set_check.specs.Places.{place_in}
use Rattle.set_check.specs.Cursor.{beyond_of, entries_left, CursorIs}
use Rattle.set_check.specs.declared.Cursor.{Cursor}
use Rattle.gtid_sets.specs.Limits.{max_entries}
use Rattle.gtid_sets.proofs.LimitLaws.{max_entries-is}
use Rattle.set_check.specs.declared.EntryPlace.{EntryPlace}
use Rattle.set_intervals.proofs.Standing.{intervals-more}
use Rattle.set_check.proofs.CursorLaws.{Ahead, ahead, none_ahead, cursor-count}

-- ---- an entry

-- the intervals before the i-th are counted: with those that are left they hold what is wanted
pub record Sizing (bs : List ℕ) (first count ids i : ℕ) : Type 0 where
  pub low : ℕ
  pub gaps : Gapped low (intervals_at (count - i) bs (first + 16 * i))
  pub to-do : size (intervals_at count bs first) ≡ ids + size (intervals_at (count - i) bs (first + 16 * i))
  pub small : size (intervals_at count bs first) < 2 ^ 63

module _ (bs : List ℕ) (first count : ℕ) where
  pub sizing-none : gapped 0 (intervals_at count bs first) ≡ true → Sizing bs first count 0 0
  sizing-none g =
      let gaps = gapped-holds 0 (intervals_at count bs first) g in
      let all : count - 0 ≡ count = omega arith in
      let here : first + 16 * 0 ≡ first = omega arith in
      record {
        low = 0;
        gaps = rw (all, here) gaps;
        to-do = rw (all, here) (omega arith);
        small = omega (arith, size-most 0 (intervals_at count bs first) gaps, gno_top-is);
      }

  module _ (ids i : ℕ) (g : Sizing bs first count ids i) where
    pub sizing-all : i ≡ count → (ids ≡ size (intervals_at count bs first)) × (ids < 2 ^ 63)
    sizing-all h =
        let z : count - i ≡ 0 = omega arith in
        let none : size (intervals_at (count - i) bs (first + 16 * i)) ≡ 0 = rw z in
        (omega (arith, g.to-do), omega (arith, g.to-do, g.small))

    module _ (some : i < count) (start end : ℕ) (p : start ≡ number_at bs (first + 16 * i)) (q : end ≡ number_at bs (first + 16 * i + 8)) where
      next-interval : intervals_at (count - i) bs (first + 16 * i) ≡ interval start end ∷ intervals_at (count - (i + 1)) bs (first + 16 * (i + 1))
      next-interval =
          let rest : count - i - 1 ≡ count - (i + 1) = omega arith in
          let behind : first + 16 * i + 16 ≡ first + 16 * (i + 1) = omega arith in
          intervals-more bs (first + 16 * i) (count - i) (omega arith) ∙ rw (p, q, rest, behind)

      next-gaps : Gapped g.low (interval start end ∷ intervals_at (count - (i + 1)) bs (first + 16 * (i + 1)))
      next-gaps = rw next-interval at g.gaps

      pub next-rises : start ≤ end
      next-rises = omega (arith, next-gaps.1)

      pub next_small : ids + (end - start) < 2 ^ 63
      next_small = omega (arith, g.to-do, g.small, ap size next-interval)

      pub sizing-turn : Sizing bs first count (ids + (end - start)) (i + 1)
      sizing-turn = record { low = end; gaps = next-gaps.3; to-do = omega (arith, g.to-do, ap size next-interval); small = g.small }

-- ---- the entries

-- some entries are counted
pub record Totalling (bs : List ℕ) (wanted ids : ℕ) (left : Cursor) : Type 0 where
  pub cursor : CursorIs bs left
  pub to-do : wanted ≡ ids + total (entries_left bs left)
  pub most : wanted ≤ (2 ^ 63 - 2) * 384

pub totalling-none : (bs : List ℕ) (from : Cursor) → CursorIs bs from → from.left ≤ max_entries → Totalling bs (total (entries_left bs from)) 0 from
totalling-none bs from is few =
    record {
      cursor = is;
      to-do = omega arith;
      most = omega (arith, total-most (entries_left bs from) is.formed, cursor-count bs from, max_entries-is);
    }

module _ (bs : List ℕ) (wanted ids : ℕ) (left : Cursor) (g : Totalling bs wanted ids left) where
  pub totalling-all : left.left ≡ 0 → (ids ≡ wanted) × (ids < 192 * 2 ^ 64)
  totalling-all h =
      let none : total (entries_left bs left) ≡ 0 = ap total (none_ahead bs left h) in
      (omega (arith, g.to-do), omega (arith, g.to-do, g.most))

  module _ (some : 0 < left.left) (p : EntryPlace) (told : p ≡ place_in left.tagged bs left.at) where
    next : Ahead bs left p
    next = ahead bs left p g.cursor some told

    pub next-inside : p.first + 16 * p.count ≤ length bs
    next-inside = omega (arith, next.next-is, next.inside)

    pub next-gapped : gapped 0 (intervals_at p.count bs p.first) ≡ true
    next-gapped = gapped-tests 0 (intervals_at p.count bs p.first) next.gapped

    pub totalling-turn : (more : ℕ) → more ≡ size (intervals_at p.count bs p.first) → Totalling bs wanted (ids + more) (beyond_of left p)
    totalling-turn more is = record { cursor = next.next; to-do = omega (arith, g.to-do, ap total next.is); most = g.most }
