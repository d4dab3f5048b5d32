-- Laws of the bytes of entries (`specs/Rewrite.antt`): their lengths, and that an entry which was read is written as its key, with the
-- length of its tag in the shortest form, and its count and intervals as they stood.
use mathlib.Core.Path.{◌≡◌, refl, sym, ap, ◌∙◌}
use mathlib.Core.Bool.{Bool, true, false}
use mathlib.Core.List.{List, [], ◌∷◌, ◌++◌, append_assoc}
use Prim.Native.Nat.{ℕ, zero, suc, ◌+◌, ◌-◌, ◌*◌, ◌/◌, ◌%◌, ◌^◌, ◌≤◌, ◌<◌}
use native.Mathlib.Nat.{mul_left_comm, pow-succ', div-add-mod'}
use native.Mathlib.Omega.{arith}
use lib.ListN.{length, drop, length-append}
use lib.Seq.{take-add, drop-drop}
use Rattle.misc.specs.Parse.{Bytes, parsed, part}
use Rattle.misc.specs.Le.{le_bytes, le_at}
use Rattle.misc.proofs.LeLaws.{length-le_bytes}
use Rattle.misc.proofs.Accepted.{part-is, le-accepted}
use Rattle.packets.specs.Gno.{Interval, interval}
use Rattle.packets.specs.Key.{Key}
use Rattle.previous_gtids_event.specs.Entry.{entry, uuid_of, tag_of}
use Rattle.previous_gtids_event.specs.Rewrite.{intervals_bytes, tag_bytes, head_run, entry_bytes, header_bytes}
use Rattle.misc.specs.declared.Read.{Read}
use Rattle.previous_gtids_event.specs.declared.HeadRead.{HeadRead}
use Rattle.previous_gtids_event.proofs.Reading.{interval_of, intervals_of, WholeTold}

-- ---- lengths
pub length-intervals-bytes : (is : List Interval) → length (intervals_bytes is) ≡ 16 * length is
unfolding intervals_bytes
length-intervals-bytes [] = refl
length-intervals-bytes (interval start end ∷ is) =
    simp (length-append, length-le_bytes, length-intervals-bytes is) (omega arith)

pub entry_length : (tags : Bool) (k : Key) (is : List Interval) → length (uuid_of k) ≡ 16
    → length (entry_bytes tags (entry k is)) ≡ 24 + 16 * length is + length (tag_bytes tags (tag_of k))
unfolding entry_bytes
entry_length tags k is h = simp (length-append, h, length-le_bytes, length-intervals-bytes) (omega arith)

pub length-head : (uuid : List ℕ) (tags : Bool) (tag : List ℕ) (n : ℕ) → length (head_run uuid tags tag n) ≡ length uuid + length (tag_bytes tags tag) + 8
length-head uuid tags tag n = simp (length-append, length-le_bytes)

pub length-header : (tags : Bool) (n : ℕ) → length (header_bytes tags n) ≡ 8
unfolding header_bytes
length-header false n = length-le_bytes 8 n
length-header true n = rw (length-append, length-le_bytes 6 n)

-- ---- the header as a number
abbrev pub header_number : Bool → ℕ → ℕ
header_number false n = n
header_number true n = 2 ^ 56 + n * 256 + 1

one-above : (w n : ℕ) → n < 256 ^ w → le_bytes (suc w) (256 ^ w + n) ≡ le_bytes w n ++ (1 ∷ [])
unfolding le_bytes
one-above zero n h = let none : n ≡ 0 = omega arith in rw none
one-above (suc w) n h =
    let low : (256 ^ suc w + n) % 256 ≡ n % 256 = omega arith in
    let rest : (256 ^ suc w + n) / 256 ≡ 256 ^ w + n / 256 = omega arith in
    rw (low, rest) (ap (λ (bs : List ℕ). n % 256 ∷ bs) (one-above w (n / 256) (omega arith)))

pub header-number : (t : Bool) (n : ℕ) → n < 2 ^ 48 → header_bytes t n ≡ le_bytes 8 (header_number t n)
unfolding header_bytes le_bytes
header-number false n h = refl
header-number true n h =
    let low : (2 ^ 56 + n * 256 + 1) % 256 ≡ 1 = omega arith in
    let rest : (2 ^ 56 + n * 256 + 1) / 256 ≡ 2 ^ 48 + n = omega arith in
    sym (rw (low, rest) (ap (λ (bs : List ℕ). 1 ∷ bs) (one-above 6 n h)))

-- what stands above the bytes of a width is left out
low-bytes : (w k n : ℕ) → le_bytes w (k * 256 ^ w + n) ≡ le_bytes w n
unfolding le_bytes
low-bytes zero k n = refl
low-bytes (suc w) k n =
    let above : k * 256 ^ suc w ≡ 256 * (k * 256 ^ w) = rw pow-succ' (mul_left_comm k 256 (256 ^ w)) in
    let low : (k * 256 ^ suc w + n) % 256 ≡ n % 256 = omega arith in
    let rest : (k * 256 ^ suc w + n) / 256 ≡ k * 256 ^ w + n / 256 = omega arith in
    rw (low, rest) (ap (λ (bs : List ℕ). n % 256 ∷ bs) (low-bytes w k (n / 256)))

-- the header of any count
pub header-tagged : (t : Bool) (n : ℕ) → t ≡ true → le_bytes 8 (header_number true (n % 2 ^ 48)) ≡ header_bytes t n
unfolding header_bytes
header-tagged t n e =
    let six : le_bytes 6 (n % 2 ^ 48) ≡ le_bytes 6 n = sym (low-bytes 6 (n / 2 ^ 48) (n % 2 ^ 48)) ∙ ap (le_bytes 6) (div-add-mod' n (2 ^ 48)) in
    sym (header-number true (n % 2 ^ 48) (omega arith)) ∙ rw (e, six)

pub header-plain : (t : Bool) (n : ℕ) → t ≡ false → le_bytes 8 n ≡ header_bytes t n
unfolding header_bytes
header-plain t n e = rw e

-- ---- what was read is written as it stood
pub part_join : (s : List ℕ) (at a b : ℕ) → part s at a ++ part s (at + a) b ≡ part s at (a + b)
part_join s at a b = rw (take-add a b (drop at s), drop-drop a at s)

module _ (s : List ℕ) (are_bytes : Bytes s) where
  intervals-bytes : (n at : ℕ) → at + 16 * n ≤ length s → intervals_bytes (intervals_of s n at) ≡ part s at (16 * n)
  unfolding intervals_bytes intervals_of interval_of
  intervals-bytes zero at h = refl
  intervals-bytes (suc n) at h =
      let m : 16 * suc n ≡ 8 + (8 + 16 * n) = omega arith in
      let k : at + 16 ≡ at + 8 + 8 = omega arith in
      rw (
        part-is s at are_bytes 8 (omega arith),
        part-is s (at + 8) are_bytes 8 (omega arith),
        intervals-bytes n (at + 16) (omega arith),
        k,
        part_join s (at + 8) 8 (16 * n),
        part_join s at 8 (8 + 16 * n),
        m,
      )

  -- the count and the intervals are one part of the body
  counted-bytes : (at n first : ℕ) (is : List Interval) → le_at 8 s at ≡ parsed n first → length is ≡ n → intervals_of s n first ≡ is
      → first + 16 * n ≤ length s → le_bytes 8 (length is) ++ intervals_bytes is ≡ part s at (8 + 16 * n)
  counted-bytes at n first is count all list room =
      let c = le-accepted s at are_bytes 8 n first count in
      ap (λ (m : ℕ). le_bytes 8 m ++ intervals_bytes is) all
      ∙ ap (λ (l : List Interval). le_bytes 8 n ++ intervals_bytes l) (sym list)
      ∙ rw (← c.0, c.1, intervals-bytes n (at + 8) (omega (arith, c.1))) (part_join s at 8 (16 * n))

-- an entry that was read, as its place says: its key, and the count and the intervals as they stand
pub entry-bytes : (tagged : Bool) (s : List ℕ) (at : ℕ) (r : Read HeadRead) (told : WholeTold tagged s at r) (tags : Bool)
    → Bytes s
    → entry_bytes tags (entry told.key told.list)
    ≡ (part s at 16 ++ tag_bytes tags (part s (r.value.first - 8 - r.value.tag_len) r.value.tag_len))
    ++ part s (r.value.first - 8) (r.next - (r.value.first - 8))
unfolding entry_bytes
entry-bytes tagged s at r told tags are_bytes =
    let there = told.there in
    let head = there.head in
    let rest = counted-bytes s are_bytes (there.first - 8) (length told.list) there.first told.list head.count-is refl there.intervals
    (omega (arith, there.end, there.inside)) in
    let size : r.next - (r.value.first - 8) ≡ 8 + 16 * length told.list = omega (arith, told.first, there.end, head.eight) in
    rw (head.uuid, rest, size, told.first, told.tag-len, head.tag.bytes) (sym (append_assoc (part s at 16) _ _))
