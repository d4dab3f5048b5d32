-- What is laid out (`specs/Layout.antt`) is read; and entries that are laid out in bytes can be written.
use mathlib.Core.Path.{◌≡◌, refl, sym, ap, ◌∙◌}
use mathlib.Core.Bool.{Bool, true, false}
use mathlib.Core.List.{List, [], ◌∷◌, ◌++◌, append_assoc}
use Prim.Native.Nat.{ℕ, suc, ◌+◌, ◌*◌, ◌/◌, ◌%◌, ◌^◌, ◌≤◌, ◌<◌}
use native.Mathlib.Nat.{add-zero, mul_left_comm, pow-succ'}
use native.Mathlib.Omega.{arith}
use lib.Dec.{eqb}
use lib.ListN.{length, length-append}
use borrow.Author.Tests.{ne_eqb}
use Rattle.misc.specs.Parse.{Bytes, parsed, many, part}
use Rattle.misc.specs.Le.{le_of, le_at}
use Rattle.misc.specs.Forms.{Number}
use Rattle.misc.proofs.ParseLaws.{bytes-here}
use Rattle.misc.proofs.Bounds.{front_bytes, behind-bytes, le_of-below}
use Rattle.misc.proofs.Walk.{ahead, many-none, many-next}
use Rattle.misc.proofs.Places.{From, from-room, from_next, from-part}
use Rattle.misc.proofs.FormsRead.{form-reads, number-reads}
use Rattle.packets.specs.Gno.{Interval, interval}
use Rattle.previous_gtids_event.specs.Entry.{Entry, entry}
use Rattle.packets.specs.Tag.{none_or_tag}
use Rattle.previous_gtids_event.specs.Previous.{GoodKey, tag_at, key_at, head_at, interval_at, entry_at, says_tagged, says_count}
use Rattle.previous_gtids_event.specs.Layout.{HeaderLaid, TagLaid, IntervalsLaid, EntryLaid, EntriesLaid}
use Rattle.previous_gtids_event.proofs.Reading.{uuid-of, tag-of}

-- ---- the header

le_of-snoc : (w : ℕ) (a : List ℕ) (t : ℕ) → length a ≡ w → le_of (a ++ (t ∷ [])) ≡ le_of a + t * 256 ^ w
unfolding le_of
le_of-snoc w [] t e = rw (← e) (omega arith)
le_of-snoc w (x ∷ a) t e =
    let k = length a in
    let above : t * 256 ^ suc k ≡ 256 * (t * 256 ^ k) = rw pow-succ' (mul_left_comm t 256 (256 ^ k)) in
    rw (← e, le_of-snoc k a t refl) (omega arith)

pub header-meant : {t : Bool} {n : ℕ} {bs : List ℕ} → HeaderLaid t n bs → Bytes bs
    → (length bs ≡ 8) × (says_tagged (le_of bs) ≡ t) × (says_count (le_of bs) ≡ n)
unfolding says_tagged says_count
header-meant (HeaderLaid.plain {n = n} {count = count} c) are =
    let low : le_of count < 256 ^ 7 = rw c.long at (le_of-below count (front_bytes count (0 ∷ []) are)) in
    let value : le_of (count ++ (0 ∷ [])) ≡ n = le_of-snoc 7 count 0 c.long ∙ omega (arith, c.spells) in
    let none : n / 2 ^ 56 ≡ 0 = omega (arith, c.spells) in
    let all : n % 2 ^ 56 ≡ n = omega (arith, c.spells) in
    (simp length-append (omega (arith, c.long)), rw (value, none), rw (value, none, all))
header-meant (HeaderLaid.tagged {n = n} {count = count} bottom top c some) are =
    let rest : Bytes (count ++ (top ∷ [])) = λ i. are (suc i) in
    let low : le_of count < 256 ^ 6 = rw c.long at (le_of-below count (front_bytes count (top ∷ []) rest)) in
    let value : le_of (bottom ∷ (count ++ (top ∷ []))) ≡ bottom + 256 * (n + top * 256 ^ 6) =
    unfold le_of in rw (le_of-snoc 6 count top c.long, c.spells) in
    let first : bottom < 256 = are 0 in
    let set : eqb top 0 ≡ false = ne_eqb top 0 (omega (arith, some)) in
    let high : (bottom + 256 * (n + top * 256 ^ 6)) / 2 ^ 56 ≡ top = omega (arith, c.spells) in
    let middle : (bottom + 256 * (n + top * 256 ^ 6)) / 256 % 2 ^ 48 ≡ n = omega (arith, c.spells) in
    (simp length-append (omega (arith, c.long)), rw (value, high, set), rw (value, high, set, middle))

pub header-reads : (s : List ℕ) {t : Bool} {n : ℕ} (bs rest : List ℕ) → HeaderLaid t n bs → Bytes bs → From s 0 (bs ++ rest)
    → (h : ℕ) × (le_at 8 s 0 ≡ parsed h 8) × (says_tagged h ≡ t) × (says_count h ≡ n) × From s 8 rest
header-reads s bs rest laid are h =
    let (eight, tagged, count) = header-meant laid are in
    (le_of bs, number-reads s 8 0 (le_of bs) bs rest (record { long = eight; spells = refl }) h, tagged, count, rw eight at (from_next s 0 bs rest h))

-- ---- entries

module _ (s : List ℕ) where
  pub interval-reads : (at start end : ℕ) (a b rest : List ℕ) → Number 8 start a → Number 8 end b → From s at (a ++ (b ++ rest))
      → (interval_at s at ≡ parsed (interval start end) (at + 8 + 8)) × From s (at + 8 + 8) rest
  unfolding interval_at
  interval-reads at start end a b rest x y h =
      let second : From s (at + 8) (b ++ rest) = rw x.long at (from_next s at a (b ++ rest) h) in
      let third : From s (at + 8 + 8) rest = rw y.long at (from_next s (at + 8) b rest second) in
      (rw (number-reads s 8 at start a (b ++ rest) x h, number-reads s 8 (at + 8) end b rest y second), third)

  intervals-read : (is : List Interval) (bs : List ℕ) → IntervalsLaid is bs → (at : ℕ) (rest : List ℕ) → From s at (bs ++ rest)
      → many (interval_at s) (length is) at ≡ parsed is (at + length bs)
  intervals-read is bs IntervalsLaid.none at rest h = many-none (interval_at s) at ∙ ap (parsed []) (sym (add-zero at))
  intervals-read is bs (IntervalsLaid.more {start = start} {end = end} {a = a} {b = b} {rest = others} {is = more} x y laid) at rest h =
      let flat : From s at (a ++ (b ++ (others ++ rest))) = simp append_assoc at h in
      let (one, behind) = interval-reads at start end a b (others ++ rest) x y flat in
      let place : at + 8 + 8 + length others ≡ at + length (a ++ (b ++ others)) = simp length-append (omega (arith, x.long, y.long)) in
      many-next (interval_at s) (length more) at (interval start end) (at + 8 + 8) one
      ∙ ap (ahead (interval start end)) (intervals-read more others laid (at + 8 + 8) rest behind) ∙ ap (parsed (interval start end ∷ more)) place

  pub tag-reads : (tagged : Bool) (at : ℕ) (t bs rest : List ℕ) → TagLaid tagged t bs → From s at (bs ++ rest) → tag_at tagged s at ≡ parsed t (at + length bs)
  unfolding tag_at
  tag-reads tagged at t bs rest TagLaid.untagged h = rw (add-zero at)
  tag-reads tagged at t bs rest (TagLaid.sized {size = size} form good) h =
      let flat : From s at (size ++ (t ++ rest)) = rw append_assoc at h in
      let behind = from_next s at size (t ++ rest) flat in
      let there : part s (at + length size) (length t) ≡ t = from-part s (at + length size) t rest behind (length t) refl in
      let end : at + length size + length t ≡ at + length (size ++ t) = omega (arith, length-append size t) in
      rw (
        form-reads s at (length t) size (t ++ rest) form flat,
        bytes-here (length t) s (at + length size) (from-room s (at + length size) t rest behind),
        there,
        good,
        end,
      )

  pub uuid-there : (at : ℕ) (uuid rest : List ℕ) → length uuid ≡ 16 → From s at (uuid ++ rest) → (at + 16 ≤ length s) × From s (at + 16) rest
  uuid-there at uuid rest sixteen h = (omega (arith, from-room s at uuid rest h), rw sixteen at (from_next s at uuid rest h))

  pub entry-reads : (tagged : Bool) (at : ℕ) (e : Entry) (bs rest : List ℕ) → EntryLaid tagged e bs → From s at (bs ++ rest)
      → entry_at tagged s at ≡ parsed e (at + length bs)
  unfolding entry_at head_at key_at
  entry-reads tagged at e bs rest (EntryLaid.parts uuid {tag = t} {bytes = tag} {count = count} {intervals = list} {is = is} sixteen tag_is count-is list-is)
      h =
      let flat : From s at (uuid ++ (tag ++ (count ++ (list ++ rest)))) = simp append_assoc at h in
      let (room, second) = uuid-there at uuid (tag ++ (count ++ (list ++ rest))) sixteen flat in
      let named : part s at 16 ≡ uuid = from-part s at uuid (tag ++ (count ++ (list ++ rest))) flat 16 (sym sixteen) in
      let third = from_next s (at + 16) tag (count ++ (list ++ rest)) second in
      let m = at + 16 + length tag in
      let fourth : From s (m + 8) (list ++ rest) = rw count-is.long at (from_next s m count (list ++ rest) third) in
      let end : m + 8 + length list ≡ at + length (uuid ++ (tag ++ (count ++ list))) = simp length-append (omega (arith, count-is.long)) in
      rw (
        bytes-here 16 s at room,
        named,
        tag-reads tagged (at + 16) t tag (count ++ (list ++ rest)) tag_is second,
        number-reads s 8 m (length is) count (list ++ rest) count-is third,
        intervals-read is list list-is (m + 8) rest fourth,
        end,
      )

  pub entries-read : (tagged : Bool) (es : List Entry) (bs : List ℕ) → EntriesLaid tagged es bs → (at : ℕ) (rest : List ℕ) → From s at (bs ++ rest)
      → many (entry_at tagged s) (length es) at ≡ parsed es (at + length bs)
  entries-read tagged es bs EntriesLaid.none at rest h = many-none (entry_at tagged s) at ∙ ap (parsed []) (sym (add-zero at))
  entries-read tagged es bs (EntriesLaid.more {e = e} {es = more} {one = one} {rest = others} first laid) at rest h =
      let flat : From s at (one ++ (others ++ rest)) = rw append_assoc at h in
      let read = entry-reads tagged at e one (others ++ rest) first flat in
      let reads = entries-read tagged more others laid (at + length one) rest (from_next s at one (others ++ rest) flat) in
      let end : at + length one + length others ≡ at + length (one ++ others) = omega (arith, length-append one others) in
      many-next (entry_at tagged s) (length more) at e (at + length one) read ∙ ap (ahead e) reads ∙ ap (parsed (e ∷ more)) end

-- ---- entries that can be written: 16 uuid bytes, no tag or one that obeys the rule, and numbers of 64 bits
abbrev pub GoodIntervals : List Interval → Type 0
GoodIntervals [] = Unit {0}
GoodIntervals (interval start end ∷ is) = (start < 2 ^ 64) × (end < 2 ^ 64) × GoodIntervals is

abbrev pub WellFormed : List Entry → Type 0
WellFormed [] = Unit {0}
WellFormed (entry k is ∷ es) = GoodKey k × GoodIntervals is × (length is < 2 ^ 64) × WellFormed es

number-below : {v : ℕ} (bs : List ℕ) → Number 8 v bs → Bytes bs → v < 2 ^ 64
number-below bs n are =
    let below : le_of bs < 256 ^ 8 = rw n.long at (le_of-below bs are) in
    omega (arith, n.spells)

intervals-good : (is : List Interval) (bs : List ℕ) → IntervalsLaid is bs → Bytes bs → GoodIntervals is
intervals-good is bs IntervalsLaid.none are = tt
intervals-good is bs (IntervalsLaid.more {a = a} {b = b} {rest = rest} {is = more} x y laid) are =
    let behind = behind-bytes a (b ++ rest) are in (
      number-below a x (front_bytes a (b ++ rest) are),
      number-below b y (front_bytes b rest behind),
      intervals-good more rest laid (behind-bytes b rest behind),
    )

tag-good : {tagged : Bool} {t bs : List ℕ} → TagLaid tagged t bs → none_or_tag t ≡ true
tag-good TagLaid.untagged = refl
tag-good (TagLaid.sized form good) = good

pub laid-well-formed : (tagged : Bool) (es : List Entry) (bs : List ℕ) → EntriesLaid tagged es bs → Bytes bs → WellFormed es
laid-well-formed tagged es bs EntriesLaid.none are = tt
laid-well-formed tagged es bs
    (EntriesLaid.more {es = more} {one = one} {rest = others}
    (EntryLaid.parts uuid {tag = t} {bytes = tag} {count = count} {intervals = list} {is = is} sixteen tag_is count-is list-is) laid) are =
    let counted = behind-bytes tag (count ++ list) (behind-bytes uuid (tag ++ (count ++ list)) (front_bytes (uuid ++ (tag ++ (count ++ list))) others are)) in (
      record { uuid = rw (uuid-of uuid t sixteen) sixteen; rule = rw (tag-of uuid t sixteen) (tag-good tag_is) },
      intervals-good is list list-is (behind-bytes count list counted),
      number-below count count-is (front_bytes count list counted),
      laid-well-formed tagged more others laid (behind-bytes (uuid ++ (tag ++ (count ++ list))) others are),
    )
