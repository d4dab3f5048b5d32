-- Laws of writing a result: its bytes entry by entry, and how many they are.
use Prim.Native.Nat.{ℕ, ◌+◌, ◌*◌, ◌/◌, ◌^◌, ◌<◌, ◌≤◌}
use mathlib.Core.Path.{◌≡◌, refl, sym, ap, ◌∙◌}
use mathlib.Core.Bool.{Bool, true, false, ◌||◌, or_assoc, or-false, not-not}
use mathlib.Core.List.{List, [], ◌∷◌, ◌++◌, append_assoc}
use native.Mathlib.Omega.{arith}
use lib.Dec.{ltb, eqb}
use lib.ListN.{length, take, drop, length-append}
use lib.Seq.{length-take-le, take-append-le, take-take, drop_at}
use borrow.Author.Tests.{ne_eqb}
use Rattle.misc.specs.Parse.{part}
use Rattle.misc.specs.Le.{le_bytes}
use Rattle.misc.specs.Varlen.{varlen_bytes}
use Rattle.misc.specs.Output.{written, Placed, WhereFits}
use Rattle.misc.proofs.LeLaws.{length-le_bytes}
use Rattle.misc.proofs.ParseLaws.{part_length}
use Rattle.misc.proofs.OutputLaws.{written_is, length-written, nothing_placed, ◌also◌}
use Rattle.packets.specs.Gno.{Interval}
use Rattle.packets.proofs.Tests.{split, clash}
use Rattle.previous_gtids_event.specs.Entry.{Entry, entry}
use Rattle.previous_gtids_event.specs.Rewrite.{intervals_bytes, entry_bytes, entries_bytes, any_tag, head_run}
use Rattle.previous_gtids_event.proofs.Reading.{uuid-of, tag-of}
use Rattle.gtid_sets.proofs.LimitLaws.{over-most}
use Rattle.gtid_sets.specs.Limits.{intervals, crowds}
use Rattle.gtid_sets.specs.Combine.{spans, is_open, keep}
use Rattle.misc.proofs.VarlenLaws.{one_byte}
use Rattle.two_sets.specs.Marks.{left_of, going, marks_bytes}
use Rattle.two_sets.specs.Pairs.{CursorsAre, places_of_both, combining, source_of, uuid_in, tag_in, KeyIs, PairIs}
use Rattle.two_sets.specs.Write.{head_length, kept_run, grown_by, Below, MadeIs}
use Rattle.two_sets.specs.declared.Cursors.{Cursors}
use Rattle.two_sets.specs.declared.KeyPlace.{KeyPlace}
use Rattle.two_sets.specs.declared.Pair.{Pair}
use Rattle.two_sets.specs.declared.Made.{Made}
use Rattle.two_sets.proofs.PairLaws.{none-combined}

-- ---- bytes that are written before others which stand behind them

written-before : (l a b : List ℕ) (at : ℕ) → at + length a + length b ≤ length l → written (written l (at + length a) b) at a ≡ written l at (a ++ b)
written-before l a b at room =
    let n : ℕ = at + length a in
    let rest : List ℕ = drop (n + length b) l in
    let first : written l n b ≡ take n l ++ (b ++ rest) = written_is l n b room ∙ append_assoc (take n l) b rest in
    let long : length (take n l) ≡ n = length-take-le n l (omega arith) in
    let front : take at (take n l ++ (b ++ rest)) ≡ take at l = take-append-le at (take n l) (b ++ rest) (omega arith) ∙ take-take at n l (omega arith) in
    let back : drop n (take n l ++ (b ++ rest)) ≡ b ++ rest = drop_at (take n l) (b ++ rest) n long in
    let end : at + length (a ++ b) ≡ n + length b = rw (length-append a b) (omega arith) in
    written_is (written l n b) at a (rw (length-written l n b) (omega arith)) ∙ rw (first, front, back)
    (simp append_assoc (sym (written_is l at (a ++ b) (omega (arith, end)) ∙ rw end (simp append_assoc refl))))

module _ (l l₁ l₂ a b : List ℕ) (at next : ℕ) where
  behind-first : WhereFits l (at + length a) b l₁ next → {r : ℕ} → WhereFits l₁ at a l₂ r → WhereFits l at (a ++ b) l₂ (at + length (a ++ b))
  behind-first p {r} q = record { placed = go }
    where
      go : at + length (a ++ b) ≤ length l → Placed l at (a ++ b) l₂ (at + length (a ++ b))
      go room =
          let both : at + (length a + length b) ≤ length l = rw length-append at room in
          let behind = p.placed (omega arith) in
          let same : length l₁ ≡ length l = ap length behind.holds ∙ length-written l (at + length a) b in
          let before = q.placed (omega arith) in
          record { holds = before.holds ∙ rw behind.holds (written-before l a b at (omega arith)); ends = refl }

-- ---- an entry by its marks

spans-bytes : (ms : List ℕ) → is_open ms ≡ false → intervals_bytes (spans ms) ≡ marks_bytes ms
unfolding intervals_bytes marks_bytes
spans-bytes [] h = refl
spans-bytes (m ∷ []) h = clash refl h
spans-bytes (m ∷ n ∷ ms) h = rw (spans-bytes ms (sym (not-not (is_open ms)) ∙ h))

spans-count : (ms : List ℕ) → is_open ms ≡ false → length (spans ms) ≡ length ms / 2
spans-count [] h = omega arith
spans-count (m ∷ []) h = clash refl h
spans-count (m ∷ n ∷ ms) h = omega (arith, spans-count ms (sym (not-not (is_open ms)) ∙ h))

marks-length : (ms : List ℕ) → length (marks_bytes ms) ≡ 8 * length ms
unfolding marks_bytes
marks-length [] = refl
marks-length (m ∷ ms) = rw (length-append (le_bytes 8 m) (marks_bytes ms), length-le_bytes 8 m) (omega (arith, marks-length ms))

-- a tag's length takes one byte
head-length : (w : Bool) (u t : List ℕ) (n len : ℕ) → length u ≡ 16 → length t ≡ len → len ≤ 32 → length (head_run u w t n) ≡ head_length w len
head-length true u t n len a b short =
    rw (
      length-append (u ++ (varlen_bytes (length t) ++ t)) (le_bytes 8 n),
      length-append u (varlen_bytes (length t) ++ t),
      length-append (varlen_bytes (length t)) t,
      one_byte (length t) (omega arith),
      length-le_bytes 8 n,
    ) (omega arith)
head-length false u t n len a b short = rw (length-append (u ++ []) (le_bytes 8 n), length-append u [], length-le_bytes 8 n) (omega arith)

module _ (w : Bool) (u t : List ℕ) (len : ℕ) (uuid : length u ≡ 16) (tag : length t ≡ len) (short : len ≤ 32) where
  -- how many bytes it has
  kept-length : (ms : List ℕ) (n : ℕ) → n ≡ length ms → (n ≡ 0 → ⊥) → length (kept_run w u t ms) ≡ head_length w len + 8 * n
  kept-length [] n e some = absurd (some e)
  kept-length (m ∷ ms) n e some =
      length-append (head_run u w t (length (m ∷ ms) / 2)) (marks_bytes (m ∷ ms))
      ∙ rw (head-length w u t (length (m ∷ ms) / 2) len uuid tag short, marks-length (m ∷ ms), e)

  kept-none : (ms l : List ℕ) (at : ℕ) → 0 ≡ length ms → (l' : List ℕ) → l' ≡ l → WhereFits l at (kept_run w u t ms) l' (at + length (kept_run w u t ms))
  kept-none [] l at e l' same = let z : at + 0 ≡ at = omega arith in rw (same, z) (record { placed = λ _. nothing_placed l at })
  kept-none (m ∷ ms) l at e l' same = absurd (omega arith)

  kept-some : (ms : List ℕ) (n : ℕ) → n ≡ length ms → (n ≡ 0 → ⊥) → (l l₁ l₂ : List ℕ) (at next r : ℕ)
      → WhereFits l (at + head_length w len) (marks_bytes ms) l₁ next → WhereFits l₁ at (head_run u w t (n / 2)) l₂ r
      → WhereFits l at (kept_run w u t ms) l₂ (at + length (kept_run w u t ms))
  kept-some [] n c some l l₁ l₂ at next r p q = absurd (some c)
  kept-some (m ∷ ms) n c some l l₁ l₂ at next r p q =
      behind-first l l₁ l₂ (head_run u w t (length (m ∷ ms) / 2)) (marks_bytes (m ∷ ms)) at next
      (rw (head-length w u t (length (m ∷ ms) / 2) len uuid tag short) p) (rw c at q)

  some_bytes : (is : List Interval) (n : ℕ) (bs : List ℕ) → length is ≡ n → intervals_bytes is ≡ bs → entry_bytes w (entry (u ++ t) is) ≡ head_run u w t n ++ bs
  unfolding entry_bytes
  some_bytes is n bs count is-bytes = rw (uuid-of u t uuid, tag-of u t uuid, count, is-bytes) (simp append_assoc refl)

  kept-bytes : (ms : List ℕ) (s : List Entry) → is_open ms ≡ false → entries_bytes w (keep (u ++ t) (spans ms) s) ≡ kept_run w u t ms ++ entries_bytes w s
  unfolding entries_bytes
  kept-bytes [] s h = refl
  kept-bytes (m ∷ []) s h = clash refl h
  kept-bytes (m ∷ n ∷ ms) s h =
      ap (λ (l : List ℕ). l ++ entries_bytes w s)
      (some_bytes (spans (m ∷ n ∷ ms)) (length (m ∷ n ∷ ms) / 2) (marks_bytes (m ∷ n ∷ ms)) (spans-count (m ∷ n ∷ ms) h) (spans-bytes (m ∷ n ∷ ms) h))

-- ---- with a key that stands in one of two sets

module _ (bs cs : List ℕ) (k : KeyPlace) (i : KeyIs bs cs k) where
  uuid-long : length (uuid_in bs cs k) ≡ 16
  uuid-long = part_length 16 (source_of bs cs k) k.at i.uuid_inside

  tag-long : length (tag_in bs cs k) ≡ k.tag_len
  tag-long = part_length k.tag_len (source_of bs cs k) k.tag_at i.tag_inside

  pub head-inside : (source : List ℕ) → source_of bs cs k ≡ source → (k.at + 16 ≤ length source) × (k.tag_at + k.tag_len ≤ length source)
  head-inside source e =
      let here : (k.at + 16 ≤ length (source_of bs cs k)) × (k.tag_at + k.tag_len ≤ length (source_of bs cs k)) = (i.uuid_inside, i.tag_inside) in
      rw e at here

  module _ (w : Bool) (ms : List ℕ) (n : ℕ) (count : n ≡ length ms) (l l₁ : List ℕ) (at : ℕ) where
    pub none-put : n ≡ 0 → l₁ ≡ l
        → WhereFits l at (kept_run w (uuid_in bs cs k) (tag_in bs cs k) ms) l₁ (at + length (kept_run w (uuid_in bs cs k) (tag_in bs cs k) ms))
    none-put z same =
        kept-none w (uuid_in bs cs k) (tag_in bs cs k) k.tag_len uuid-long tag-long i.short ms l at (sym z ∙ count) l₁ same

    pub some-put : (n ≡ 0 → ⊥) → (source : List ℕ) → source_of bs cs k ≡ source → (l₂ : List ℕ) (behind next r : ℕ) → behind ≡ head_length w k.tag_len
        → WhereFits l (at + behind) (marks_bytes ms) l₁ next
        → WhereFits l₁ at (head_run (part source k.at 16) w (part source k.tag_at k.tag_len) (n / 2)) l₂ r
        → WhereFits l at (kept_run w (uuid_in bs cs k) (tag_in bs cs k) ms) l₂ (at + length (kept_run w (uuid_in bs cs k) (tag_in bs cs k) ms))
    some-put some source e l₂ behind next r b p q =
        kept-some w (uuid_in bs cs k) (tag_in bs cs k) k.tag_len uuid-long tag-long i.short ms n count some l l₁ l₂ at next r (rw b at p) (rw (← e) at q)

-- ---- the counts of a result

-- the place behind an entry
grown-end : (w : Bool) (u t : List ℕ) (len : ℕ) → length u ≡ 16 → length t ≡ len → len ≤ 32 → (z : Made) (ms : List ℕ) (n : ℕ) → n ≡ length ms
    → z.end + length (kept_run w u t ms) ≡ (grown_by z w len n).end
grown-end w u t len uuid tag short z [] n e = rw e (omega arith)
grown-end w u t len uuid tag short z (m ∷ ms) n e =
    rw (ne_eqb n 0 (λ y. omega arith)) (omega (arith, kept-length w u t len uuid tag short (m ∷ ms) n e (λ y. omega arith)))

-- what was counted and what is left make all
pub record Sums (w : Bool) (all rest : List Entry) (z : Made) : Type 0 where
  pub entries : length all ≡ z.entries + length rest
  pub total : intervals all ≡ z.intervals + intervals rest
  pub crowd : crowds all ≡ z.crowded + crowds rest
  pub tags : any_tag all ≡ z.tagged || any_tag rest
  pub ends : 8 + length (entries_bytes w all) ≡ z.end + length (entries_bytes w rest)

sums_none : (w : Bool) (s : List Entry) → Sums w s s (record { tagged = false; entries = 0; intervals = 0; crowded = 0; end = 8 })
sums_none w s = record { entries = omega arith; total = omega arith; crowd = omega arith; tags = refl; ends = refl }

sums-all : (w : Bool) (all rest : List Entry) (z : Made) → rest ≡ [] → Sums w all rest z → MadeIs all w z
unfolding any_tag entries_bytes
sums-all w all rest z none g =
    let i : Sums w all [] z = rw none at g in
    record {
      entries_is = omega (arith, i.entries);
      intervals_is = omega (arith, i.total);
      crowd_is = omega (arith, i.crowd);
      tags_is = sym (i.tags ∙ or-false z.tagged);
      end_is = omega (arith, i.ends);
    }

module _ (w : Bool) (u t : List ℕ) (len : ℕ) (uuid : length u ≡ 16) (tag : length t ≡ len) (short : len ≤ 32) (all rest : List Entry) (z : Made) where
  sums-keep : (ms : List ℕ) (n : ℕ) → n ≡ length ms → is_open ms ≡ false → Sums w all (keep (u ++ t) (spans ms) rest) z
      → Sums w all rest (grown_by z w len n)
  unfolding any_tag
  sums-keep [] n e h g = rw e g
  sums-keep (m ∷ []) n e h g = clash refl h
  sums-keep (m ∷ k ∷ ms) n e h g =
      let half : length (spans (m ∷ k ∷ ms)) ≡ n / 2 = spans-count (m ∷ k ∷ ms) h ∙ rw e in
      let bytes = ap length (kept-bytes w u t len uuid tag short (m ∷ k ∷ ms) rest h)
      ∙ length-append (kept_run w u t (m ∷ k ∷ ms)) (entries_bytes w rest) in
      let size = kept-length w u t len uuid tag short (m ∷ k ∷ ms) n e (λ y. omega arith) in
      rw (ne_eqb n 0 (λ y. omega arith))
      (record {
        entries = omega (arith, g.entries);
        total = omega (arith, g.total, half);
        crowd = rw (← half) (omega (arith, g.crowd));
        tags = g.tags ∙ rw (tag-of u t uuid, tag) (sym (or_assoc z.tagged (ltb 0 len) (any_tag rest)));
        ends = omega (arith, g.ends, bytes, size);
      })

-- ---- the pass

-- so much of the result `all` is made, and what is left stands before the cursors
pub record Making (op : Bool → Bool → Bool) (bs cs : List ℕ) (w : Bool) (all : List Entry) (l₀ : List ℕ) (left : Cursors) (out : List ℕ) (made : Made)
    : Type 0 where
  pub cursors : CursorsAre bs cs left
  pub sums : Sums w all (combining op bs cs left) made
  pub goes_on : (l : List ℕ) (r : ℕ) → WhereFits out made.end (entries_bytes w (combining op bs cs left)) l r → WhereFits l₀ 8 (entries_bytes w all) l r
  pub few : (made.entries ≤ places_of_both left) × (made.intervals ≤ places_of_both left) × (made.crowded ≤ made.entries) × (made.end ≤ 2 * places_of_both left)

places-low : (bs cs : List ℕ) (c : Cursors) → CursorsAre bs cs c → places_of_both c ≤ 2 ^ 41
places-low bs cs c i = omega (arith, i.first.inside, i.first.small, i.second.inside, i.second.small)

pub head-short : (w : Bool) (len : ℕ) → head_length w len ≤ 25 + len
head-short true len = omega arith
head-short false len = omega arith

grown-few : (z : Made) (w : Bool) (len n p q : ℕ) → p + (24 + len + 8 * n) ≤ q
    → (z.entries ≤ p) × (z.intervals ≤ p) × (z.crowded ≤ z.entries) × (z.end ≤ 2 * p)
    → let y : Made = grown_by z w len n in (y.entries ≤ q) × (y.intervals ≤ q) × (y.crowded ≤ y.entries) × (y.end ≤ 2 * q)
grown-few z w len n p q h f = split (eqb n 0)
    (λ e. rw e (omega arith, omega arith, omega arith, omega arith))
    (λ e. rw e (omega arith, omega arith, omega (arith, over-most (n / 2)), omega (arith, head-short w len)))

module _ (op : Bool → Bool → Bool) (bs cs : List ℕ) (w : Bool) (l₀ : List ℕ) where
  pub making-none : (from : Cursors) → CursorsAre bs cs from → 8 ≤ places_of_both from
      → Making op bs cs w (combining op bs cs from) l₀ from l₀ (record { tagged = false; entries = 0; intervals = 0; crowded = 0; end = 8 })
  making-none from i eight = record {
    cursors = i;
    sums = sums_none w (combining op bs cs from);
    goes_on = λ l r h. h;
    few = (omega arith, omega arith, omega arith, omega arith);
  }

  module _ (all : List Entry) (left : Cursors) (out : List ℕ) (made : Made) (g : Making op bs cs w all l₀ left out made) where
    pub making-all : left.first.left ≡ 0 → left.second.left ≡ 0 → MadeIs all w made × WhereFits l₀ 8 (entries_bytes w all) out made.end
    unfolding entries_bytes
    making-all p q =
        let none = none-combined op bs cs left p q in (
          sums-all w all (combining op bs cs left) made none g.sums,
          g.goes_on out made.end (rw none (record { placed = λ _. nothing_placed out made.end })),
        )

    module _ (r : Pair) (i : PairIs bs cs left r) where
      abbrev u : List ℕ
      u = uuid_in bs cs r.key

      abbrev t : List ℕ
      t = tag_in bs cs r.key

      abbrev len : ℕ
      len = r.key.tag_len

      uuid : length u ≡ 16
      uuid = uuid-long bs cs r.key i.key

      tag : length t ≡ len
      tag = tag-long bs cs r.key i.key

      -- there is room for numbers
      pub making-below : (n : ℕ) → n ≤ left_of r.sides → Below made len n × (made.end + 64 + 8 * left_of r.sides < 2 ^ 64)
      making-below n few =
          let f = g.few in
          let p = places-low bs cs left g.cursors in
          let q = places-low bs cs r.after i.after in
          ((omega arith, omega arith, omega arith, omega arith, i.key.short, omega (arith, i.grows)), omega (arith, i.grows))

      pub making-turn : op false false ≡ false → (n : ℕ) → n ≡ length (going op bs cs r.sides) → n ≤ left_of r.sides → (out' : List ℕ)
          → WhereFits out made.end (kept_run w u t (going op bs cs r.sides)) out' (made.end + length (kept_run w u t (going op bs cs r.sides)))
          → Making op bs cs w all l₀ r.after out' (grown_by made w len n)
      making-turn none n e few out' p =
          let ms : List ℕ = going op bs cs r.sides in
          let shut : is_open ms ≡ false = i.shut op none in
          let rest : List Entry = combining op bs cs r.after in
          let left_is : Sums w all (keep (u ++ t) (spans ms) rest) made = rw (i.goes op) at g.sums in
          let ends : made.end + length (kept_run w u t ms) ≡ (grown_by made w len n).end = grown-end w u t len uuid tag i.key.short made ms n e in
          record {
            cursors = i.after;
            sums = sums-keep w u t len uuid tag i.key.short all rest made ms n e shut left_is;
            goes_on = λ l q h. g.goes_on l q (rw (i.goes op, kept-bytes w u t len uuid tag i.key.short ms rest shut) (p also (rw (← ends) at h)));
            few = grown-few made w len n (places_of_both left) (places_of_both r.after) (omega (arith, i.grows)) g.few;
          }
