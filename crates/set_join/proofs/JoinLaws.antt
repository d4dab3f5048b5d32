-- Laws of a plan: the runs of the set after an interval is joined.
use Prim.Native.Nat.{ℕ, zero, suc, ◌+◌, ◌-◌, ◌*◌, ◌^◌, ◌<◌, ◌≤◌}
use mathlib.Core.Path.{◌≡◌, refl, sym, ap, ◌∙◌}
use mathlib.Core.Bool.{Bool, true, false, not, ◌&&◌, ◌||◌, or_comm}
use mathlib.Core.List.{List, [], ◌∷◌, ◌++◌, append_assoc, append-nil}
use native.Mathlib.Omega.{arith}
use lib.Dec.{ltb, eqb}
use lib.ListN.{length, drop, length-append, length-drop}
use lib.Seq.{take_at, drop_at, drop-length}
use borrow.Author.Tests.{le-ltb, ltb-false}
use Rattle.misc.specs.Parse.{Bytes}
use Rattle.misc.specs.Le.{le_bytes, number_at}
use Rattle.misc.specs.Varlen.{varlen_bytes}
use Rattle.misc.proofs.LeLaws.{length-le_bytes}
use Rattle.misc.proofs.Bounds.{part_bytes}
use Rattle.misc.proofs.Places.{part-there, after_there}
use Rattle.misc.proofs.NumberLaws.{number-there}
use Rattle.misc.proofs.VarlenLaws.{one_byte}
use Rattle.packets.specs.Gno.{Interval}
use Rattle.packets.specs.Key.{Key}
use Rattle.packets.proofs.Tests.{split, clash}
use Rattle.packets.proofs.Keys.{key-cases}
use Rattle.previous_gtids_event.specs.Entry.{Entry, entry, uuid_of, tag_of}
use Rattle.previous_gtids_event.specs.Rewrite.{intervals_bytes, tag_bytes, entries_bytes, any_tag, header_bytes, body_bytes}
use Rattle.previous_gtids_event.proofs.Writing.{length-header, length-intervals-bytes}
use Rattle.gtid_sets.specs.Interval.{insert}
use Rattle.gtid_sets.specs.Set.{join}
use Rattle.gtid_sets.specs.Limits.{summed, intervals, over, crowds}
use Rattle.gtid_sets.specs.Lent.{GoodKeys}
use Rattle.gtid_sets.specs.Splice.{earlier, from}
use Rattle.gtid_sets.proofs.Bools.{or_swap, or-false-parts}
use Rattle.gtid_sets.proofs.LimitLaws.{summed-append, over_none}
use Rattle.gtid_sets.proofs.SetLaws.{join-before, join-into, join-after}
use Rattle.gtid_sets.proofs.ByteLaws.{body-least, entries_bytes-append}
use Rattle.set_intervals.specs.Intervals.{intervals_in, first_holds, splice_of, spliced_run}
use Rattle.set_intervals.specs.declared.Splice.{Splice}
use Rattle.set_intervals.proofs.Standing.{left-count}
use Rattle.set_intervals.proofs.Splicing.{taken-few, SpliceIs, splice-is}
use Rattle.set_check.specs.Places.{place_at, EntriesIn}
use Rattle.set_check.specs.Head.{head_bytes}
use Rattle.set_check.specs.SetOf.{set_of, IsSet}
use Rattle.set_check.proofs.EntryPlaces.{entries-head}
use Rattle.set_join.specs.Find.{added, own, old, FoundIs}
use Rattle.set_join.specs.Put.{widened, entries_run, EntriesThere}
use Rattle.set_join.specs.Join.{extra, plan_runs, PlanIs}
use Rattle.set_join.specs.declared.Found.{Found}
use Rattle.set_join.specs.declared.Plan.{Plan}
use Rattle.set_join.proofs.FindLaws.{own-length, own_is, own_held}

-- ---- entries as they are, and widened

no_bytes : (t : List ℕ) → length t ≡ 0 → t ≡ []
no_bytes [] h = refl
no_bytes (x ∷ t) h = absurd (omega arith)

record Wider (bs : List ℕ) (from : ℕ) (es : List Entry) : Type 0 where
  run : widened (length es) bs from ≡ entries_bytes true es
  there : EntriesIn (length es) false bs from
  size : length (entries_bytes true es) ≡ length (entries_bytes false es) + length es

widened_is : (bs : List ℕ) (from : ℕ) (es : List Entry) (r : List ℕ) → drop from bs ≡ entries_bytes false es ++ r → any_tag es ≡ false → GoodKeys es
    → intervals es < 2 ^ 64 → Wider bs from es
unfolding widened entries_bytes any_tag
widened_is bs from [] r e t k l = record { run = refl; there = tt; size = refl }
widened_is bs from (entry k is ∷ es) r e t h l =
    let c : ℕ = length is in
    let (p, q) = or-false-parts (ltb 0 (length (tag_of k))) (any_tag es) t in
    let none : tag_of k ≡ [] = no_bytes (tag_of k) (omega (arith, ltb-false 0 (length (tag_of k)) p)) in
    let ul : length (uuid_of k) ≡ 16 = h.0.uuid in
    let rest : List ℕ = entries_bytes false es ++ r in
    let run : List ℕ = le_bytes 8 c ++ intervals_bytes is in
    let rl : length run ≡ 8 + 16 * c = length-append (le_bytes 8 c) (intervals_bytes is) ∙ omega (arith, length-le_bytes 8 c, length-intervals-bytes is) in
    let e₁ : drop from bs ≡ uuid_of k ++ (run ++ rest) = e ∙ ap (λ (y : List ℕ). y ++ r) (entries-head false k is es) ∙ simp append_assoc in
    let e₂ : drop (from + 16) bs ≡ run ++ rest = after_there bs from 16 (uuid_of k) (run ++ rest) e₁ ul in
    let e₃ : drop (from + 16) bs ≡ le_bytes 8 c ++ (intervals_bytes is ++ rest) = e₂ ∙ append_assoc (le_bytes 8 c) (intervals_bytes is) rest in
    let none_more : from + 16 + 0 ≡ from + 16 = omega arith in
    let num : number_at bs (from + 16 + 0) ≡ c = rw none_more (number-there bs (from + 16) c (intervals_bytes is ++ rest) e₃ (omega arith)) in
    let end : (place_at false bs from).next ≡ from + (24 + 16 * c) = omega (arith, num) in
    let size : from + (24 + 16 * c) - (from + 16) ≡ 8 + 16 * c = omega arith in
    let m : from + 16 + (8 + 16 * c) ≡ from + (24 + 16 * c) = omega arith in
    let e₄ : drop (from + (24 + 16 * c)) bs ≡ rest = ap (λ (i : ℕ). drop i bs) (sym m) ∙ after_there bs (from + 16) (8 + 16 * c) run rest e₂ rl in
    let w : Wider bs (from + (24 + 16 * c)) es = widened_is bs (from + (24 + 16 * c)) es r e₄ q h.1 (omega arith) in
    let left : length bs - from ≡ 16 + (8 + 16 * c + length rest) =
    sym (length-drop from bs) ∙ ap length e₁ ∙ length-append (uuid_of k) (run ++ rest) ∙ rw (ul, length-append run rest, rl) in
    let wide : entries_bytes true (entry k is ∷ es) ≡ uuid_of k ++ (varlen_bytes 0 ++ (run ++ entries_bytes true es)) =
    entries-head true k is es ∙ rw none (simp append_assoc) in
    let plain : entries_bytes false (entry k is ∷ es) ≡ uuid_of k ++ (run ++ entries_bytes false es) = entries-head false k is es ∙ simp append_assoc in
    let byte : length (varlen_bytes 0) ≡ 1 = ap length (one_byte 0 (omega arith)) in
    record {
      run =
          rw (end, size, part-there bs from 16 (uuid_of k) (run ++ rest) e₁ ul, part-there bs (from + 16) (8 + 16 * c) run rest e₂ rl, w.run)
          (simp append_assoc (sym (wide ∙ simp append_assoc)));
      there = rw end (omega arith, w.there);
      size = rw (wide, plain) (simp length-append (omega (arith, byte, w.size)));
    }

record RunIs (bs : List ℕ) (w v : Bool) (es : List Entry) (from to : ℕ) : Type 0 where
  run : entries_bytes v es ≡ entries_run (v && not w) bs (record { from = from; to = to; count = length es })
  there : EntriesThere (v && not w) bs (record { from = from; to = to; count = length es })
  size : length (entries_bytes v es) ≡ to - from + extra (v && not w) (length es)

run_is : (bs : List ℕ) (w v : Bool) (es : List Entry) (from to : ℕ) → drop from bs ≡ entries_bytes w es ++ drop to bs
    → from + length (entries_bytes w es) ≡ to → to ≤ length bs
    → (w ≡ false → any_tag es ≡ false) → GoodKeys es → intervals es < 2 ^ 64 → (w ≡ true → v ≡ true) → RunIs bs w v es from to
run_is bs true false es from to e l h t k i o = clash (o refl) refl
run_is bs true true es from to e l h t k i o = record {
  run = sym (part-there bs from (to - from) (entries_bytes true es) (drop to bs) e (omega arith));
  there = (omega arith, h);
  size = omega arith;
}
run_is bs false false es from to e l h t k i o = record {
  run = sym (part-there bs from (to - from) (entries_bytes false es) (drop to bs) e (omega arith));
  there = (omega arith, h);
  size = omega arith;
}
run_is bs false true es from to e l h t k i o =
    let w : Wider bs from es = widened_is bs from es (drop to bs) e (t refl) k i in
    record { run = sym w.run; there = w.there; size = omega (arith, w.size) }

-- ---- the set after it

-- only intervals that are there are taken up
pub taken-inside : (bs : List ℕ) (w : Bool) (k : Key) (s : List Entry) (f : Found) → FoundIs bs w k s f → (a b : ℕ) (p : Splice)
    → p ≡ splice_of a b (intervals_in (own bs f)) → p.taken ≤ f.own.count
taken-inside bs w k s f is a b p spliced =
    let all : List Interval = intervals_in (own bs f) in
    rw spliced
    (omega (
      arith,
      taken-few b (drop (earlier a all) all),
      length-drop (earlier a all) all,
      left-count (own bs f) 0,
      own-length bs w k s f is,
    ))

any-join : (k : Key) (a b : ℕ) (s : List Entry) → any_tag (join k a b s) ≡ (ltb 0 (length (tag_of k)) || any_tag s)
unfolding any_tag
any-join k a b [] = refl
any-join k a b (entry j is ∷ s) = key-cases k j
    (λ p. rw (join-before k j a b is s p))
    (λ p. rw (← p, join-into k a b is s) (again (ltb 0 (length (tag_of k))) (any_tag s)))
    (λ p. rw (join-after k j a b is s p, any-join k a b s) (or_swap (ltb 0 (length (tag_of j))) (ltb 0 (length (tag_of k))) (any_tag s)))
  where
    again : (x y : Bool) → (x || y) ≡ (x || (x || y))
    again true y = refl
    again false y = refl

-- entries and intervals take up bytes, of which there are few enough
pub record Small (bs : List ℕ) (n : ℕ) : Type 0 where
  pub few : 24 * n ≤ length bs
  pub total : 16 * intervals (set_of bs) ≤ length bs
  pub long : length bs ≤ 2 ^ 40

pub set-small : (bs : List ℕ) (w : Bool) (n : ℕ) → IsSet bs w n → Small bs n
set-small bs w n h =
    let least = body-least (set_of bs) h.keyed in
    record { few = omega (arith, ap length h.written, h.count); total = omega (arith, ap length h.written); long = h.small }

tag-length : (v : Bool) (t : List ℕ) → length t ≤ 32 → length (tag_bytes v t) ≡ extra v (1 + length t)
tag-length true t h = rw (one_byte (length t) (omega arith)) (omega arith)
tag-length false t h = refl

implied : (w x : Bool) → w ≡ true → (w || x) ≡ true
implied true x e = refl
implied false x e = clash e refl

added_is : (n : ℕ) → added n ≡ extra (eqb n 0) 1
added_is n = split (eqb n 0) (λ h. rw h) (λ h. rw h)

added-few : (n : ℕ) → added n ≤ 1
added-few n = split (eqb n 0) (λ h. rw h (omega arith)) (λ h. rw h (omega arith))

-- only a key that is not there can widen a set
wide-sum : (w : Bool) (count n x y m : ℕ) → (0 < count → w ≡ false → m ≡ 0) → n + added count ≡ x + (1 + y)
    → extra ((w || ltb 0 m) && not w) x + extra ((w || ltb 0 m) && not w) y ≡ extra ((w || ltb 0 m) && not w) n
wide-sum true count n x y m h e = go (ltb 0 m)
  where
    go : (z : Bool) → extra ((true || z) && false) x + extra ((true || z) && false) y ≡ extra ((true || z) && false) n
    go true = refl
    go false = refl
wide-sum false zero n x y m h e = split (ltb 0 m) (λ p. rw p (omega arith)) (λ p. rw p)
wide-sum false (suc count) n x y m h e = let l = h (omega arith) refl in rw (le-ltb 0 m (omega arith))

module _ (bs : List ℕ) (w : Bool) (n : ℕ) (lent : IsSet bs w n) (u t : List ℕ) (long : length u ≡ 16) (short : length t ≤ 32) (a b : ℕ)
    (f : Found) (is : FoundIs bs w (u ++ t) (set_of bs) f) (p : Splice) (spliced : p ≡ splice_of a b (intervals_in (own bs f))) (rises : a < b)
    (ok : Bytes bs) where
  abbrev v : Bool
  v = w || ltb 0 (length t)

  abbrev held : ℕ
  held = f.own.count - p.taken + 1

  abbrev new : List Interval
  new = insert a b (old bs f)

  size : length (own bs f) ≡ 16 * f.own.count
  size = own-length bs w (u ++ t) (set_of bs) f is

  own_old : intervals_in (own bs f) ≡ old bs f
  own_old = own_is bs w (u ++ t) (set_of bs) f is

  splice : SpliceIs (own bs f) a b p
  splice =
      rw spliced
      (splice-is (own bs f) (part_bytes bs f.own.from (f.own.to - f.own.from) ok) (omega (arith, size)) a b rises (rw own_old is.gapped))

  new-bytes : intervals_bytes new ≡ spliced_run (own bs f) p
  new-bytes = ap (λ (x : List Interval). intervals_bytes (insert a b x)) (sym own_old) ∙ splice.bytes

  new-count : length new ≡ held
  new-count = ap (λ (x : List Interval). length (insert a b x)) (sym own_old) ∙ splice.count-is ∙ omega (arith, size)

  small : Small bs n
  small = set-small bs w n lent

  -- the intervals are those before, of the key and after
  all-intervals : intervals (set_of bs) ≡ intervals is.front + (f.own.count + intervals is.back)
  all-intervals = is.total (λ n. n) refl

  parts : (uuid_of (u ++ t) ≡ u) × (tag_of (u ++ t) ≡ t)
  unfolding uuid_of tag_of
  parts = (take_at u t 16 long, drop_at u t 16 long)

  after : List Entry
  after = join (u ++ t) a b (set_of bs)

  after-tags : any_tag after ≡ v
  unfolding after
  after-tags = any-join (u ++ t) a b (set_of bs) ∙ rw (parts.1, lent.tags) (or_comm (ltb 0 (length t)) w)

  front-run : RunIs bs w v is.front 8 f.before.to
  front-run = run_is bs w v is.front 8 f.before.to is.front_bytes is.length_front (omega (arith, is.order, is.end, is.inside))
      is.tags.0 is.keyed.0
      (omega (arith, all-intervals, small.total, small.long)) (implied w (ltb 0 (length t)))

  back-length : length (entries_bytes w is.back) ≡ length bs - f.own.to
  back-length = ap length (sym is.back_bytes) ∙ length-drop f.own.to bs

  back-run : RunIs bs w v is.back f.own.to (length bs)
  back-run = run_is bs w v is.back f.own.to (length bs) (is.back_bytes ∙ rw (drop-length bs) (sym (append-nil (entries_bytes w is.back))))
      (omega (arith, back-length, is.inside)) (omega arith) is.tags.1 is.keyed.1
      (omega (arith, all-intervals, small.total, small.long)) (implied w (ltb 0 (length t)))

  after-length : length after ≡ n + extra (eqb f.own.count 0) 1
  unfolding after
  after-length = rw (is.joins a b, length-append is.front (entry (u ++ t) new ∷ is.back)) (omega (arith, is.entries, added_is f.own.count, lent.count))

  -- the bytes of the set after it: its entries are those before, one, and those after
  after-bytes : body_bytes after
      ≡ header_bytes v (length after)
      ++ (entries_bytes v is.front ++ head_bytes v (u ++ t) (length new) (intervals_bytes new ++ entries_bytes v is.back))
  unfolding body_bytes after
  after-bytes = rw (after-tags) (ap (λ (x : List ℕ). header_bytes v (length (join (u ++ t) a b (set_of bs))) ++ x)
      (ap (entries_bytes v) (is.joins a b) ∙ entries_bytes-append v is.front (entry (u ++ t) new ∷ is.back)
      ∙ ap (λ (x : List ℕ). entries_bytes v is.front ++ x) (entries-head v (u ++ t) new is.back)))

  module _ (len entries total : ℕ) (e₁ : len ≡ f.before.to + (24 + extra v (1 + length t) + 16 * held) + (length bs - f.own.to) + extra (v && not w) n)
      (e₂ : entries ≡ n + extra (eqb f.own.count 0) 1) (e₃ : total ≡ intervals (set_of bs)) where
    abbrev plan : Plan
    plan =
        record { tags = v; widen = v && not w; entries = entries; intervals = total - p.taken + 1; held = held; len = len; found = f; splice = p }

    -- a number for each entry, added up over the set after it
    after-summed : (g : ℕ → ℕ) → summed g after ≡ summed g is.front + (g held + summed g is.back)
    unfolding after
    after-summed g = rw (is.joins a b, summed-append g is.front (entry (u ++ t) new ∷ is.back), new-count)

    back_count : entries - (1 + f.before.count) ≡ length is.back
    back_count = omega (arith, e₂, is.entries, added_is f.own.count, is.index, lent.count)

    plan-bytes : body_bytes after ≡ plan_runs bs u t plan
    plan-bytes =
        after-bytes
        ∙ rw (after-length, ← e₂, parts.0, parts.1, new-count, new-bytes, front-run.run, back-run.run, ← is.index, ← is.start, back_count)
        (simp append_assoc)

    plan-size : length (body_bytes after) ≡ len
    plan-size =
        let wide = wide-sum w f.own.count n (length is.front) (length is.back) (length t)
        (λ x y. rw parts.1 at (is.plain x y)) (rw lent.count at is.entries) in
        ap length after-bytes
        ∙ rw (parts.0, parts.1)
        (simp length-append (omega (
          arith,
          e₁,
          length-header v (length after),
          front-run.size,
          back-run.size,
          long,
          tag-length v t short,
          length-le_bytes 8 (length new),
          length-intervals-bytes new,
          new-count,
          wide,
          is.place,
        )))

    pub plan-is : PlanIs bs u t a b
        (record { tags = v; widen = v && not w; entries = entries; intervals = total - p.taken + 1; held = held; len = len; found = f; splice = p })
    unfolding after
    plan-is = record {
      runs = record {
        before_there = rw (is.index, is.start) front-run.there;
        after_there = rw back_count back-run.there;
        own_there = (omega (arith, is.end), is.inside);
        splice_inside = splice.inside;
        index_below = omega (arith, e₂, is.entries, added_is f.own.count, is.index, lent.count);
        few = omega (arith, e₂, added_is f.own.count, added-few f.own.count, small.few, small.long);
      };
      bytes = plan-bytes;
      len_is = sym plan-size;
      tags_is = sym after-tags;
      entries_is = e₂ ∙ sym after-length;
      intervals_is = omega (arith, after-summed (λ n. n), all-intervals, e₃, splice.inside, size);
      others = crowds is.front + crowds is.back;
      crowd_was = omega (arith, is.total over (over_none 0 (omega arith)));
      crowd_is = omega (arith, after-summed over);
      member =
          sym (own_held bs w (u ++ t) (set_of bs) f is a)
          ∙ ap (λ (x : Splice). first_holds a (drop x.before (intervals_in (own bs f)))) (sym spliced);
    }
