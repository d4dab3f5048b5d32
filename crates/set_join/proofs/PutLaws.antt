-- Laws of runs that are written one after another.
use Prim.Native.Nat.{ℕ, zero, suc, ◌+◌, ◌-◌, ◌<◌, ◌≤◌}
use mathlib.Core.Path.{◌≡◌, sym, ap, ◌∙◌}
use mathlib.Core.Bool.{Bool, false}
use mathlib.Core.List.{List, [], ◌++◌, append-nil}
use native.Mathlib.Omega.{arith}
use lib.ListN.{length, take, drop, length-drop}
use lib.Seq.{take_all}
use Rattle.misc.specs.Parse.{part}
use Rattle.misc.specs.Output.{WhereFits}
use Rattle.misc.specs.Put.{PutsWhereFits}
use Rattle.misc.specs.declared.put.Put.{Put}
use Rattle.misc.proofs.Places.{part-there}
use Rattle.misc.proofs.PutLaws.{◌and◌, puts-fit, puts_none}
use Rattle.packets.specs.Kept.{kept}
use Rattle.packets.proofs.KeptLaws.{kept_whole}
use Rattle.previous_gtids_event.specs.Rewrite.{head_run}
use Rattle.set_check.specs.Places.{place_in, EntriesIn}
use Rattle.set_check.specs.Cursor.{beyond_of}
use Rattle.set_check.specs.declared.Cursor.{Cursor}
use Rattle.set_check.specs.declared.EntryPlace.{EntryPlace}
use Rattle.set_check.proofs.EntryPlaces.{lies, place_here}
use Rattle.set_join.specs.declared.Run.{Run}
use Rattle.set_join.specs.Put.{wider_run, widened, entries_run}

-- a part of some bytes, its length told in another way
pub put-part : {p q : Put} (s : List ℕ) (from n m : ℕ) → m ≡ n → PutsWhereFits p (part s from m) q → PutsWhereFits p (part s from n) q
put-part s from n m e h = rw e at h

-- all from a place on
pub put_rest : {p q : Put} (s : List ℕ) (from : ℕ) → PutsWhereFits p (part s from (length s - from)) q → PutsWhereFits p (drop from s) q
put_rest s from h = rw (part-there s from (length s - from) (drop from s) [] (sym (append-nil (drop from s))) (length-drop from s)) at h

-- a head, with a copy of its uuid
pub put-copied : {p q : Put} (u own : List ℕ) (tags : Bool) (t : List ℕ) (n : ℕ) → length u ≡ 16 → own ≡ kept 16 (take 16 u)
    → PutsWhereFits p (head_run own tags t n) q → PutsWhereFits p (head_run u tags t n) q
put-copied u own tags t n e is h =
    let all : kept 16 (take 16 u) ≡ u = ap (kept 16) (take_all 16 u (omega arith)) ∙ kept_whole 16 u e in rw (is ∙ all) at h

-- what was put, by what then is in the output that was lent
pub put_into : {p q : Put} {bs l : List ℕ} → PutsWhereFits p bs q → l ≡ q.out.now → WhereFits p.out.now p.at bs l q.at
put_into f e = rw e (record { placed = f.placed })

-- ---- widened entries

-- what is left, put behind what stands at `q`, gives what is wanted behind `p`
pub record Widening (bs wanted : List ℕ) (p : Put) (c : Cursor) (q : Put) : Type 0 where
  pub there : EntriesIn c.left false bs c.at
  pub goes_on : (r : Put) → PutsWhereFits q (widened c.left bs c.at) r → PutsWhereFits p wanted r
  pub untagged : c.tagged ≡ false

-- the next entry, as the walk tells it
pub record Wider (bs : List ℕ) (at n : ℕ) (p : EntryPlace) : Type 0 where
  pub run : widened n bs at ≡ wider_run bs at p.next ++ widened (n - 1) bs p.next
  pub order : at + 16 ≤ p.next
  pub inside : p.next ≤ length bs
  pub others : EntriesIn (n - 1) false bs p.next

pub wider-here : (bs : List ℕ) (at n : ℕ) (p : EntryPlace) → 0 < n → EntriesIn n false bs at → p ≡ place_in false bs at → Wider bs at n p
unfolding widened
wider-here bs at zero p some there told = absurd (omega arith)
wider-here bs at (suc n) p some there told =
    let less : suc n - 1 ≡ n = omega arith in
    let l = lies false bs at in
    rw (told ∙ place_here bs false at there.0) (record {
      run = rw less;
      order = omega (arith, l.tag-after, l.first-is, l.next-is);
      inside = there.0;
      others = rw less there.1;
    })

module _ (bs wanted : List ℕ) (p : Put) (c : Cursor) (q : Put) (g : Widening bs wanted p c q) where
  pub widening-all : c.left ≡ 0 → PutsWhereFits p wanted q
  unfolding widened
  widening-all e = g.goes_on q (rw e (puts-fit (puts_none q)))

  module _ (e : EntryPlace) (some : 0 < c.left) (told : e ≡ place_in c.tagged bs c.at) where
    pub wider : Wider bs c.at c.left e
    wider = wider-here bs c.at c.left e some g.there (told ∙ ap (λ (w : Bool). place_in w bs c.at) g.untagged)

    pub widening-turn : (r : Put) → PutsWhereFits q (wider_run bs c.at e.next) r → Widening bs wanted p (beyond_of c e) r
    widening-turn r w = record {
      there = wider.others;
      goes_on = λ s v. g.goes_on s (rw wider.run (w and v));
      untagged = g.untagged;
    }

-- ---- entries as they are or widened

module _ (w : Bool) (bs : List ℕ) (run : Run) where
  pub run-plain : {p q : Put} → w ≡ false → PutsWhereFits p (part bs run.from (run.to - run.from)) q
      → PutsWhereFits p (entries_run w bs run) q
  run-plain e h = rw e h
