-- Laws of an entry's head: what the tests of `right_head` say.
use Prim.Native.Nat.{ℕ, suc, ◌+◌, ◌*◌, ◌/◌, ◌%◌, ◌<◌, ◌≤◌}
use mathlib.Core.Path.{◌≡◌, refl, sym, ap, ◌∙◌}
use mathlib.Core.Bool.{Bool, true, false}
use mathlib.Core.List.{List, [], ◌∷◌, ◌++◌}
use native.Mathlib.Omega.{arith}
use lib.ListN.{length, drop, get_or}
use lib.Seq.{drop-cons}
use Rattle.misc.specs.Parse.{part, Bytes}
use Rattle.misc.specs.Le.{le_bytes, number_at}
use Rattle.misc.proofs.ParseLaws.{part_length}
use Rattle.misc.proofs.Places.{part-from}
use Rattle.misc.proofs.NumberLaws.{number-stands}
use Rattle.misc.proofs.VarlenLaws.{one_byte}
use Rattle.packets.specs.Gno.{Interval}
use Rattle.packets.specs.Key.{Key}
use Rattle.packets.specs.Tag.{none_or_tag}
use Rattle.packets.proofs.Tests.{clash}
use Rattle.packets.proofs.TagLaws.{none-or-tag-short}
use Rattle.previous_gtids_event.specs.Rewrite.{intervals_bytes, tag_bytes}
use Rattle.previous_gtids_event.proofs.Reading.{uuid-of, tag-of}
use Rattle.gtid_sets.specs.Interval.{Some}
use Rattle.gtid_sets.specs.Limits.{max_of_entry}
use Rattle.gtid_sets.proofs.KeyLaws.{good-key}
use Rattle.gtid_sets.proofs.LimitLaws.{max_of_entry-is}
use Rattle.set_check.specs.Places.{place_at, place_in}
use Rattle.set_check.specs.Head.{head_bytes, KeyOk, HeadIs, NoHead}
use Rattle.set_check.specs.declared.Cursor.{Cursor}
use Rattle.set_check.specs.declared.EntryPlace.{EntryPlace}
use Rattle.set_check.proofs.EntryPlaces.{EntryHere, entry_here, tag-stands, Lies, lies, place_here, place_found}

-- a tag with its length: the length is one byte
pub tag-bytes : (t : List ℕ) → length t < 128 → tag_bytes true t ≡ 2 * length t ∷ t
tag-bytes t h = rw (one_byte (length t) h)

some_more : (is : List Interval) → Some is → 0 < length is
some_more [] s = absurd s
some_more (i ∷ is) s = omega arith

-- ---- what stands at a place

module _ (bs : List ℕ) (at : ℕ) where
  counted : (w : Bool) → (place_at w bs at).count ≡ number_at bs ((place_at w bs at).tag_at + (place_at w bs at).tag_len)
  counted true = refl
  counted false = refl

  untagged : (w : Bool) → w ≡ false → (place_at w bs at).tag_len ≡ 0
  untagged true e = clash refl e
  untagged false e = refl

  abbrev tag_there : Bool → List ℕ
  tag_there w = part bs (place_at w bs at).tag_at (place_at w bs at).tag_len

  -- the tag as it is written
  tag-written : (w : Bool) → (place_at w bs at).next ≤ length bs → (w ≡ true → get_or bs (at + 16) 0 % 2 ≡ 0) → none_or_tag (tag_there w) ≡ true
      → drop (at + 16) bs ≡ tag_bytes w (tag_there w) ++ drop ((place_at w bs at).tag_at + (place_at w bs at).tag_len) bs
  tag-written false inside even rule = let z : at + 16 + 0 ≡ at + 16 = omega arith in rw z
  tag-written true inside even rule =
      let len : ℕ = get_or bs (at + 16) 0 / 2 in
      let l : length (tag_there true) ≡ len = part_length len bs (at + 17) (omega arith) in
      let b : get_or bs (at + 16) 0 ≡ 2 * len = omega (arith, even refl) in
      let m : suc (at + 16) ≡ at + 17 = omega arith in
      let first : drop (at + 16) bs ≡ 2 * len ∷ drop (at + 17) bs =
      drop-cons bs (at + 16) 0 (omega arith) ∙ ap (λ (x : ℕ). x ∷ drop (suc (at + 16)) bs) b ∙ ap (λ (i : ℕ). 2 * len ∷ drop i bs) m in
      let tag : tag_bytes true (tag_there true) ≡ 2 * len ∷ tag_there true =
      tag-bytes (tag_there true) (omega (arith, none-or-tag-short (tag_there true) rule)) ∙ rw l in
      first ∙ ap (λ (x : List ℕ). 2 * len ∷ x) (part-from bs (at + 17) len)
      ∙ ap (λ (x : List ℕ). x ++ drop (at + 17 + len) bs) (sym tag)

-- ---- the tests

module _ (bs : List ℕ) (c : Cursor) (p : EntryPlace) (told : p ≡ place_in c.tagged bs c.at) where
  -- an entry that is written there is the one that was found
  written-found : (k : Key) (is : List Interval) (rest : List ℕ) → KeyOk c.tagged k → length is ≤ max_of_entry
      → drop c.at bs ≡ head_bytes c.tagged k (length is) (intervals_bytes is ++ rest) → EntryHere bs c.at k is rest p
  written-found k is rest ok few e =
      let here = entry_here bs c.at k is rest (omega (arith, max_of_entry-is)) c.tagged ok e in
      rw (told ∙ place_here bs c.tagged c.at here.inside) here

  -- how the parts of an entry with intervals lie
  pub found-lies : 0 < p.count → Lies c.at p × (p.next ≤ length bs)
  found-lies some =
      let (same, inside) = place_found bs c.tagged c.at p told some in
      (rw same (lies c.tagged bs c.at), inside)

  pub head-empty : p.count ≡ 0 → NoHead bs c
  head-empty h k is x o s f e = omega (arith, (written-found k is x o f e).count, some_more is s)

  pub head-many : 1024 < p.count → NoHead bs c
  head-many h k is x o s f e = omega (arith, (written-found k is x o f e).count, max_of_entry-is)

  pub head-odd : c.tagged ≡ true → get_or bs (c.at + 16) 0 % 2 ≡ 1 → NoHead bs c
  head-odd t odd k is x o s f e =
      let (twice, after) = tag-stands bs c.at k (length is) (intervals_bytes is ++ x) (rw t at o) (rw t at e) in
      omega arith

  pub head-bad : none_or_tag (part bs p.tag_at p.tag_len) ≡ false → NoHead bs c
  head-bad h k is x o s f e = clash o.good.rule (rw (written-found k is x o f e).tag_there at h)

  pub head-is : Bytes bs → 0 < p.count → p.count ≤ 1024 → (c.tagged ≡ true → get_or bs (c.at + 16) 0 % 2 ≡ 0)
      → none_or_tag (part bs p.tag_at p.tag_len) ≡ true → HeadIs bs c p
  head-is ok some few even rule =
      let w : Bool = c.tagged in
      let (same, inside) = place_found bs w c.at p told some in
      let tag : drop (c.at + 16) bs ≡ tag_bytes w (part bs p.tag_at p.tag_len) ++ drop (p.tag_at + p.tag_len) bs =
      rw same (tag-written bs c.at w (rw same at inside) even (rw same at rule)) in
      let count : p.count ≡ number_at bs (p.tag_at + p.tag_len) = rw same (counted bs c.at w) in
      go same inside (found-lies some).0 tag count (λ f. rw same (untagged bs c.at w f))
    where
      go : p ≡ place_at c.tagged bs c.at → p.next ≤ length bs → Lies c.at p
          → drop (c.at + 16) bs ≡ tag_bytes c.tagged (part bs p.tag_at p.tag_len) ++ drop (p.tag_at + p.tag_len) bs
          → p.count ≡ number_at bs (p.tag_at + p.tag_len) → (c.tagged ≡ false → p.tag_len ≡ 0) → HeadIs bs c p
      go same inside l tag count plain =
          let u : List ℕ = part bs c.at 16 in
          let g : List ℕ = part bs p.tag_at p.tag_len in
          let long : length u ≡ 16 = part_length 16 bs c.at (omega (arith, l.tag-after, l.first-is, l.next-is)) in
          let size : length g ≡ p.tag_len = part_length p.tag_len bs p.tag_at (omega (arith, l.first-is, l.next-is)) in
          let n : le_bytes 8 p.count ≡ part bs (p.tag_at + p.tag_len) 8 =
          ap (le_bytes 8) count ∙ number-stands bs ok (p.tag_at + p.tag_len) (omega (arith, l.first-is, l.next-is)) in
          let numbers : drop (p.tag_at + p.tag_len) bs ≡ le_bytes 8 p.count ++ drop p.first bs =
          part-from bs (p.tag_at + p.tag_len) 8 ∙ rw (n, l.first-is) in
          record {
            stands = same;
            inside = inside;
            is =
                part-from bs c.at 16 ∙ ap (λ (x : List ℕ). u ++ x) (tag ∙ ap (λ (x : List ℕ). tag_bytes c.tagged g ++ x) numbers)
                ∙ rw (uuid-of u g long, tag-of u g long);
            ok = record { good = good-key u g long rule; plain = λ f. ap length (tag-of u g long) ∙ size ∙ plain f };
            some = some;
            few = omega (arith, max_of_entry-is);
          }
