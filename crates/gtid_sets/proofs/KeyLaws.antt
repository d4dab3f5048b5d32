-- Good keys: what is read has them.
use Prim.Native.Nat.{ℕ, zero, suc}
use mathlib.Core.Path.{◌≡◌, ap, ◌∙◌}
use mathlib.Core.Bool.{Bool, true}
use mathlib.Core.List.{List, [], ◌∷◌, ◌++◌}
use native.Mathlib.Omega.{arith}
use lib.ListN.{length}
use Rattle.misc.specs.Parse.{parsed, many}
use Rattle.misc.proofs.ParseLaws.{then-parsed, part_length}
use Rattle.packets.specs.Gno.{Interval}
use Rattle.packets.specs.Key.{Key}
use Rattle.previous_gtids_event.specs.Entry.{Entry, entry, uuid_of}
use Rattle.packets.specs.Tag.{none_or_tag}
use Rattle.previous_gtids_event.specs.Previous.{GoodKey, says_tagged, says_count, entry_at, previous}
use Rattle.previous_gtids_event.proofs.Reading.{uuid-of, tag-of, entry-there, previous-parts}
use Rattle.gtid_sets.specs.Lent.{GoodKeys}

-- 16 uuid bytes and no tag or a good one make a good key
pub good-key : (u t : List ℕ) → length u ≡ 16 → none_or_tag t ≡ true → GoodKey (u ++ t)
good-key u t l g = record { uuid = rw (uuid-of u t l) l; rule = rw (tag-of u t l) g }

entry-good : (w : Bool) (s : List ℕ) (at : ℕ) (k : Key) (is : List Interval) (next : ℕ) → entry_at w s at ≡ parsed (entry k is) next → GoodKey k
entry-good w s at k is next e =
    let head = (entry-there w s at k is next e).head in
    let uuid : length (uuid_of k) ≡ 16 = ap length head.uuid ∙ part_length 16 s at (omega (arith, head.tag.after, head.tag.inside)) in
    record { uuid = uuid; rule = head.tag.rule }

entries-good : (w : Bool) (s : List ℕ) (n at : ℕ) (es : List Entry) (next : ℕ) → many (entry_at w s) n at ≡ parsed es next → GoodKeys es
unfolding many
entries-good w s zero at es next e = let none : [] ≡ es = cc in rw (← none) tt
entries-good w s (suc n) at es next e =
    let (x, m, p, q) = then-parsed (entry_at w s at) _ es next e in
    let (rest, o, r, v) = then-parsed (many (entry_at w s) n m) _ es next q in
    let is : x ∷ rest ≡ es = cc in
    rw (← is) (one x rest p (entries-good w s n m rest o r))
  where
    one : (x : Entry) (rest : List Entry) {m : ℕ} → entry_at w s at ≡ parsed x m → GoodKeys rest → GoodKeys (x ∷ rest)
    one (entry k is) rest {m} p g = (entry-good w s at k is m p, g)

pub read-good : (bs : List ℕ) (es : List Entry) (next : ℕ) → previous bs ≡ parsed es next → GoodKeys es
read-good bs es next e =
    let (h, first, found, room, small) = previous-parts bs es next e in
    entries-good (says_tagged h) bs (says_count h) 8 es next found
