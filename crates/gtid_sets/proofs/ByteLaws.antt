-- The bytes of entries: how many there are at most and at least, and those of two parts.
use Prim.Native.Nat.{ℕ, ◌+◌, ◌*◌, ◌≤◌}
use mathlib.Core.Path.{◌≡◌, refl}
use mathlib.Core.Bool.{Bool, true, false}
use mathlib.Core.List.{List, [], ◌∷◌, ◌++◌, append_assoc}
use native.Mathlib.Omega.{arith}
use lib.ListN.{length, length-append}
use Rattle.misc.proofs.VarlenLaws.{length-small}
use Rattle.packets.specs.Gno.{Interval, interval}
use Rattle.previous_gtids_event.specs.Entry.{Entry, entry, tag_of}
use Rattle.packets.specs.Tag.{none_or_tag}
use Rattle.previous_gtids_event.specs.Rewrite.{intervals_bytes, tag_bytes, entries_bytes, any_tag, body_bytes}
use Rattle.packets.proofs.TagLaws.{none-or-tag-short}
use Rattle.previous_gtids_event.proofs.Writing.{length-header, entry_length}
use Rattle.gtid_sets.specs.Limits.{intervals}
use Rattle.gtid_sets.specs.Lent.{GoodKeys}

-- ---- lengths

tag-long : (w : Bool) (t : List ℕ) → none_or_tag t ≡ true → length (tag_bytes w t) ≤ 33
tag-long false t h = omega arith
tag-long true t h = let short = none-or-tag-short t h in rw (length-append, length-small (length t) (omega arith)) (omega arith)

pub entries-long : (w : Bool) (es : List Entry) → GoodKeys es → length (entries_bytes w es) ≤ 57 * length es + 16 * intervals es
unfolding entries_bytes
entries-long w [] g = omega arith
entries-long w (entry k is ∷ es) g = simp (length-append, entry_length w k is g.0.uuid)
    (omega (arith, tag-long w (tag_of k) g.0.rule, entries-long w es g.1))

-- 8 bytes for the header, 57 at most for each entry, and 16 for each interval
pub body-long : (es : List Entry) → GoodKeys es → length (body_bytes es) ≤ 8 + 57 * length es + 16 * intervals es
unfolding body_bytes
body-long es g = simp (length-append, length-header) (omega (arith, entries-long (any_tag es) es g))

-- 24 at least for each entry, and 16 for each interval
pub entries-least : (w : Bool) (es : List Entry) → GoodKeys es → 24 * length es + 16 * intervals es ≤ length (entries_bytes w es)
unfolding entries_bytes
entries-least w [] g = omega arith
entries-least w (entry k is ∷ es) g = simp (length-append, entry_length w k is g.0.uuid) (omega (arith, entries-least w es g.1))

pub body-least : (es : List Entry) → GoodKeys es → 8 + 24 * length es + 16 * intervals es ≤ length (body_bytes es)
unfolding body_bytes
body-least es g = simp (length-append, length-header) (omega (arith, entries-least (any_tag es) es g))

-- ---- the bytes of two parts are the parts' bytes

pub intervals_bytes-append : (is js : List Interval) → intervals_bytes (is ++ js) ≡ intervals_bytes is ++ intervals_bytes js
unfolding intervals_bytes
intervals_bytes-append [] js = refl
intervals_bytes-append (interval a b ∷ is) js = simp (intervals_bytes-append is js, append_assoc)

pub entries_bytes-append : (w : Bool) (s t : List Entry) → entries_bytes w (s ++ t) ≡ entries_bytes w s ++ entries_bytes w t
unfolding entries_bytes
entries_bytes-append w [] t = refl
entries_bytes-append w (e ∷ s) t = simp (entries_bytes-append w s t, append_assoc)
