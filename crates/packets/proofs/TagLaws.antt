-- Laws of the tag rule.
use mathlib.Core.Path.{◌≡◌, refl}
use mathlib.Core.Bool.{true, false, not, ◌&&◌}
use mathlib.Core.List.{List, [], ◌∷◌}
use Prim.Native.Nat.{ℕ, ◌≤◌, ◌<◌}
use native.Mathlib.Omega.{arith}
use lib.Dec.{leb, eqb}
use borrow.Author.Tests.{eqb-true}
use lib.ListN.{length, get_or}
use Rattle.std.specs.List.{list_all}
use Rattle.packets.specs.Tag.{is_digit, is_tag_byte, all_tag_bytes, is_tag, none_or_tag}
use Rattle.packets.proofs.Tests.{split, clash, tests}

-- the rule of a tag's bytes is the library's `list_all`
pub all-are-tag-bytes : (s : List ℕ) → list_all is_tag_byte s ≡ all_tag_bytes s
unfolding all_tag_bytes
all-are-tag-bytes [] = refl
all-are-tag-bytes (b ∷ bs) = rw (all-are-tag-bytes bs)

-- no bytes are no tag
pub no-bytes-no-tag : (t : List ℕ) → length t ≡ 0 → is_tag t ≡ false
unfolding is_tag
no-bytes-no-tag [] h = refl
no-bytes-no-tag (b ∷ bs) h = absurd (omega arith)

-- the rule for a tag that has a first byte
pub tag-some : (t : List ℕ) → 0 < length t → is_tag t ≡ (leb (length t) 32 && not (is_digit (get_or t 0 0)) && all_tag_bytes t)
unfolding is_tag
tag-some [] h = absurd (omega arith)
tag-some (b ∷ bs) h = refl

pub tag-not-empty : (t : List ℕ) → is_tag t ≡ true → 1 ≤ length t
unfolding is_tag
tag-not-empty [] h = clash h refl
tag-not-empty (b ∷ bs) h = omega arith

pub tag-at-most-32 : (t : List ℕ) → is_tag t ≡ true → length t ≤ 32
unfolding is_tag
tag-at-most-32 [] h = clash h refl
tag-at-most-32 (b ∷ bs) h = split (leb (length (b ∷ bs)) 32) (λ k. omega tests) (λ k. clash h (rw k))

pub none-or-tag-short : (t : List ℕ) → none_or_tag t ≡ true → length t ≤ 32
none-or-tag-short t h = split (eqb (length t) 0)
    (λ none. let z = eqb-true (length t) 0 none in omega arith)
    (λ some. tag-at-most-32 t (rw some at h))
