-- Laws of what calls over a body share (`specs/Body.antt`).
use mathlib.Core.Path.{◌≡◌, refl, sym, ap, ◌∙◌}
use mathlib.Core.List.{List}
use Prim.Native.Nat.{ℕ, ◌≤◌, ◌<◌}
use lib.ListN.{length}
use borrow.Author.Tests.{le-leb, lt-leb}
use Rattle.misc.specs.Refusal.{too_long}
use Rattle.misc.specs.Parse.{Parse, refuse, and_then}
use Rattle.misc.specs.Body.{body_limit, of_body}
use Rattle.misc.proofs.ParseLaws.{split}

pub body_limit-is : body_limit ≡ 65536
unfolding body_limit
body_limit-is = refl

module _ {A : Type 0} (s : List ℕ) (p : Parse A) where
  pub body-fits : length s ≤ 65536 → of_body s p ≡ p
  unfolding body_limit
  body-fits h = rw (le-leb (length s) 65536 h)

  pub body-too-long : 65536 < length s → of_body s p ≡ refuse too_long
  unfolding body_limit
  body-too-long h = rw (lt-leb (length s) 65536 h)

-- the length is judged before the first item, and so before what follows it
pub body-then : {A B : Type 0} (s : List ℕ) (p : Parse A) (rest : A → ℕ → Parse B) → of_body s (and_then p rest) ≡ and_then (of_body s p) rest
body-then {A} s p rest =
    split (length s) 65536
    (λ h. body-fits s (and_then p rest) h ∙ ap (λ (q : Parse A). and_then q rest) (sym (body-fits s p h)))
    (λ h. body-too-long s (and_then p rest) h ∙ ap (λ (q : Parse A). and_then q rest) (sym (body-too-long s p h)))
