-- Runs that a loop puts one after another.
use mathlib.Core.Path.{◌≡◌}
use mathlib.Core.List.{List, [], ◌++◌}
use Prim.Native.Nat.{ℕ}
use Rattle.misc.specs.Put.{PutsWhereFits}
use Rattle.misc.specs.declared.put.Put.{Put}
use Rattle.misc.proofs.PutLaws.{◌and◌, puts-fit, puts_none}

-- what is left, put from here on, gives what is wanted
pub record Putting (wanted : List ℕ) (p₀ : Put) (left : List ℕ) (p : Put) : Type 0 where
  pub goes_on : (q : Put) → PutsWhereFits p left q → PutsWhereFits p₀ wanted q

pub putting-none : (wanted left : List ℕ) (p : Put) → wanted ≡ left → Putting wanted p left p
putting-none wanted left p e = record { goes_on = λ q f. rw e f }

module _ {wanted left : List ℕ} {p₀ p : Put} (g : Putting wanted p₀ left p) where
  pub putting-all : left ≡ [] → PutsWhereFits p₀ wanted p
  putting-all e = g.goes_on p (rw e (puts-fit (puts_none p)))

  pub putting-turn : (run rest : List ℕ) → left ≡ run ++ rest → (q : Put) → PutsWhereFits p run q → Putting wanted p₀ rest q
  putting-turn run rest e q f = record { goes_on = λ r h. g.goes_on r (rw e (f and h)) }
