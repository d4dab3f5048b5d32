-- Laws of putting (`specs/Put.antt`): a run of puts is one put.
use mathlib.Core.Path.{refl, ◌∙◌}
use mathlib.Core.List.{List, [], ◌++◌}
use Prim.Native.Nat.{ℕ, ◌+◌, ◌≤◌, ◌<◌}
use lib.ListN.{length}
use Rattle.misc.specs.Output.{WhereFits}
use Rattle.misc.specs.Put.{Puts, PutsWhereFits}
use Rattle.misc.specs.declared.put.Put.{Put}
use Rattle.misc.proofs.OutputLaws.{◌also◌, put-placed, put-there, put-short, put-nothing}

module _ {p q : Put} {bs : List ℕ} where
  pub puts-fit : Puts p bs q → PutsWhereFits p bs q
  puts-fit f = record { placed = (put-placed (f.at, f.out)).placed; same = f.same }

  -- there is room for them
  pub puts-there : p.at + length bs ≤ length p.out.now → PutsWhereFits p bs q → Puts p bs q
  puts-there room f = let e = put-there room (f.placed room) in record { out = e.1; at = e.0; same = f.same }

-- no bytes
pub puts_none : (p : Put) → Puts p [] p
puts_none p = let e = put-nothing p.out.now p.at in record { out = e.1; at = e.0; same = refl }

-- no room: nothing is put
pub puts-short : (p : Put) (bs : List ℕ) → length p.out.now < p.at + length bs → Puts p bs p
puts-short p bs h = let e = put-short p.out.now bs p.at h in record { out = e.1; at = e.0; same = refl }

-- a run of puts, each where it fits, is one: room is asked once, at the end
infixl 40 ◌and◌
pub ◌and◌ : {p q r : Put} {a b : List ℕ} → PutsWhereFits p a q → PutsWhereFits q b r → PutsWhereFits p (a ++ b) r
◌and◌ {p} {q} {r} {a} {b} f g =
    let first : WhereFits p.out.now p.at a q.out.now q.at = record { placed = f.placed } in
    let second : WhereFits q.out.now q.at b r.out.now r.at = record { placed = g.placed } in
    record { placed = (first also second).placed; same = g.same ∙ f.same }
