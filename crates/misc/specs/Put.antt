-- What is put at the place of an output, and the place moves on.
use Rattle.std.specs.Prelude.{ℕ, ◌+◌, ◌≤◌, ◌≡◌, List, length}
use Rattle.misc.specs.Output.{put_at, put_end, Placed}
use Rattle.misc.specs.declared.put.Put.{Put}

-- the same output is lent
abbrev pub SameLent : Put → Put → Type 0
SameLent p q = q.out.ghost_name ≡ p.out.ghost_name

-- bytes are put where there is room for all of them; where there isn't, nothing changes
pub record Puts (p : Put) (bs : List ℕ) (q : Put) : Type 0 where
  pub out : q.out.now ≡ put_at p.out.now p.at bs
  pub at : q.at ≡ put_end p.out.now p.at bs
  pub same : SameLent p q

-- the same where there is room for them; where there isn't, nothing is said
pub record PutsWhereFits (p : Put) (bs : List ℕ) (q : Put) : Type 0 where
  pub placed : p.at + length bs ≤ length p.out.now → Placed p.out.now p.at bs q.out.now q.at
  pub same : SameLent p q
