-- Runs that differ only in what was answered so far: they go on alike.
use Prim.Native.Nat.{ℕ}
use mathlib.Core.Path.{◌≡◌, refl}
use mathlib.Core.List.{List, [], ◌∷◌}
use Rattle.binlog.specs.Place.{Place, opening, heading, inside, passing, whole, ended, stopped, next}
use Rattle.binlog.specs.Run.{Done, did, fails, at, Word, chunk, end, answered, settled, feed, finish, hear}
use Rattle.binlog_reader.specs.Does.{Judged, does}
use Rattle.binlog_reader.specs.Step.{SetRun}
use Rattle.binlog_laws.specs.Files.{read_in}

pub data Same : SetRun → SetRun → Type 0 where
  same : {p : Place} {kept : List ℕ} {js ks : List Judged} → Same (at p kept js) (at p kept ks)

module _ (room t : ℕ) where
  same-answered : (kept : List ℕ) (js ks : List Judged) (d : Done (List ℕ) Judged) → Same (answered kept js d) (answered kept ks d)
  same-answered kept js ks (did j next) = same
  same-answered kept js ks (fails r n) = same

  same-settled : (p : Place) (kept : List ℕ) (js ks : List Judged) → Same (settled (does room) t p kept js) (settled (does room) t p kept ks)
  same-settled (opening n) kept js ks = same
  same-settled (heading came) kept js ks = same
  same-settled (inside type n came) kept js ks = same
  same-settled (passing n) kept js ks = same
  same-settled (whole type body) kept js ks = same-answered kept js ks (does room kept type body)
  same-settled ended kept js ks = same
  same-settled (stopped r n) kept js ks = same

  same-feed : (a b : SetRun) (bs : List ℕ) → Same a b → Same (feed (does room) t a bs) (feed (does room) t b bs)
  same-feed a b [] s = s
  same-feed (at p kept js) (at _ _ ks) (x ∷ bs) same =
      same-feed (settled (does room) t (next t p x) kept js) (settled (does room) t (next t p x) kept ks) bs (same-settled (next t p x) kept js ks)

  same-finish : (a b : SetRun) → Same a b → Same (finish (does room) t a) (finish (does room) t b)
  same-finish (at p kept js) (at _ _ ks) same = same

  pub same-hear : (a b : SetRun) (ws : List Word) → Same a b → Same (hear (does room) t a ws) (hear (does room) t b ws)
  same-hear a b [] s = s
  same-hear a b (chunk bs ∷ ws) s = same-hear (feed (does room) t a bs) (feed (does room) t b bs) ws (same-feed a b bs s)
  same-hear a b (end ∷ ws) s = same-hear (finish (does room) t a) (finish (does room) t b) ws (same-finish a b s)

pub same_read : (a b : SetRun) → Same a b → ((read_in b).set ≡ (read_in a).set) × ((read_in b).said ≡ (read_in a).said)
same_read (at p kept js) (at _ _ ks) same = (refl, refl)
