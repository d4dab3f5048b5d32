-- What holds of a run at its start and lasts over each event holds throughout: of the set that is kept and the answers so far, where each body
-- is made of bytes of some kind.
use Prim.Native.Nat.{ℕ, zero, suc, ◌+◌, ◌-◌}
use mathlib.Core.Path.{◌≡◌, refl}
use mathlib.Core.List.{List, [], ◌∷◌, ◌++◌}
use lib.ListN.{length, take, get_or}
use lib.Dec.{ltb, leb, eqb}
use Rattle.misc.specs.Body.{body_limit}
use Rattle.packets.proofs.Tests.{split}
use Rattle.binlog.specs.Format.{the_opening, type_in, size_in, is_read}
use Rattle.binlog.specs.Place.{Place, opening, heading, inside, passing, whole, ended, stopped, opened, arrived, passed, judged, headed, next}
use Rattle.binlog.specs.Run.{Done, did, fails, at, Word, chunk, end, end_of, answered, settled, fed, feed, finish, hear}
use Rattle.binlog.specs.Held.{held_at}
use Rattle.binlog_reader.specs.Does.{Judged, does}
use Rattle.binlog_reader.specs.Step.{SetRun}

-- a kind of lists: its parts are of the kind, and so are lists one after another
pub record Kind (Ok : List ℕ → Type 0) : Type 0 where
  pub none : Ok []
  pub first : (b : ℕ) (bs : List ℕ) → Ok (b ∷ bs) → Ok (b ∷ [])
  pub rest : (b : ℕ) (bs : List ℕ) → Ok (b ∷ bs) → Ok bs
  pub both : (a b : List ℕ) → Ok a → Ok b → Ok (a ++ b)
  pub front : (n : ℕ) (bs : List ℕ) → Ok bs → Ok (take n bs)

-- all chunks are of it
abbrev pub AllOf : (List ℕ → Type 0) → List Word → Type 0
AllOf Ok [] = Unit {0}
AllOf Ok (chunk bs ∷ ws) = Ok bs × AllOf Ok ws
AllOf Ok (end ∷ ws) = AllOf Ok ws

module _ (Ok : List ℕ → Type 0) (kind : Kind Ok) where
  -- ---- so is what a place holds

  ok-opened : (n : ℕ) → Ok (held_at (opened n))
  ok-opened n = split (ltb n 4) (λ h. rw h kind.none) (λ h. rw h kind.none)

  ok-passed : (n : ℕ) → Ok (held_at (passed n))
  ok-passed zero = kind.none
  ok-passed (suc n) = kind.none

  ok-arrived : (t type n : ℕ) (came : List ℕ) → Ok came → Ok (held_at (arrived t type n came))
  ok-arrived t type zero came h = kind.front (length came - t) came h
  ok-arrived t type (suc n) came h = h

  ok-judged : (t type size : ℕ) → Ok (held_at (judged t type size))
  unfolding judged
  ok-judged t type size = split (ltb size (19 + t))
      (λ h. rw h kind.none)
      (λ h. rw h (split (is_read type)
      (λ r. rw r (split (leb (size - (19 + t)) body_limit)
      (λ l. rw l (ok-arrived t type (size - 19) [] kind.none))
      (λ l. rw l kind.none)))
      (λ r. rw r (ok-passed (size - 19)))))

  ok-headed : (t : ℕ) (came : List ℕ) → Ok came → Ok (held_at (headed t came))
  unfolding headed
  ok-headed t came ok = split (ltb (length came) 19) (λ h. rw h ok) (λ h. rw h (ok-judged t (type_in came) (size_in came)))

  pub ok-next : (t : ℕ) (p : Place) (b : ℕ) → Ok (held_at p) → Ok (b ∷ []) → Ok (held_at (next t p b))
  ok-next t (opening n) b h ok = split (eqb b (get_or the_opening n 0)) (λ e. rw e (ok-opened (n + 1))) (λ e. rw e kind.none)
  ok-next t (heading came) b h ok = ok-headed t (came ++ b ∷ []) (kind.both came (b ∷ []) h ok)
  ok-next t (inside type n came) b h ok = ok-arrived t type (n - 1) (came ++ b ∷ []) (kind.both came (b ∷ []) h ok)
  ok-next t (passing n) b h ok = ok-passed (n - 1)
  ok-next t (whole type body) b h ok = h
  ok-next t ended b h ok = kind.none
  ok-next t (stopped r n) b h ok = kind.none

  pub ok_end : (p : Place) → Ok (held_at p) → Ok (held_at (end_of p))
  ok_end (opening n) h = kind.none
  ok_end (heading []) h = kind.none
  ok_end (heading (b ∷ came)) h = kind.none
  ok_end (inside type n came) h = kind.none
  ok_end (passing n) h = kind.none
  ok_end (whole type body) h = h
  ok_end ended h = kind.none
  ok_end (stopped r n) h = kind.none

  -- ---- what lasts over each event

  module _ (room t : ℕ) (P : List ℕ → List Judged → Type 0)
      (turn : (kept : List ℕ) (js : List Judged) (type : ℕ) (body : List ℕ) (j : Judged) (next : List ℕ) → Ok body → P kept js
      → does room kept type body ≡ did j next → P next (js ++ j ∷ [])) where
    abbrev pub Fine : SetRun → Type 0
    Fine (at p kept js) = Ok (held_at p) × P kept js

    fine-answered : (kept : List ℕ) (js : List Judged) (type : ℕ) (body : List ℕ) (d : Done (List ℕ) Judged) → Ok body → P kept js
        → does room kept type body ≡ d → Fine (answered kept js d)
    fine-answered kept js type body (did j next) ok h e = (kind.none, turn kept js type body j next ok h e)
    fine-answered kept js type body (fails r n) ok h e = (kind.none, h)

    fine-settled : (p : Place) (kept : List ℕ) (js : List Judged) → Ok (held_at p) → P kept js → Fine (settled (does room) t p kept js)
    fine-settled (opening n) kept js ok h = (ok, h)
    fine-settled (heading came) kept js ok h = (ok, h)
    fine-settled (inside type n came) kept js ok h = (ok, h)
    fine-settled (passing n) kept js ok h = (ok, h)
    fine-settled (whole type body) kept js ok h = fine-answered kept js type body (does room kept type body) ok h refl
    fine-settled ended kept js ok h = (ok, h)
    fine-settled (stopped r n) kept js ok h = (ok, h)

    fine-fed : (r : SetRun) (b : ℕ) → Ok (b ∷ []) → Fine r → Fine (fed (does room) t r b)
    fine-fed (at p kept js) b ok h = fine-settled (next t p b) kept js (ok-next t p b h.0 ok) h.1

    fine-feed : (r : SetRun) (bs : List ℕ) → Ok bs → Fine r → Fine (feed (does room) t r bs)
    fine-feed r [] ok h = h
    fine-feed r (b ∷ bs) ok h = fine-feed (fed (does room) t r b) bs (kind.rest b bs ok) (fine-fed r b (kind.first b bs ok) h)

    fine-finish : (r : SetRun) → Fine r → Fine (finish (does room) t r)
    fine-finish (at p kept js) h = (ok_end p h.0, h.1)

    pub throughout : (r : SetRun) (ws : List Word) → AllOf Ok ws → Fine r → Fine (hear (does room) t r ws)
    throughout r [] ok h = h
    throughout r (chunk bs ∷ ws) ok h = throughout (feed (does room) t r bs) ws ok.1 (fine-feed r bs ok.0 h)
    throughout r (end ∷ ws) ok h = throughout (finish (does room) t r) ws ok (fine-finish r h)
