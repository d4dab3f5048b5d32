-- Bytes from a header on: what they come to, said of the whole header.
use Prim.Native.Nat.{ℕ, ◌+◌, ◌-◌, ◌≤◌, ◌<◌}
use mathlib.Core.Path.{◌≡◌, refl, ◌∙◌}
use mathlib.Core.Bool.{true, false}
use mathlib.Core.List.{List, [], ◌++◌}
use native.Mathlib.Omega.{arith}
use lib.ListN.{length, length-append}
use lib.Seq.{take_at, drop_at, take-length, drop-length}
use borrow.Author.Tests.{lt-ltb, le-ltb, le-leb, lt-leb}
use Rattle.misc.specs.Refusal.{too_long, bad_file}
use Rattle.misc.specs.Body.{body_limit}
use Rattle.binlog.specs.Format.{type_in, size_in, is_read}
use Rattle.binlog.specs.Stop.{stop_for}
use Rattle.binlog.specs.Place.{Place, heading, stopped, arrived, passed, judged, headed}
use Rattle.binlog.specs.Walk.{reached, is_whole, walked}
use Rattle.binlog.specs.Run.{Done, at, settled, feed}
use Rattle.binlog.specs.Layout.{HeaderFine}
use Rattle.binlog.proofs.RunLaws.{still-stopped}
use Rattle.binlog.proofs.WalkLaws.{headed-short, head-many, read-many, pass-many}
use Rattle.binlog.proofs.WalkRun.{walk-waits, walk-run}

-- ---- what a whole header comes to

module _ (t : ℕ) (header : List ℕ) (full : length header ≡ 19) where
  pub headed-whole : headed t header ≡ judged t (type_in header) (size_in header)
  unfolding headed
  headed-whole = rw (le-ltb (length header) 19 (omega arith))

  pub judged-small : size_in header < 19 + t → judged t (type_in header) (size_in header) ≡ stopped (stop_for bad_file) 0
  unfolding judged
  judged-small h = rw (lt-ltb (size_in header) (19 + t) h)

  pub judged-long : 19 + t ≤ size_in header → is_read (type_in header) ≡ true → body_limit < size_in header - (19 + t)
      → judged t (type_in header) (size_in header) ≡ stopped (stop_for too_long) 0
  unfolding judged
  judged-long h r l = rw (le-ltb (size_in header) (19 + t) h, r, lt-leb (size_in header - (19 + t)) body_limit l)

  header-walk : (rest : List ℕ) → walked t (heading []) 0 (header ++ rest) ≡ walked t (judged t (type_in header) (size_in header)) 19 rest
  unfolding headed
  header-walk rest =
      head-many t 19 0 [] (header ++ rest) (omega arith) (rw length-append (omega arith))
      ∙ rw (take_at header rest 19 full, drop_at header rest 19 full, headed-whole)

module _ (t : ℕ) (header : List ℕ) (fine : HeaderFine t header) where
  pub judged-read : is_read (type_in header) ≡ true → judged t (type_in header) (size_in header) ≡ arrived t (type_in header) (size_in header - 19) []
  unfolding judged
  judged-read r = rw (le-ltb (size_in header) (19 + t) fine.least, r, le-leb (size_in header - (19 + t)) body_limit (fine.most r))

  pub judged-skip : is_read (type_in header) ≡ false → judged t (type_in header) (size_in header) ≡ passed (size_in header - 19)
  unfolding judged
  judged-skip r = rw (le-ltb (size_in header) (19 + t) fine.least, r)

  read_walk : is_read (type_in header) ≡ true → (came : List ℕ) → 19 + length came ≤ size_in header
      → walked t (heading []) 0 (header ++ came) ≡ reached (arrived t (type_in header) (size_in header - 19 - length came) came) (19 + length came)
  read_walk r came h =
      header-walk t header fine.whole came ∙ rw (judged-read r)
      (read-many t (type_in header) (length came) (size_in header - 19) 19 [] came (omega arith) (omega arith)
      ∙ rw (take-length came, drop-length came))

  skip-walk : is_read (type_in header) ≡ false → (came : List ℕ) → 19 + length came ≤ size_in header
      → walked t (heading []) 0 (header ++ came) ≡ reached (passed (size_in header - 19 - length came)) (19 + length came)
  skip-walk r came h =
      header-walk t header fine.whole came ∙ rw (judged-skip r)
      (pass-many t (length came) (size_in header - 19) 19 came (omega arith) (omega arith) ∙ rw (drop-length came))

-- ---- and a run over the bytes

module _ {S A : Type 0} (does : S → ℕ → List ℕ → Done S A) (t : ℕ) (s : S) (said : List A) where
  -- a walk that uses all bytes
  walk-over : (bs : List ℕ) (p q : Place) (n : ℕ) → is_whole p ≡ false → n ≡ length bs → walked t p 0 bs ≡ reached q n
      → feed does t (at p s said) bs ≡ settled does t q s said
  walk-over bs p q n h all e =
      let none : n - 0 ≡ length bs = omega arith in
      walk-run does t s said bs p 0 q n h e ∙ rw (none, drop-length bs)

  pub feed-heading : (came : List ℕ) → length came < 19 → feed does t (at (heading []) s said) came ≡ at (heading came) s said
  feed-heading came h =
      walk-over came (heading []) (heading came) (0 + length came) refl (omega arith)
      (rw (← headed-short t [] (omega arith))
      (head-many t (length came) 0 [] came (omega arith) (omega arith) ∙ rw (take-length came, drop-length came, headed-short t came h)))

  feed-stops : (header rest : List ℕ) (p : Place) → length header ≡ 19 → judged t (type_in header) (size_in header) ≡ p
      → ((bs : List ℕ) → walked t p 19 bs ≡ reached p 19)
      → feed does t (at (heading []) s said) (header ++ rest) ≡ feed does t (settled does t p s said) rest
  feed-stops header rest p full e w =
      walk-run does t s said (header ++ rest) (heading []) 0 p 19 refl (header-walk t header full rest ∙ rw e (w rest))
      ∙ rw (drop_at header rest 19 full)

  pub feed-small : (header rest : List ℕ) → length header ≡ 19 → size_in header < 19 + t
      → feed does t (at (heading []) s said) (header ++ rest) ≡ at (stopped (stop_for bad_file) 0) s said
  feed-small header rest full h =
      feed-stops header rest (stopped (stop_for bad_file) 0) full (judged-small t header full h)
      (λ bs. walk-waits t (stopped (stop_for bad_file) 0) 19 bs refl)
      ∙ still-stopped does t (stop_for bad_file) 0 s said rest

  pub feed-long : (header rest : List ℕ) → length header ≡ 19 → 19 + t ≤ size_in header → is_read (type_in header) ≡ true
      → body_limit < size_in header - (19 + t) → feed does t (at (heading []) s said) (header ++ rest) ≡ at (stopped (stop_for too_long) 0) s said
  feed-long header rest full h r l =
      feed-stops header rest (stopped (stop_for too_long) 0) full (judged-long t header full h r l)
      (λ bs. walk-waits t (stopped (stop_for too_long) 0) 19 bs refl)
      ∙ still-stopped does t (stop_for too_long) 0 s said rest

  module _ (header : List ℕ) (fine : HeaderFine t header) (came : List ℕ) (within : 19 + length came ≤ size_in header) where
    all-came : 19 + length came ≡ length (header ++ came)
    all-came = rw length-append (omega (arith, fine.whole))

    pub feed-read : is_read (type_in header) ≡ true → feed does t (at (heading []) s said) (header ++ came)
        ≡ settled does t (arrived t (type_in header) (size_in header - 19 - length came) came) s said
    feed-read r = walk-over (header ++ came) (heading []) _ (19 + length came) refl all-came (read_walk t header fine r came within)

    pub feed-skip : is_read (type_in header) ≡ false → feed does t (at (heading []) s said) (header ++ came)
        ≡ settled does t (passed (size_in header - 19 - length came)) s said
    feed-skip r = walk-over (header ++ came) (heading []) _ (19 + length came) refl all-came (skip-walk t header fine r came within)
