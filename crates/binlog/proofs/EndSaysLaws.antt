-- The layout said both ways, with the end named behind the bytes.
use Prim.Native.Nat.{ℕ, ◌<◌}
use mathlib.Core.Path.{◌≡◌, refl, sym, ap, ◌∙◌}
use mathlib.Core.Bool.{true}
use mathlib.Core.List.{List, [], ◌∷◌, append-nil}
use native.Mathlib.Omega.{arith}
use lib.ListN.{length}
use Rattle.misc.specs.Refusal as refusals
use Rattle.binlog.specs.Format.{type_in, is_read}
use Rattle.binlog.specs.Stop.{stop_for}
use Rattle.binlog.specs.Place.{Place, heading, stopped}
use Rattle.binlog.specs.Run.{Done, Run, at, end_of, finish, walking}
use Rattle.binlog.specs.Layout.{file_of, Says, in_opening, wrong_opening, in_header, small_size, long_body, in_event, in_skipped, bad_event}
use Rattle.binlog.specs.Layout.{EndSays, well, cut_opening, cut_header, cut_event, stays}
use Rattle.binlog.proofs.WalkRun.{either}
use Rattle.binlog.proofs.ThroughLaws.{through-feed}
use Rattle.binlog.proofs.SaysLaws.{says_all, says-one}

cut-header : (came : List ℕ) → 0 < length came → end_of (heading came) ≡ stopped (stop_for refusals.ended) 0
cut-header [] h = absurd (omega arith)
cut-header (b ∷ came) h = refl

module _ {S A : Type 0} (does : S → ℕ → List ℕ → Done S A) (t : ℕ) (s : S) where
  end-at : {bs bs' : List ℕ} {r : Run S A} → bs ≡ bs' → EndSays does t s bs r → EndSays does t s bs' r
  end-at e h = rw (← e) h

  end_says : {bs : List ℕ} {r : Run S A} → Says does t s bs r → EndSays does t s bs (finish does t r)
  end_says (in_opening n h) = cut_opening n h
  end_says (wrong_opening n b rest h w) = stays (wrong_opening n b rest h w)
  end_says (in_header {es = es} [] th h) = end-at (sym (append-nil (file_of es))) (well th)
  end_says (in_header (b ∷ came) th h) = cut_header (b ∷ came) th (omega arith) h
  end_says (small_size header rest th full l) = stays (small_size header rest th full l)
  end_says (long_body header rest th full l r m) = stays (long_body header rest th full l r m)
  end_says (in_event header came th fine r l) = cut_event header came th fine l
  end_says (in_skipped header came th fine r l) = cut_event header came th fine l
  end_says (bad_event e rest th laid r d) = stays (bad_event e rest th laid r d)

  -- any bytes with the end behind them come to what the layout says
  pub end-says-all : (bs : List ℕ) → EndSays does t s bs (walking does t s bs true)
  end-says-all bs = end_says (says_all does t s bs)

  -- and to nothing else
  pub end-says-one : {bs : List ℕ} {r : Run S A} → EndSays does t s bs r → walking does t s bs true ≡ r
  end-says-one (well {es = es} {s' = s'} {said = said} th) = ap (finish does t) (through-feed does t s es s' said th)
  end-says-one (cut_opening n h) = ap (finish does t) (says-one does t s (in_opening n h))
  end-says-one (cut_header {s' = s'} {said = said} came th some h) =
      ap (finish does t) (says-one does t s (in_header came th h)) ∙ ap (λ (p : Place). at p s' said) (cut-header came some)
  end-says-one (cut_event header came th fine l) =
      either (is_read (type_in header))
      (λ r. ap (finish does t) (says-one does t s (in_event header came th fine r l)))
      (λ r. ap (finish does t) (says-one does t s (in_skipped header came th fine r l)))
  end-says-one (stays h) = ap (finish does t) (says-one does t s h)
