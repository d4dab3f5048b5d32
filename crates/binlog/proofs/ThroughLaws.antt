-- Events that went through, and one more behind them.
use Prim.Native.Nat.{ℕ}
use mathlib.Core.Path.{◌≡◌, sym, ap, ◌∙◌}
use mathlib.Core.List.{List, [], ◌∷◌, ◌++◌, append_assoc, append-nil}
use Rattle.binlog.specs.Format.{the_opening}
use Rattle.binlog.specs.Place.{heading}
use Rattle.binlog.specs.Run.{Done, Run, at, begin, feed}
use Rattle.binlog.specs.Layout.{FileEvent, bytes_of, LaidOut, AllLaidOut, events_bytes, file_of, Through}
use Rattle.binlog.proofs.RunLaws.{feed-append}
use Rattle.binlog.proofs.LayoutLaws.{file-goes}

events-snoc : (es : List FileEvent) (e : FileEvent) → events_bytes (es ++ e ∷ []) ≡ events_bytes es ++ bytes_of e
events-snoc [] e = append-nil (bytes_of e)
events-snoc (d ∷ es) e = ap (λ (x : List ℕ). bytes_of d ++ x) (events-snoc es e) ∙ sym (append_assoc (bytes_of d) (events_bytes es) (bytes_of e))

pub file-snoc : (es : List FileEvent) (e : FileEvent) → file_of (es ++ e ∷ []) ≡ file_of es ++ bytes_of e
unfolding file_of
file-snoc es e = ap (λ (x : List ℕ). the_opening ++ x) (events-snoc es e) ∙ sym (append_assoc the_opening (events_bytes es) (bytes_of e))

laid-snoc : (t : ℕ) (es : List FileEvent) (e : FileEvent) → AllLaidOut t es → LaidOut t e → AllLaidOut t (es ++ e ∷ [])
laid-snoc t [] e all l = (l, tt)
laid-snoc t (d ∷ es) e (h, all) l = (h, laid-snoc t es e all l)

module _ {S A : Type 0} (does : S → ℕ → List ℕ → Done S A) (t : ℕ) (s : S) (es : List FileEvent) (s' : S) (said : List A)
    (through : Through does t s es s' said) where
  -- a run over the file so far, and over bytes behind it
  pub through-feed : feed does t (begin s) (file_of es) ≡ at (heading []) s' said
  through-feed = file-goes does t es s through.laid ∙ through.well

  pub through-on : (bs : List ℕ) → feed does t (begin s) (file_of es ++ bs) ≡ feed does t (at (heading []) s' said) bs
  through-on bs = feed-append does t (begin s) (file_of es) bs ∙ ap (λ (r : Run S A). feed does t r bs) through-feed

  pub through-more : (e : FileEvent) (s'' : S) (more : List A) → LaidOut t e → feed does t (at (heading []) s' said) (bytes_of e) ≡ at (heading []) s'' more
      → Through does t s (es ++ e ∷ []) s'' more
  through-more e s'' more l h =
      let all = laid-snoc t es e through.laid l in
      record {
        laid = all;
        well = sym (file-goes does t (es ++ e ∷ []) s all) ∙ ap (feed does t (begin s)) (file-snoc es e) ∙ through-on (bytes_of e) ∙ h;
      }
