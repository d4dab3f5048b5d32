-- The layout said both ways: any bytes come to what their layout says, and to nothing else.
use Prim.Native.Nat.{ℕ, zero, suc, ◌+◌, ◌-◌, ◌≤◌, ◌<◌}
use mathlib.Core.Path.{◌≡◌, refl, sym, ap, ◌∙◌}
use mathlib.Core.Bool.{true, false}
use mathlib.Core.List.{List, [], ◌∷◌, ◌++◌, append_assoc, append-nil}
use native.Mathlib.Numerals.{add-one}
use native.Mathlib.Omega.{arith}
use lib.ListN.{length, take, drop, get_or, length-append, length-drop, take-append-drop}
use lib.Dec.{eqb}
use lib.Seq.{append_snoc, take-suc, length-take-le}
use borrow.Author.Tests.{eqb-true, eqb-false, lt-ltb, le-ltb, ne_eqb}
use Rattle.misc.specs.Refusal.{bad_file}
use Rattle.binlog.specs.Stop.{stop_for}
use Rattle.misc.specs.Body.{body_limit}
use Rattle.misc.proofs.ParseLaws.{split}
use Rattle.binlog.specs.Format.{the_opening, type_in, size_in, is_read}
use Rattle.binlog.specs.Place.{Place, opening, heading, inside, passing, arrived, passed, headed, next}
use Rattle.binlog.specs.Run.{Done, did, fails, Run, at, begin, answered, settled, fed, feed}
use Rattle.binlog.specs.Layout.{FileEvent, bytes_of, LaidOut, file_of, HeaderFine, Through}
use Rattle.binlog.specs.Layout.{Says, in_opening, wrong_opening, in_header, small_size, long_body, in_event, in_skipped, bad_event}
use Rattle.binlog.proofs.RunLaws.{feed-append, still-stopped}
use Rattle.binlog.proofs.WalkLaws.{headed-short}
use Rattle.binlog.proofs.WalkRun.{either}
use Rattle.binlog.proofs.HeaderLaws.{headed-whole, judged-small, judged-long, judged-read, judged-skip}
use Rattle.binlog.proofs.HeaderLaws.{feed-heading, feed-small, feed-long, feed-read, feed-skip}
use Rattle.binlog.proofs.LayoutLaws.{read-event, skip-event}
use Rattle.binlog.proofs.ThroughLaws.{file-snoc, through-on, through-more}

arrived-some : (t type n : ℕ) (came : List ℕ) → 0 < n → arrived t type n came ≡ inside type n came
arrived-some t type zero came h = absurd (omega arith)
arrived-some t type (suc n) came h = refl

passed-some : (n : ℕ) → 0 < n → passed n ≡ passing n
passed-some zero h = absurd (omega arith)
passed-some (suc n) h = refl

-- the event whose header and whose other bytes are these
abbrev event_of : ℕ → List ℕ → List ℕ → FileEvent
event_of t header c = record { header = header; body = take (length c - t) c; tail = drop (length c - t) c }

event-bytes : (t : ℕ) (header c : List ℕ) → bytes_of (event_of t header c) ≡ header ++ c
event-bytes t header c = ap (λ (x : List ℕ). header ++ x) (take-append-drop (length c - t) c)

event-laid : (t : ℕ) (header c : List ℕ) → HeaderFine t header → 19 + length c ≡ size_in header → LaidOut t (event_of t header c)
event-laid t header c fine h =
    let least = fine.least in
    let size : length (take (length c - t) c) ≡ length c - t = length-take-le (length c - t) c (omega arith) in
    let body : size_in header - (19 + t) ≡ length (take (length c - t) c) = omega arith in
    record {
      head = fine.whole;
      trail = rw length-drop (omega arith);
      size = omega arith;
      short = λ r. rw body at (fine.most r);
    }

module _ {S A : Type 0} (does : S → ℕ → List ℕ → Done S A) (t : ℕ) (s : S) where
  says_at : {bs bs' : List ℕ} {r r' : Run S A} → bs ≡ bs' → r ≡ r' → Says does t s bs r → Says does t s bs' r'
  says_at e f h = rw (← e, ← f) h

  module _ (es : List FileEvent) (s' : S) (said : List A) (through : Through does t s es s' said) where
    -- ---- an event's bytes behind the events that went through

    module _ (header : List ℕ) (fine : HeaderFine t header) (c : List ℕ) where
      snoc-bytes : file_of (es ++ event_of t header c ∷ []) ++ [] ≡ file_of es ++ (header ++ c)
      snoc-bytes = append-nil (file_of (es ++ event_of t header c ∷ [])) ∙ file-snoc es (event_of t header c)
          ∙ ap (λ (x : List ℕ). file_of es ++ x) (event-bytes t header c)

      whole_says : is_read (type_in header) ≡ true → LaidOut t (event_of t header c) → (d : Done S A) → does s' (type_in header) (take (length c - t) c) ≡ d
          → Says does t s (file_of es ++ (header ++ c)) (answered s' said d)
      whole_says r l (did a s'') e =
          says_at snoc-bytes refl
          (in_header [] (through-more does t s es s' said through (event_of t header c) s'' (said ++ a ∷ []) l
          (read-event t (event_of t header c) l does s' said r ∙ ap (answered s' said) e)) (omega arith))
      whole_says r l (fails x n) e =
          says_at (ap (λ (y : List ℕ). file_of es ++ y) (append-nil (bytes_of (event_of t header c)) ∙ event-bytes t header c)) refl
          (bad_event (event_of t header c) [] through l r e)

      event-says : is_read (type_in header) ≡ true → 19 + length c ≤ size_in header
          → Says does t s (file_of es ++ (header ++ c)) (settled does t (arrived t (type_in header) (size_in header - 19 - length c) c) s' said)
      event-says r h =
          split (size_in header) (19 + length c)
          (λ l.
          let none : size_in header - 19 - length c ≡ 0 = omega arith in
          rw none (whole_says r (event-laid t header c fine (omega arith)) (does s' (type_in header) (take (length c - t) c)) refl))
          (λ l. rw (arrived-some t (type_in header) (size_in header - 19 - length c) c (omega arith)) (in_event header c through fine r l))

      skip-says : is_read (type_in header) ≡ false → 19 + length c ≤ size_in header
          → Says does t s (file_of es ++ (header ++ c)) (settled does t (passed (size_in header - 19 - length c)) s' said)
      skip-says r h =
          split (size_in header) (19 + length c)
          (λ l.
          let none : size_in header - 19 - length c ≡ 0 = omega arith in
          let laid = event-laid t header c fine (omega arith) in
          let skipped = skip-event t (event_of t header c) laid does s' said r in
          rw none
          (says_at snoc-bytes refl
          (in_header [] (through-more does t s es s' said through (event_of t header c) s' said laid skipped) (omega arith))))
          (λ l. rw (passed-some (size_in header - 19 - length c) (omega arith)) (in_skipped header c through fine r l))

    -- ---- bytes of a header there

    whole-header : (c : List ℕ) → length c ≡ 19 → Says does t s (file_of es ++ c) (settled does t (headed t c) s' said)
    whole-header c full =
        let none : size_in c - 19 - 0 ≡ size_in c - 19 = omega arith in
        let bytes = ap (λ (x : List ℕ). file_of es ++ x) (append-nil c) in
        rw (headed-whole t c full)
        (split (19 + t) (size_in c)
        (λ least.
        either (is_read (type_in c))
        (λ r.
        split (size_in c - (19 + t)) body_limit
        (λ m.
        let fine : HeaderFine t c = record { whole = full; least = least; most = λ _. m } in
        says_at bytes (ap (λ (p : Place). settled does t p s' said) (ap (λ (k : ℕ). arrived t (type_in c) k []) none ∙ sym (judged-read t c fine r)))
        (event-says c fine [] r (omega arith)))
        (λ m. rw (judged-long t c full least r m) (says_at bytes refl (long_body c [] through full least r m))))
        (λ r.
        let fine : HeaderFine t c = record { whole = full; least = least; most = λ q. absurd (let z : ◌≡◌ {A = ℕ} 0 1 = cc in omega arith) } in
        says_at bytes (ap (λ (p : Place). settled does t p s' said) (ap passed none ∙ sym (judged-skip t c fine r)))
        (skip-says c fine [] r (omega arith))))
        (λ small. rw (judged-small t c full small) (says_at bytes refl (small_size c [] through full small))))

    header-says : (c : List ℕ) → length c ≤ 19 → Says does t s (file_of es ++ c) (settled does t (headed t c) s' said)
    header-says c h =
        split 19 (length c)
        (λ l. whole-header c (omega arith))
        (λ l. rw (headed-short t c l) (in_header c through l))

  -- ---- a byte more

  opening-bytes : (n b : ℕ) → n < 4 → b ≡ get_or the_opening n 0 → take (n + 1) the_opening ≡ take n the_opening ++ b ∷ []
  unfolding the_opening
  opening-bytes n b h e = rw (add-one n, e) (take-suc the_opening n 0 h)

  opening-last : (n b : ℕ) → n ≡ 3 → b ≡ get_or the_opening n 0 → file_of [] ++ [] ≡ take n the_opening ++ b ∷ []
  unfolding the_opening file_of
  opening-last n b h e = rw (e, h)

  opening-says : (n b : ℕ) → n < 4 → Says does t s (take n the_opening ++ b ∷ []) (settled does t (next t (opening n) b) s [])
  opening-says n b h =
      either (eqb b (get_or the_opening n 0))
      (λ e.
      let same = eqb-true b (get_or the_opening n 0) e in
      rw e
      (split (n + 1) 3
      (λ l. rw (lt-ltb (n + 1) 4 (omega arith)) (says_at (opening-bytes n b h same) refl (in_opening (n + 1) (omega arith))))
      (λ l.
      rw (le-ltb (n + 1) 4 (omega arith))
      (says_at (opening-last n b (omega arith) same) refl (in_header [] (record { laid = tt; well = refl }) (omega arith))))))
      (λ e. rw e (wrong_opening n b [] h (eqb-false b (get_or the_opening n 0) e)))

  snoc-behind : (a b c : List ℕ) (x : ℕ) → a ++ (b ++ (c ++ x ∷ [])) ≡ (a ++ (b ++ c)) ++ x ∷ []
  snoc-behind a b c x = simp append_assoc

  says-step : {bs : List ℕ} {r : Run S A} → Says does t s bs r → (b : ℕ) → Says does t s (bs ++ b ∷ []) (fed does t r b)
  says-step (in_opening n h) b = opening-says n b h
  says-step (wrong_opening n x rest h w) b =
      says_at (sym (append_assoc (take n the_opening) (x ∷ rest) (b ∷ []))) refl (wrong_opening n x (rest ++ b ∷ []) h w)
  says-step (in_header {es = es} {s' = s'} {said = said} came th h) b =
      says_at (sym (append_assoc (file_of es) came (b ∷ []))) refl (header-says es s' said th (came ++ b ∷ []) (rw length-append (omega arith)))
  says-step (small_size {es = es} header rest th full l) b =
      says_at (snoc-behind (file_of es) header rest b) refl (small_size header (rest ++ b ∷ []) th full l)
  says-step (long_body {es = es} header rest th full l r m) b =
      says_at (snoc-behind (file_of es) header rest b) refl (long_body header (rest ++ b ∷ []) th full l r m)
  says-step (in_event {es = es} {s' = s'} {said = said} header came th fine r l) b =
      let more : length (came ++ b ∷ []) ≡ length came + 1 = length-append came (b ∷ []) in
      let left : size_in header - 19 - length (came ++ b ∷ []) ≡ size_in header - 19 - length came - 1 = omega arith in
      says_at (snoc-behind (file_of es) header came b)
      (ap (λ (k : ℕ). settled does t (arrived t (type_in header) k (came ++ b ∷ [])) s' said) left)
      (event-says es s' said th header fine (came ++ b ∷ []) r (omega arith))
  says-step (in_skipped {es = es} {s' = s'} {said = said} header came th fine r l) b =
      let more : length (came ++ b ∷ []) ≡ length came + 1 = length-append came (b ∷ []) in
      let left : size_in header - 19 - length (came ++ b ∷ []) ≡ size_in header - 19 - length came - 1 = omega arith in
      says_at (snoc-behind (file_of es) header came b)
      (ap (λ (k : ℕ). settled does t (passed k) s' said) left)
      (skip-says es s' said th header fine (came ++ b ∷ []) r (omega arith))
  says-step (bad_event {es = es} e rest th laid r d) b =
      says_at (snoc-behind (file_of es) (bytes_of e) rest b) refl (bad_event e (rest ++ b ∷ []) th laid r d)

  says_on : (bs came : List ℕ) (r : Run S A) → Says does t s came r → Says does t s (came ++ bs) (feed does t r bs)
  says_on [] came r h = says_at (sym (append-nil came)) refl h
  says_on (b ∷ bs) came r h = says_at (append_snoc came b bs) refl (says_on bs (came ++ b ∷ []) (fed does t r b) (says-step h b))

  -- any bytes come to what their layout says
  pub says_all : (bs : List ℕ) → Says does t s bs (feed does t (begin s) bs)
  says_all bs = says_on bs [] (begin s) (in_opening 0 (omega arith))

  -- ---- and to nothing else

  feed-opening : (n : ℕ) → n < 4 → feed does t (begin s) (take n the_opening) ≡ at (opening n) s []
  unfolding the_opening
  feed-opening zero h = refl
  feed-opening (suc zero) h = refl
  feed-opening (suc (suc zero)) h = refl
  feed-opening (suc (suc (suc zero))) h = refl
  feed-opening (suc (suc (suc (suc n)))) h = absurd (omega arith)

  pub says-one : {bs : List ℕ} {r : Run S A} → Says does t s bs r → feed does t (begin s) bs ≡ r
  says-one (in_opening n h) = feed-opening n h
  says-one (wrong_opening n b rest h w) =
      feed-append does t (begin s) (take n the_opening) (b ∷ rest)
      ∙ rw (feed-opening n h, ne_eqb b (get_or the_opening n 0) w) (still-stopped does t (stop_for bad_file) 0 s [] rest)
  says-one (in_header {es = es} {s' = s'} {said = said} came th h) = through-on does t s es s' said th came ∙ feed-heading does t s' said came h
  says-one (small_size {es = es} {s' = s'} {said = said} header rest th full l) =
      through-on does t s es s' said th (header ++ rest) ∙ feed-small does t s' said header rest full l
  says-one (long_body {es = es} {s' = s'} {said = said} header rest th full l r m) =
      through-on does t s es s' said th (header ++ rest) ∙ feed-long does t s' said header rest full l r m
  says-one (in_event {es = es} {s' = s'} {said = said} header came th fine r l) =
      through-on does t s es s' said th (header ++ came) ∙ feed-read does t s' said header fine came (omega arith) r
      ∙ rw (arrived-some t (type_in header) (size_in header - 19 - length came) came (omega arith))
  says-one (in_skipped {es = es} {s' = s'} {said = said} header came th fine r l) =
      through-on does t s es s' said th (header ++ came) ∙ feed-skip does t s' said header fine came (omega arith) r
      ∙ rw (passed-some (size_in header - 19 - length came) (omega arith))
  says-one (bad_event {es = es} {s' = s'} {said = said} {r = x} {n = n} e rest th laid r d) =
      through-on does t s es s' said th (bytes_of e ++ rest) ∙ feed-append does t (at (heading []) s' said) (bytes_of e) rest
      ∙ rw (read-event t e laid does s' said r, d) (still-stopped does t x n s' said rest)
