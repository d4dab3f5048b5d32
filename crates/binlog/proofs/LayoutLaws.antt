-- A file that is laid out gives exactly its events: the tie from the walk, byte by byte, to the format.
use Prim.Native.Nat.{ℕ, ◌+◌, ◌-◌, ◌≤◌}
use mathlib.Core.Path.{◌≡◌, refl, ◌∙◌}
use mathlib.Core.Bool.{true, false}
use mathlib.Core.List.{List, [], ◌∷◌, ◌++◌}
use native.Mathlib.Omega.{arith}
use lib.ListN.{length, length-append}
use lib.Seq.{take_at}
use Rattle.binlog.specs.Format.{the_opening, type_in, size_in, is_read}
use Rattle.binlog.specs.Place.{heading}
use Rattle.binlog.specs.Run.{Done, did, fails, at, begin, answered, feed}
use Rattle.binlog.specs.Layout.{FileEvent, bytes_of, LaidOut, AllLaidOut, events_bytes, file_of, and_on, goes, HeaderFine}
use Rattle.binlog.proofs.RunLaws.{feed-append, still-stopped}
use Rattle.binlog.proofs.WalkRun.{either}
use Rattle.binlog.proofs.HeaderLaws.{feed-read, feed-skip}

module _ (t : ℕ) (e : FileEvent) (laid : LaidOut t e) where
  abbrev behind : List ℕ
  behind = e.body ++ e.tail

  behind-length : length behind ≡ length e.body + t
  behind-length = rw (length-append, laid.trail)

  laid-fine : HeaderFine t e.header
  laid-fine =
      let body : size_in e.header - (19 + t) ≡ length e.body = omega (arith, laid.size) in
      record { whole = laid.head; least = omega (arith, laid.size); most = λ r. rw body (laid.short r) }

  all-behind : 19 + length behind ≤ size_in e.header
  all-behind = omega (arith, behind-length, laid.size)

  none_left : size_in e.header - 19 - length behind ≡ 0
  none_left = omega (arith, behind-length, laid.size)

  module _ {S A : Type 0} (does : S → ℕ → List ℕ → Done S A) (s : S) (said : List A) where
    pub read-event : is_read (type_in e.header) ≡ true
        → feed does t (at (heading []) s said) (bytes_of e) ≡ answered s said (does s (type_in e.header) e.body)
    read-event r =
        let size : length behind - t ≡ length e.body = omega (arith, behind-length) in
        feed-read does t s said e.header laid-fine behind all-behind r
        ∙ rw (none_left, size, take_at e.body e.tail (length e.body) refl)

    pub skip-event : is_read (type_in e.header) ≡ false → feed does t (at (heading []) s said) (bytes_of e) ≡ at (heading []) s said
    skip-event r = feed-skip does t s said e.header laid-fine behind all-behind r ∙ rw none_left

module _ {S A : Type 0} (does : S → ℕ → List ℕ → Done S A) (t : ℕ) where
  events-go : (es : List FileEvent) (s : S) (said : List A) → AllLaidOut t es
      → feed does t (at (heading []) s said) (events_bytes es) ≡ goes does es s said
  events-go [] s said laid = refl
  events-go (e ∷ es) s said (l, laid) =
      feed-append does t (at (heading []) s said) (bytes_of e) (events_bytes es)
      ∙ either (is_read (type_in e.header))
      (λ r. rw (read-event t e l does s said r, r) (on (does s (type_in e.header) e.body) (λ s' said'. events-go es s' said' laid)))
      (λ r. rw (skip-event t e l does s said r, r) (events-go es s said laid))
    where
      on : (d : Done S A) → ((s' : S) (said' : List A) → feed does t (at (heading []) s' said') (events_bytes es) ≡ goes does es s' said')
          → feed does t (answered s said d) (events_bytes es) ≡ and_on s said d (goes does es)
      on (did a s') go = go s' (said ++ a ∷ [])
      on (fails r n) go = still-stopped does t r n s said (events_bytes es)

  -- the whole file
  pub file-goes : (es : List FileEvent) (s : S) → AllLaidOut t es → feed does t (begin s) (file_of es) ≡ goes does es s []
  unfolding file_of the_opening
  file-goes es s laid = events-go es s [] laid
