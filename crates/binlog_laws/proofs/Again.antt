-- Demand 3, replay, over files: a run that was stopped anywhere, saved, and fed everything again from the start ends with identical bytes, and
-- says the same at last. The second run is always where the first one was, and keeps the saved set: that has the ids of each event that the first
-- run accepted; and where the first run was refused, it was stopped and had the saved set already.
use Prim.Native.Nat.{ℕ, ◌≤◌}
use mathlib.Core.Path.{◌≡◌, refl, sym, ap, ◌∙◌}
use mathlib.Core.Bool.{Bool, true, or-true}
use mathlib.Core.List.{List, [], ◌∷◌, ◌++◌}
use native.Mathlib.Omega.{arith}
use lib.ListN.{length}
use Rattle.misc.specs.Parse.{Bytes}
use Rattle.misc.proofs.Bounds.{front_bytes, behind-bytes}
use Rattle.packets.specs.Key.{Key}
use Rattle.previous_gtids_event.specs.Entry.{Entry}
use Rattle.gtid_sets.specs.Set.{has}
use Rattle.gtid_sets.specs.Limits.{longest_set}
use Rattle.gtid_sets.specs.Lent.{form, lent_set}
use Rattle.gtid_sets.proofs.LentLaws.{is-lent, lent-short}
use Rattle.resume_set_laws.specs.History.{among}
use Rattle.binlog.specs.Format.{trailer}
use Rattle.binlog.specs.Place.{Place, opening, heading, inside, passing, whole, ended, stopped, next}
use Rattle.binlog.specs.Run.{Done, did, fails, at, Word, chunk, end, end_of, answered, settled, hear}
use Rattle.binlog.specs.Held.{held_at}
use Rattle.binlog.proofs.RunLaws.{hear-append, stays-stopped}
use Rattle.binlog_reader.specs.Does.{Judged, does}
use Rattle.binlog_reader.specs.Step.{SetRun}
use Rattle.binlog_laws.specs.Files.{ids_of, read_in, start_of, our_files, OfBytes, FilesAgain}
use Rattle.binlog_laws.proofs.OneEvent.{event-grows, stays-member}
use Rattle.binlog_laws.proofs.EventAgain.{event-again}
use Rattle.binlog_laws.proofs.Throughout.{AllOf, ok-next, ok_end, Fine, throughout}
use Rattle.binlog_laws.proofs.Tells.{bytes-kind, all-bytes, file-holds}
use Rattle.binlog_laws.proofs.SameRun.{Same, same, same-hear, same_read}

-- ---- what is kept only grows

record Grown (s : List Entry) (kept : List ℕ) (js : List Judged) : Type 0 where
  now : List Entry
  lent : lent_set kept ≡ form now
  has_all : (k : Key) (n : ℕ) → has s k n ≡ true → has now k n ≡ true

grown-turn : (room : ℕ) (s : List Entry) (kept : List ℕ) (js : List Judged) (type : ℕ) (body : List ℕ) (j : Judged) (next : List ℕ) → Bytes body
    → Grown s kept js → does room kept type body ≡ did j next → Grown s next (js ++ j ∷ [])
grown-turn room s kept js type body j next ok h e =
    let g = event-grows room kept h.now type body j next h.lent ok e in
    record { now = g.grown; lent = g.lent; has_all = λ k n i. stays-member h.now (ids_of j) next g k n (h.has_all k n i) }

read-grown : (room t : ℕ) (s : List Entry) (r : SetRun) → Fine Bytes bytes-kind room t (Grown s) (grown-turn room s) r → Grown s (read_in r).set []
read-grown room t s (at p kept js) h = record { now = h.1.now; lent = h.1.lent; has_all = h.1.has_all }

run-grown : (room t : ℕ) (p : Place) (kept : List ℕ) (s : List Entry) (js : List Judged) (ws : List Word) → Bytes (held_at p) → lent_set kept ≡ form s
    → AllOf Bytes ws → Grown s (read_in (hear (does room) t (at p kept js) ws)).set []
run-grown room t p kept s js ws held lent ok =
    read-grown room t s (hear (does room) t (at p kept js) ws)
    (throughout Bytes bytes-kind room t (Grown s) (grown-turn room s) (at p kept js) ws ok (held, record { now = s; lent = lent; has_all = λ k n i. i }))

-- ---- the second run

form-same : (a b : List Entry) → form a ≡ form b → a ≡ b
form-same a b e = cc

module _ (room t : ℕ) (mid : List ℕ) (l : List Entry) (saved : lent_set mid ≡ form l) (fits : length mid ≤ room) where
  -- over these words: where a run ends with the saved set, one that has the saved set before ends likewise
  abbrev Repeats : List Word → Type 0
  Repeats ws = (p : Place) (kept : List ℕ) (s : List Entry) (js ks : List Judged) → Bytes (held_at p) → lent_set kept ≡ form s
      → (read_in (hear (does room) t (at p kept js) ws)).set ≡ mid → Same (hear (does room) t (at p kept js) ws) (hear (does room) t (at p mid ks) ws)

  module _ (ws : List Word) (ok : AllOf Bytes ws) (onward : Repeats ws) where
    -- at an event
    repeats-answered : (type : ℕ) (body kept : List ℕ) (s : List Entry) (js ks : List Judged) (d : Done (List ℕ) Judged) → Bytes body → lent_set kept ≡ form s
        → does room kept type body ≡ d → (read_in (hear (does room) t (answered kept js d) ws)).set ≡ mid
        → Same (hear (does room) t (answered kept js d) ws) (hear (does room) t (answered mid ks (does room mid type body)) ws)
    repeats-answered type body kept s js ks (did j next) held lent e ends =
        let g = event-grows room kept s type body j next lent held e in
        let later : Grown g.grown mid [] = rw ends at (run-grown room t (heading []) next g.grown (js ++ j ∷ []) ws bytes-kind.none g.lent ok) in
        let now : later.now ≡ l = form-same later.now l (sym later.lent ∙ saved) in
        let those : (k : Key) (n : ℕ) → among (ids_of j) k n ≡ true → has l k n ≡ true =
        λ k n i. rw (← now) (later.has_all k n (g.members k n ∙ rw i (or-true (has s k n)))) in
        let (j', a) = event-again room kept s type body j next mid l lent e saved fits those in
        rw a (onward (heading []) next g.grown (js ++ j ∷ []) (ks ++ j' ∷ []) bytes-kind.none g.lent ends)
    repeats-answered type body kept s js ks (fails r n) held lent e ends =
        let there : kept ≡ mid = sym (ap (λ (x : SetRun). (read_in x).set) (stays-stopped (does room) t r n kept js ws)) ∙ ends in
        let again : does room mid type body ≡ fails r n = ap (λ (x : List ℕ). does room x type body) (sym there) ∙ e in
        rw again (onward (stopped r n) kept s js ks bytes-kind.none lent ends)

    repeats-settled : (p : Place) (kept : List ℕ) (s : List Entry) (js ks : List Judged) → Bytes (held_at p) → lent_set kept ≡ form s
        → (read_in (hear (does room) t (settled (does room) t p kept js) ws)).set ≡ mid
        → Same (hear (does room) t (settled (does room) t p kept js) ws) (hear (does room) t (settled (does room) t p mid ks) ws)
    repeats-settled (opening n) kept s js ks held lent ends = onward (opening n) kept s js ks held lent ends
    repeats-settled (heading came) kept s js ks held lent ends = onward (heading came) kept s js ks held lent ends
    repeats-settled (inside type n came) kept s js ks held lent ends = onward (inside type n came) kept s js ks held lent ends
    repeats-settled (passing n) kept s js ks held lent ends = onward (passing n) kept s js ks held lent ends
    repeats-settled (whole type body) kept s js ks held lent ends = repeats-answered type body kept s js ks (does room kept type body) held lent refl ends
    repeats-settled ended kept s js ks held lent ends = onward ended kept s js ks held lent ends
    repeats-settled (stopped r n) kept s js ks held lent ends = onward (stopped r n) kept s js ks held lent ends

  repeats-chunk : (bs : List ℕ) (ws : List Word) → Bytes bs → AllOf Bytes ws → Repeats ws → Repeats (chunk bs ∷ ws)
  repeats-chunk [] ws held ok onward p kept s js ks is lent ends = onward p kept s js ks is lent ends
  repeats-chunk (b ∷ bs) ws held ok onward p kept s js ks is lent ends =
      let rest = behind-bytes (b ∷ []) bs held in
      repeats-settled (chunk bs ∷ ws) (rest, ok) (repeats-chunk bs ws rest ok onward) (next t p b) kept s js ks
      (ok-next Bytes bytes-kind t p b is (front_bytes (b ∷ []) bs held)) lent ends

  repeats : (ws : List Word) → AllOf Bytes ws → Repeats ws
  repeats [] ok p kept s js ks is lent ends = rw ends same
  repeats (chunk bs ∷ ws) ok p kept s js ks is lent ends = repeats-chunk bs ws ok.0 ok.1 (repeats ws ok.1) p kept s js ks is lent ends
  repeats (end ∷ ws) ok p kept s js ks is lent ends = repeats ws ok (end_of p) kept s js ks (ok_end Bytes bytes-kind p is) lent ends

-- ---- all of it

bytes-before : (us ws : List Word) → OfBytes (us ++ ws) → OfBytes us
bytes-before [] ws h = tt
bytes-before (chunk bs ∷ us) ws h = (h.0, bytes-before us ws h.1)
bytes-before (end ∷ us) ws h = bytes-before us ws h

module _ (room : ℕ) (enough : longest_set ≤ room) (set : List ℕ) (s : List Entry) (checksums : Bool) (before behind : List Word)
    (lent : lent_set set ≡ form s) (ok : OfBytes before) where
  abbrev t : ℕ
  t = trailer checksums

  abbrev mid : List ℕ
  mid = (our_files room set checksums before).set

  begins : (bs : List ℕ) (u : List Entry) → lent_set bs ≡ form u → start_of bs ≡ at (opening 0) bs []
  begins bs u h = rw h

  runs_same : (l : List Entry) → lent_set mid ≡ form l
      → Same (hear (does room) t (start_of set) (before ++ behind)) (hear (does room) t (start_of mid) (before ++ behind))
  runs_same l saved =
      let short = lent-short mid l saved in
      let first : start_of set ≡ at (opening 0) set [] = begins set s lent in
      let second : start_of mid ≡ at (opening 0) mid [] = begins mid l saved in
      let ends : (read_in (hear (does room) t (at (opening 0) set []) before)).set ≡ mid =
      ap (λ (x : SetRun). (read_in (hear (does room) t x before)).set) (sym first) in
      let upto = repeats room t mid l saved (omega arith) before (all-bytes before ok) (opening 0) set s [] [] bytes-kind.none lent ends in
      let all = same-hear room t _ _ behind upto in
      rw (first, second, hear-append (does room) t (at (opening 0) set []) before behind, hear-append (does room) t (at (opening 0) mid []) before behind) all

  again-in : ((our_files room mid checksums (before ++ behind)).set ≡ (our_files room set checksums (before ++ behind)).set)
      × ((our_files room mid checksums (before ++ behind)).said ≡ (our_files room set checksums (before ++ behind)).said)
  again-in =
      let h = file-holds room set s checksums before lent ok in
      same_read (hear (does room) t (start_of set) (before ++ behind)) (hear (does room) t (start_of mid) (before ++ behind)) (runs_same h.now h.lent)

-- with room for the longest set
pub files-again-with : (room : ℕ) → longest_set ≤ room → FilesAgain (our_files room)
files-again-with room enough set s checksums before behind laid ok =
    again-in room enough set s checksums before behind (is-lent set s laid) (bytes-before before behind ok)

pub files-again : FilesAgain (our_files longest_set)
files-again = files-again-with longest_set (omega arith)
