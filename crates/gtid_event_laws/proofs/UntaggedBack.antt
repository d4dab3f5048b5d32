-- An untagged record that can be written reads back equal, from exactly its bytes.
use mathlib.Core.Path.{◌≡◌, refl, sym, ap, ◌∙◌}
use mathlib.Core.Bool.{true, false}
use mathlib.Core.List.{List, [], ◌∷◌, ◌++◌, append_assoc, append-nil}
use Prim.Native.Nat.{ℕ, suc, ◌+◌, ◌-◌, ◌*◌, ◌^◌, ◌<◌, ◌≤◌}
use native.Mathlib.Nat.{pow-suc, zero-add}
use native.Mathlib.Numerals.{add-one}
use native.Mathlib.Omega.{arith}
use lib.Dec.{eqb, leb-suc-suc}
use lib.ListN.{length, length-append}
use borrow.Author.Tests.{eqb-true, lt-ltb, le-leb}
use Rattle.misc.specs.Pick.{pick}
use Rattle.misc.specs.Parse.{Parse, parsed}
use Rattle.misc.specs.Le.{le_bytes}
use Rattle.misc.specs.Lenenc.{lenenc_bytes, lenenc_at}
use Rattle.misc.proofs.LeLaws.{length-le_bytes, pow-bytes}
use Rattle.misc.proofs.LenencLaws.{size-1, size-3, size-4, size-9}
use Rattle.misc.proofs.ParseLaws.{split as order}
use Rattle.misc.proofs.MarkLaws.{top-bit-clear, top-bit-set}
use Rattle.packets.proofs.Tests.{split}
use Rattle.gtid_event.specs.Event.{undefined_version, tagged}
use Rattle.gtid_event.specs.declared.GtidEvent.{GtidEvent}
use Rattle.gtid_event.proofs.BuiltLaws.{same-event}
use Rattle.gtid_event_read.specs.Untagged.{Pair, pair, pair_at, timestamps_at, length_at, versions_at, opened, opening_at}
use Rattle.gtid_event_read.specs.Untagged.{clocked, clock_at, typecode_at, untagged}
use Rattle.gtid_event_read.specs.Untagged.{if_left}
use Rattle.gtid_event_write.specs.Writable.{writable}
use Rattle.gtid_event_write.specs.Layout.{pair_bytes, opening_bytes, later_bytes, untagged_bytes}
use Rattle.gtid_event.specs.Fits.{Fits}
use Rattle.gtid_event_laws.proofs.Stands.{Stands, at_front, each, stands-within, bytes-stand, byte-stands, first-stands, le-stands, lenenc-stands}
use Rattle.gtid_event_write.proofs.Within.{Within, ◌plus◌}
use Rattle.gtid_event_laws.proofs.WritableLaws.{LaterAbsent, Later, UntaggedFacts, there, absent, untagged-facts}

-- a part that may be absent is read where its bytes stand
if-left : {A : Type 0} (n : ℕ) (none : A) (item : Parse A) {bs s : List ℕ} {at : ℕ} → n ≤ length bs → Stands bs s at → if_left n s at none item ≡ item
if-left n none item {bs} {s} {at} some st =
    let inside = stands-within st in
    rw (le-leb n (length s - at) (omega arith))

-- a length-encoded integer has a byte at least, and nine at most
lenenc-within : (v : ℕ) → Within (lenenc_bytes v) 1 9
lenenc-within v =
    order 251 v
    (λ h₁. order (2 ^ 16) v
    (λ h₂. order (2 ^ 24) v (λ h₃. few 9 (size-9 v h₃) (omega arith) (omega arith)) (λ h₃. few 4 (size-4 v h₂ h₃) (omega arith) (omega arith)))
    (λ h₂. few 3 (size-3 v h₁ h₂) (omega arith) (omega arith)))
    (λ h₁. few 1 (size-1 v h₁) (omega arith) (omega arith))
  where
    few : (n : ℕ) → length (lenenc_bytes v) ≡ n → 1 ≤ n → n ≤ 9 → Within (lenenc_bytes v) 1 9
    few n is some most = record { least = omega arith; most = omega arith }

-- ---- an immediate number and its original
module _ (w k immediate original : ℕ) (bits : 8 * w ≡ k + 1) (below : immediate < 2 ^ k) (fits : original < 256 ^ w) where
  width : 256 ^ w ≡ 2 ^ k * 2
  width = rw (pow-bytes w, bits, add-one, pow-suc)

  -- equal: the immediate number alone
  pair-alone : {s : List ℕ} {at : ℕ} → immediate ≡ original → Stands (le_bytes w immediate) s at
      → pair_at w s at ≡ parsed (pair immediate original) (at + length (le_bytes w immediate))
  unfolding pair_at
  pair-alone {s} {at} same st =
      let top : 8 * w - 1 ≡ k = omega arith in
      let room = width in
      rw (le-stands w immediate (omega arith) st, top, (top-bit-clear k immediate below).0, same)

  -- both, the immediate number marked
  pair-marked : {s : List ℕ} {at : ℕ} → Stands (le_bytes w (immediate + 2 ^ k) ++ le_bytes w original) s at
      → pair_at w s at ≡ parsed (pair immediate original) (at + length (le_bytes w (immediate + 2 ^ k) ++ le_bytes w original))
  unfolding pair_at
  pair-marked {s} {at} st =
      let top : 8 * w - 1 ≡ k = omega arith in
      let room = width in
      let marked = top-bit-set k (immediate + 2 ^ k) (omega arith) (rw (add-one, pow-suc) (omega arith)) in
      let cleared : immediate + 2 ^ k - 2 ^ k ≡ immediate = omega arith in
      let (first, (second, _)) = each (le_bytes w (immediate + 2 ^ k) ∷ le_bytes w original ∷ []) st (simp append-nil) in
      rw (le-stands w (immediate + 2 ^ k) (omega arith) first, top, marked.0, le-stands w original fits second, marked.1, cleared)
      (ap (parsed (pair immediate original)) (simp length-append (omega arith)))

  pair-stands : {s : List ℕ} {at : ℕ} → Stands (pair_bytes w (2 ^ k) immediate original) s at
      → pair_at w s at ≡ parsed (pair immediate original) (at + length (pair_bytes w (2 ^ k) immediate original))
  pair-stands {s} {at} =
      split (eqb immediate original)
      (λ same. rw same (pair-alone (eqb-true immediate original same)))
      (λ other. rw other pair-marked)

  -- it has w bytes at least
  pair-some : w ≤ length (pair_bytes w (2 ^ k) immediate original)
  pair-some =
      split (eqb immediate original)
      (λ same. rw same (omega (arith, length-le_bytes w immediate)))
      (λ other. rw (other, length-append) (omega (arith, length-le_bytes w (immediate + 2 ^ k))))

  -- so it is read where it may be absent
  pair-there : (none : Pair) {s : List ℕ} {at : ℕ} → Stands (pair_bytes w (2 ^ k) immediate original) s at
      → if_left w s at none (pair_at w s at) ≡ parsed (pair immediate original) (at + length (pair_bytes w (2 ^ k) immediate original))
  pair-there none {s} {at} st = if-left w none (pair_at w s at) pair-some st ∙ pair-stands st

-- ---- the other parts

lenenc-there : (v : ℕ) → v < 2 ^ 64 → {s : List ℕ} {at : ℕ} → Stands (lenenc_bytes v) s at → length_at s at ≡ parsed v (at + length (lenenc_bytes v))
unfolding length_at
lenenc-there v fits {s} {at} st = if-left 1 0 (lenenc_at s at) (lenenc-within v).least st ∙ lenenc-stands v fits st

typecode-stands : {s : List ℕ} {at : ℕ} → Stands (2 ∷ []) s at → typecode_at s at ≡ true
typecode-stands {s} {at} st =
    let inside = stands-within st in
    rw (first-stands 2 st, lt-ltb at (length s) (omega arith))

-- ---- flags, uuid, gno
module _ (e : GtidEvent) (fits : Fits e) where
  opening-stands : {s : List ℕ} {at : ℕ} → Stands (opening_bytes e) s at
      → opening_at s at ≡ parsed (opened e.flags e.sid e.gno) (at + length (opening_bytes e))
  unfolding opening_at opening_bytes
  opening-stands {s} {at} st =
      let (flags, (sid, (gno, _))) = each ((e.flags ∷ []) ∷ e.sid ∷ le_bytes 8 e.gno ∷ []) st (simp (append_assoc, append-nil)) in
      let size = fits.sid_size in
      let wide = fits.gno_fits in
      rw (byte-stands e.flags flags, bytes-stand sid 16 (omega arith), le-stands 8 e.gno (omega arith) gno)
      (ap (parsed (opened e.flags e.sid e.gno)) (simp length-append (omega arith)))

  -- ---- the typecode and what follows it
  module _ (facts : UntaggedFacts e) where
    abbrev timestamps : List ℕ
    timestamps = pair_bytes 7 (2 ^ 55) e.immediate_commit_timestamp e.original_commit_timestamp

    abbrev versions : List ℕ
    versions = pair_bytes 4 (2 ^ 31) e.immediate_server_version e.original_server_version

    -- all that follows the typecode, read into a record
    abbrev within : GtidEvent → GtidEvent
    within opening =
        clocked opening e.last_committed e.sequence_number
        (pair e.immediate_commit_timestamp e.original_commit_timestamp) e.tx_length
        (pair e.immediate_server_version e.original_server_version)

    clock-stands : (opening : GtidEvent) {s : List ℕ} {at : ℕ} → Stands (later_bytes e) s at
        → (typecode_at s at ≡ true) × (clock_at s opening (at + 1) ≡ parsed (within opening) (at + length (later_bytes e)))
    unfolding clock_at timestamps_at versions_at later_bytes
    clock-stands opening {s} {at} st =
        let (code, (last, (sequence, (times, (len, (version, _)))))) =
        each
        ((2 ∷ []) ∷ le_bytes 8 e.last_committed ∷ le_bytes 8 e.sequence_number ∷ timestamps ∷ lenenc_bytes e.tx_length ∷ versions ∷ [])
        st (simp (append_assoc, append-nil)) in
        let last_fits = fits.last_fits in
        let sequence_fits = fits.sequence_fits in
        let original_fits = facts.tests.original in
        let original_version_fits = fits.original_version_fits in (
          typecode-stands code,
          rw (
            le-stands 8 e.last_committed (omega arith) last,
            le-stands 8 e.sequence_number (omega arith) sequence,
            pair-there 7 55 e.immediate_commit_timestamp e.original_commit_timestamp refl facts.tests.time (omega arith)
                (pair 0 0) times,
            lenenc-there e.tx_length fits.length_fits len,
            pair-there 4 31 e.immediate_server_version e.original_server_version refl facts.tests.version (omega arith)
                (pair undefined_version undefined_version) version,
          )
              (ap (parsed (within opening)) (simp length-append (omega arith))),
        )

-- ---- how many bytes they are

byte-within : (b : ℕ) → Within (b ∷ []) 1 1
byte-within b = record { least = omega arith; most = omega arith }

le-within : (n v : ℕ) → Within (le_bytes n v) n n
le-within n v = record { least = rw length-le_bytes (omega arith); most = rw length-le_bytes (omega arith) }

pair-within : (w mark immediate original : ℕ) → Within (pair_bytes w mark immediate original) w (w + w)
pair-within w mark immediate original =
    split (eqb immediate original)
    (λ same. rw same (record { least = (le-within w immediate).least; most = rw length-le_bytes (omega arith) }))
    (λ other.
    let both = le-within w (immediate + mark) plus le-within w original in
    rw other (record { least = omega (arith, both.least); most = both.most }))

module _ (e : GtidEvent) (fits : Fits e) where
  opening-within : Within (opening_bytes e) 25 25
  unfolding opening_bytes
  opening-within =
      let size = fits.sid_size in
      let uuid : Within e.sid 16 16 = record { least = omega arith; most = omega arith } in
      byte-within e.flags plus uuid plus le-within 8 _

  later-within : Within (later_bytes e) 29 48
  unfolding later_bytes
  later-within =
      byte-within 2 plus le-within 8 _ plus le-within 8 _
      plus pair-within 7 (2 ^ 55) e.immediate_commit_timestamp e.original_commit_timestamp
      plus lenenc-within e.tx_length
      plus pair-within 4 (2 ^ 31) e.immediate_server_version e.original_server_version

  pub untagged-within : Within (untagged_bytes e) 25 73
  unfolding untagged_bytes
  untagged-within = opening-within plus later
    where
      later : Within (pick (eqb e.lc_typecode 0) [] (later_bytes e)) 0 48
      later =
          split (eqb e.lc_typecode 0) (λ none. rw none (record { least = omega arith; most = omega arith }))
          (λ code. rw code (record { least = omega arith; most = later-within.most }))

-- ---- the whole

-- whether the typecode stands behind bytes is decided by what follows them
typecode-behind : (bs rest : List ℕ) → typecode_at (bs ++ rest) (length bs) ≡ typecode_at rest 0
typecode-behind [] rest = refl
typecode-behind (b ∷ bs) rest = rw (leb-suc-suc (suc (length bs)) (length (bs ++ rest))) (typecode-behind bs rest)

module _ (e : GtidEvent) (fits : Fits e) (facts : UntaggedFacts e) where
  -- without a typecode
  opened-is : LaterAbsent e → opened e.flags e.sid e.gno ≡ e
  opened-is none =
      same-event _ e refl refl refl facts.no_tag (sym facts.no-tag-len) (sym none.no_typecode) (sym none.no_last) (sym none.no-sequence)
      (sym none.no-immediate) (sym none.no-original) (sym none.no_length) (sym none.no-version) (sym none.no-original-version)
      (sym facts.tests.ticket)

  -- with it
  clocked-is : e.lc_typecode ≡ 2 → within e fits facts (opened e.flags e.sid e.gno) ≡ e
  clocked-is two =
      same-event _ e refl refl refl facts.no_tag (sym facts.no-tag-len) (sym two) refl refl refl refl refl refl refl (sym facts.tests.ticket)

-- the bytes, by the typecode
bytes-with : (e : GtidEvent) (typecode : ℕ) → e.lc_typecode ≡ typecode
    → untagged_bytes e ≡ opening_bytes e ++ pick (eqb typecode 0) [] (later_bytes e)
unfolding untagged_bytes
bytes-with e typecode is = ap (λ (n : ℕ). opening_bytes e ++ pick (eqb n 0) [] (later_bytes e)) is

-- Written, it reads back equal, and its bytes are those used, whatever follows them; but a byte 2 that follows a record without a
-- typecode would be taken for the typecode.
pub untagged-back : (e : GtidEvent) → Fits e → writable e ≡ true → tagged e ≡ false
    → (rest : List ℕ) → (e.lc_typecode ≡ 0 → typecode_at rest 0 ≡ false)
    → untagged (untagged_bytes e ++ rest) ≡ parsed e (length (untagged_bytes e))
unfolding untagged
untagged-back e fits w is rest free = go facts.later
  where
    facts : UntaggedFacts e
    facts = untagged-facts e fits w is

    go : Later e → untagged (untagged_bytes e ++ rest) ≡ parsed e (length (untagged_bytes e))
    go (absent none) =
        rw (
          bytes-with e 0 none.no_typecode,
          append-nil (opening_bytes e),
          opening-stands e fits (at_front (opening_bytes e) rest),
          zero-add,
          typecode-behind (opening_bytes e) rest,
          free none.no_typecode,
          opened-is e fits facts none,
        )
    go (there two) =
        let (opening, (later, _)) = each (opening_bytes e ∷ later_bytes e ∷ []) (at_front (opening_bytes e ++ later_bytes e) rest) (simp append-nil) in
        let (code, clock) = clock-stands e fits facts (opened e.flags e.sid e.gno) later in
        rw (bytes-with e 2 two, opening-stands e fits opening, code, clock, clocked-is e fits facts two)
        (ap (parsed e) (simp length-append (omega arith)))
