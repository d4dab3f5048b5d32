-- What is wrong with an untagged event by the layouts is what it is refused for, and the reverse.
use Prim.Native.Nat.{ℕ, suc, ◌+◌, ◌-◌, ◌*◌, ◌^◌, ◌≤◌, ◌<◌}
use mathlib.Core.Path.{◌≡◌, refl, sym, ap, subst, ◌∙◌}
use mathlib.Core.Bool.{true}
use mathlib.Core.List.{List, [], ◌∷◌, ◌++◌}
use native.Mathlib.Omega.{arith}
use lib.Dec.{eqb, ltb}
use lib.ListN.{length, drop, get_or, length-drop}
use lib.Seq.{drop-cons}
use borrow.Author.Tests.{ltb-true, lt-ltb, eq-eqb, eqb-true}
use Rattle.misc.specs.Pick.{pick}
use Rattle.misc.specs.Parse.{Bytes, parsed, part}
use Rattle.misc.specs.Le.{le_of}
use Rattle.misc.specs.Mark.{has_bit, clear_bit}
use Rattle.misc.specs.Forms.{Number}
use Rattle.misc.proofs.ParseLaws.{part_length}
use Rattle.misc.proofs.LeLaws.{le-here, pow-bytes}
use Rattle.misc.proofs.Bounds.{le_below}
use Rattle.misc.proofs.Places.{From, from-size, from-room, from_next, from-part, from_first, part-from, Found}
use Rattle.packets.proofs.Tests as tests
use Rattle.packets.proofs.Tests.{and-true}
use Rattle.gtid_event_read.specs.Untagged.{Pair, pair, timestamps_at}
use Rattle.promises.proofs.Stops.{Item, plain, lenenc, Ends, Later, Untagged, UntaggedStop}
use Rattle.promises.specs.UntaggedLayout.{PairIfLeft, LengthIfLeft}
use Rattle.promises.specs.Faults.{CutLenenc, UntaggedFault}
use Rattle.promises.proofs.UntaggedReads.{marked, left-reads, length-reads}
use Rattle.promises.proofs.UntaggedAccepted.{typecode, marked-is, left-found, length_found}
use Rattle.promises.proofs.UntaggedForced.{timestamps-forward, length-forward}

-- ---- what is wrong is refused

module _ (s : List ℕ) where
  -- the typecode, behind 25 bytes
  typecode-there : (front rest : List ℕ) → s ≡ front ++ (2 ∷ rest) → length front ≡ 25 → Later s × From s 26 rest
  typecode-there front rest whole size =
      let zeroth : From s 0 (front ++ (2 ∷ rest)) = record { is = whole; inside = omega arith } in
      let first : From s 25 (2 ∷ rest) = rw size at (from_next s 0 front (2 ∷ rest) zeroth) in
      let (two, inside) = from_first s 25 2 rest first in
      (rw (lt-ltb 25 (length s) inside, eq-eqb (get_or s 25 0) 2 two), from_next s 25 (2 ∷ []) rest first)

  clock-there : (front clock rest : List ℕ) → s ≡ front ++ (2 ∷ (clock ++ rest)) → length front ≡ 25 → length clock ≡ 16 → Later s × From s 42 rest
  clock-there front clock rest whole size sixteen =
      let (later, behind) = typecode-there front (clock ++ rest) whole size in
      (later, rw sixteen at (from_next s 26 clock rest behind))

  -- an immediate number whose highest bit is set
  marked-there : (w at v : ℕ) (bs rest : List ℕ) → Number w (v + 2 ^ (8 * w - 1)) bs → v < 2 ^ (8 * w - 1) → From s at (bs ++ rest)
      → has_bit (8 * w - 1) (le_of (part s at w)) ≡ true
  marked-there w at v bs rest n small h =
      let these : part s at w ≡ bs = from-part s at bs rest h w (sym n.long) in
      rw (these, n.spells) (marked w v small).0

  times-read : (i o : ℕ) (times rest : List ℕ) → PairIfLeft 7 0 i o times rest → From s 42 (times ++ rest)
      → timestamps_at s 42 ≡ parsed (pair i o) (42 + length times)
  unfolding timestamps_at
  times-read i o times rest p h = left-reads s 7 0 42 i o times rest p h

  pub lenenc-cut : (at : ℕ) (l : List ℕ) → CutLenenc l → From s at l → (at < length s) × Ends lenenc s at
  lenenc-cut at l (CutLenenc.led_by_fc more few) h =
      let (lead, inside) = from_first s at 0xFC more h in
      (inside, rw lead (omega (arith, from-size s at (0xFC ∷ more) h)))
  lenenc-cut at l (CutLenenc.led_by_fd more few) h =
      let (lead, inside) = from_first s at 0xFD more h in
      (inside, rw lead (omega (arith, from-size s at (0xFD ∷ more) h)))
  lenenc-cut at l (CutLenenc.led_by_fe more few) h =
      let (lead, inside) = from_first s at 0xFE more h in
      (inside, rw lead (omega (arith, from-size s at (0xFE ∷ more) h)))

pub untagged-stop : (s : List ℕ) (n : ℕ) → UntaggedFault s n → UntaggedStop s n
untagged-stop s n (UntaggedFault.cut_opening t few) = UntaggedStop.cut 17 (plain 8) Untagged.gno few
untagged-stop s n (UntaggedFault.cut_clock front rest size few) =
    let (later, behind) = typecode-there s front rest refl size in
    UntaggedStop.cut 34 (plain 8) (Untagged.sequence_number later) (omega (arith, from-size s 26 rest behind))
untagged-stop s n (UntaggedFault.cut_timestamp v front clock bs rest size sixteen number small few) =
    let (later, behind) = clock-there s front clock (bs ++ rest) refl size sixteen in
    let next = from_next s 42 bs rest behind in
    let seven = number.long in
    UntaggedStop.cut 49 (plain 7)
    (Untagged.original_timestamp later (omega (arith, from-room s 42 bs rest behind)) (marked-there s 7 42 v bs rest number small behind))
    (omega (arith, from-size s (42 + length bs) rest next))
untagged-stop s n (UntaggedFault.cut_length {i = i} {o = o} front clock times rest size sixteen pairs cut) =
    let (later, behind) = clock-there s front clock (times ++ rest) refl size sixteen in
    let next = from_next s 42 times rest behind in
    let (inside, over) = lenenc-cut s (42 + length times) rest cut next in
    UntaggedStop.cut (42 + length times) lenenc
    (Untagged.transaction_length (record { later = later; passed = (pair i o, times-read s i o times rest pairs behind) }) inside) over
untagged-stop s n (UntaggedFault.cut_version {i = i} {o = o} {len = len} v front clock times len_bytes bs rest size sixteen pairs length-is number small few) =
    let (later, behind) = clock-there s front clock (times ++ (len_bytes ++ (bs ++ rest))) refl size sixteen in
    let second = from_next s 42 times (len_bytes ++ (bs ++ rest)) behind in
    let at = 42 + length times in
    let third = from_next s at len_bytes (bs ++ rest) second in
    let to = at + length len_bytes in
    let last = from_next s to bs rest third in
    let four = number.long in
    UntaggedStop.cut (to + 4) (plain 4)
    (Untagged.original_version
    (record {
      from = at;
      before = record { later = later; passed = (pair i o, times-read s i o times (len_bytes ++ (bs ++ rest)) pairs behind) };
      passed = (len, length-reads s at len len_bytes (bs ++ rest) length-is second);
    })
    (omega (arith, from-room s to bs rest third)) (marked-there s 4 to v bs rest number small third))
    (omega (arith, from-size s (to + length bs) rest last))
untagged-stop s n (UntaggedFault.bad_lead {i = i} {o = o} lead front clock times rest size sixteen pairs bad) =
    let (later, behind) = clock-there s front clock (times ++ (lead ∷ rest)) refl size sixteen in
    let next = from_next s 42 times (lead ∷ rest) behind in
    let (first, inside) = from_first s (42 + length times) lead rest next in
    UntaggedStop.lead (42 + length times) (record { later = later; passed = (pair i o, times-read s i o times (lead ∷ rest) pairs behind) }) inside
    (rw first bad)

-- ---- what is refused is wrong

module _ (s : List ℕ) (are : Bytes s) where
  module _ (later : Later s) where
    opening : 25 < length s
    opening = ltb-true 25 (length s) (and-true (ltb 25 (length s)) (eqb (get_or s 25 0) 2) later).0

    -- 25 bytes, the typecode, and the rest
    with_typecode : s ≡ part s 0 25 ++ (2 ∷ drop 26 s)
    with_typecode = part-from s 0 25 ∙ ap (λ (l : List ℕ). part s 0 25 ++ l) (typecode s 25 later)

    front-size : length (part s 0 25) ≡ 25
    front-size = let h = opening in part_length 25 s 0 (omega arith)

    -- and with both numbers
    with-clock : s ≡ part s 0 25 ++ (2 ∷ (part s 26 16 ++ drop 42 s))
    with-clock = with_typecode ∙ ap (λ (l : List ℕ). part s 0 25 ++ (2 ∷ l)) (part-from s 26 16)

    clock-size : 42 ≤ length s → length (part s 26 16) ≡ 16
    clock-size h = part_length 16 s 26 h

    short-clock : length s < 42 → UntaggedFault s 1
    short-clock over =
        let h = opening in
        let few : length (drop 26 s) < 16 = rw length-drop (omega arith) in
        subst (λ (l : List ℕ). UntaggedFault l 1) (sym with_typecode) (UntaggedFault.cut_clock (part s 0 25) (drop 26 s) front-size few)

    module _ (enough : 42 ≤ length s) (at : ℕ) (times : List ℕ) (is : drop 42 s ≡ times ++ drop at s) where
      with-times : s ≡ part s 0 25 ++ (2 ∷ (part s 26 16 ++ (times ++ drop at s)))
      with-times = with-clock ∙ ap (λ (l : List ℕ). part s 0 25 ++ (2 ∷ (part s 26 16 ++ l))) is

  -- a number of w bytes whose highest bit is set, and what is behind it
  marked-number : (w at : ℕ) → 1 ≤ w → at + w ≤ length s → has_bit (8 * w - 1) (le_of (part s at w)) ≡ true
      → (v : ℕ) × Number w (v + 2 ^ (8 * w - 1)) (part s at w) × (v < 2 ^ (8 * w - 1))
  marked-number w at some here bit =
      let x = le_of (part s at w) in
      let below : x < 2 ^ (8 * w) = rw (pow-bytes w) at (le_below s are w at (le-here w s at here)) in
      let (sum, small) = marked-is s are w some x below bit in
      (clear_bit (8 * w - 1) x, record { long = part_length w s at here; spells = sum }, small)

  pub cut-lenenc : (at : ℕ) → at < length s → Ends lenenc s at → CutLenenc (drop at s)
  cut-lenenc at inside h = rw (drop-cons s at 0 inside) (go (get_or s at 0) h)
    where
      size : length (drop (suc at) s) ≡ length s - suc at
      size = length-drop (suc at) s

      go : (b : ℕ) → length s < at + (1 + pick (eqb b 0xFC) 2 (pick (eqb b 0xFD) 3 (pick (eqb b 0xFE) 8 0)))
          → CutLenenc (b ∷ drop (suc at) s)
      go b over =
          tests.split (eqb b 0xFC)
          (λ c. let o : length s < at + (1 + 2) = rw c at over in rw (eqb-true b 0xFC c) (CutLenenc.led_by_fc (drop (suc at) s) (omega (arith, size)))) (λ c.
          tests.split (eqb b 0xFD)
          (λ d. let o : length s < at + (1 + 3) = rw (c, d) at over in rw (eqb-true b 0xFD d) (CutLenenc.led_by_fd (drop (suc at) s) (omega (arith, size))))
          (λ d.
          tests.split (eqb b 0xFE)
          (λ f. let o : length s < at + (1 + 8) = rw (c, d, f) at over in rw (eqb-true b 0xFE f) (CutLenenc.led_by_fe (drop (suc at) s) (omega (arith, size))))
          (λ f.
          let o : length s < at + (1 + 0) = rw (c, d, f) at over in absurd (omega arith))))

  -- the timestamps that were passed
  times-found : (p : Pair) (at : ℕ) → 42 ≤ length s → timestamps_at s 42 ≡ parsed p at
      → (i : ℕ) × (o : ℕ) × Found (λ bs. PairIfLeft 7 0 i o bs (drop at s)) s 42 at
  unfolding timestamps_at
  times-found (pair i o) at enough read = (i, o, left-found s are 7 (omega arith) 0 42 i o at enough read)

  untagged-cut : (at : ℕ) (i : Item) → Untagged s at i → Ends i s at → UntaggedFault s 1
  untagged-cut at i Untagged.flags over = UntaggedFault.cut_opening s (omega arith)
  untagged-cut at i Untagged.uuid_bytes over = UntaggedFault.cut_opening s (omega arith)
  untagged-cut at i Untagged.gno over = UntaggedFault.cut_opening s over
  untagged-cut at i (Untagged.last_committed later) over = short-clock later (omega arith)
  untagged-cut at i (Untagged.sequence_number later) over = short-clock later over
  untagged-cut at i (Untagged.original_timestamp later here bit) over =
      let (v, number, small) = marked-number 7 42 (omega arith) here bit in
      let few : length (drop 49 s) < 7 = rw length-drop (omega arith) in
      subst (λ (l : List ℕ). UntaggedFault l 1)
      (sym (with-times later (omega arith) 49 (part s 42 7) (part-from s 42 7)))
      (UntaggedFault.cut_timestamp v (part s 0 25) (part s 26 16) (part s 42 7) (drop 49 s) (front-size later) (clock-size later (omega arith)) number small few)
  untagged-cut at i (Untagged.transaction_length {at = to} before inside) over =
      let (p, passed) = before.passed in
      let enough : 42 ≤ length s = omega (arith, timestamps-forward s 42 passed) in
      let (j, o, times) = times-found p to enough passed in
      subst (λ (l : List ℕ). UntaggedFault l 1) (sym (with-times before.later enough to times.bytes times.is))
      (UntaggedFault.cut_length (part s 0 25) (part s 26 16) times.bytes (drop to s) (front-size before.later) (clock-size before.later enough)
      times.holds
      (cut-lenenc to inside over))
  untagged-cut at i (Untagged.original_version {at = to} before here bit) over =
      let from = before.from in
      let later = before.before.later in
      let (p, passed) = before.before.passed in
      let (len, sized) = before.passed in
      let first = timestamps-forward s 42 passed in
      let second = length-forward s from sized in
      let enough : 42 ≤ length s = omega arith in
      let (j, o, times) = times-found p from enough passed in
      let size = length_found s from len to times.inside sized in
      let (v, number, small) = marked-number 4 to (omega arith) here bit in
      let few : length (drop (to + 4) s) < 4 = rw length-drop (omega arith) in
      go from later enough j o times len size v number small few
    where
      go : (from : ℕ) (later : Later s) → 42 ≤ length s → (j o : ℕ) (times : Found (λ bs. PairIfLeft 7 0 j o bs (drop from s)) s 42 from) (len : ℕ)
          (size : Found (λ bs. LengthIfLeft len bs (drop to s)) s from to) (v : ℕ) → Number 4 (v + 2 ^ 31) (part s to 4) → v < 2 ^ 31
          → length (drop (to + 4) s) < 4 → UntaggedFault s 1
      go from later enough j o times len size v number small few =
          let behind : drop to s ≡ part s to 4 ++ drop (to + 4) s = part-from s to 4 in
          let all : drop from s ≡ size.bytes ++ (part s to 4 ++ drop (to + 4) s) = size.is ∙ ap (λ (l : List ℕ). size.bytes ++ l) behind in
          let pairs : PairIfLeft 7 0 j o times.bytes (size.bytes ++ (part s to 4 ++ drop (to + 4) s)) =
          subst (λ (l : List ℕ). PairIfLeft 7 0 j o times.bytes l) all times.holds in
          let length-is : LengthIfLeft len size.bytes (part s to 4 ++ drop (to + 4) s) =
          subst (λ (l : List ℕ). LengthIfLeft len size.bytes l) behind size.holds in
          subst (λ (l : List ℕ). UntaggedFault l 1)
          (sym (with-times later enough from times.bytes times.is ∙ ap (λ (l : List ℕ). part s 0 25 ++ (2 ∷ (part s 26 16 ++ (times.bytes ++ l)))) all))
          (UntaggedFault.cut_version v (part s 0 25) (part s 26 16) times.bytes size.bytes (part s to 4) (drop (to + 4) s) (front-size later)
          (clock-size later enough)
          pairs length-is number small few)

  pub untagged-faulty : {n : ℕ} → UntaggedStop s n → UntaggedFault s n
  untagged-faulty (UntaggedStop.cut at i wanted over) = untagged-cut at i wanted over
  untagged-faulty (UntaggedStop.lead at before inside bad) =
      let later = before.later in
      let (p, passed) = before.passed in
      let enough : 42 ≤ length s = omega (arith, timestamps-forward s 42 passed) in
      let (j, o, times) = times-found p at enough passed in
      let cons : drop at s ≡ get_or s at 0 ∷ drop (suc at) s = drop-cons s at 0 inside in
      let pairs : PairIfLeft 7 0 j o times.bytes (get_or s at 0 ∷ drop (suc at) s) =
      subst (λ (l : List ℕ). PairIfLeft 7 0 j o times.bytes l) cons times.holds in
      subst (λ (l : List ℕ). UntaggedFault l 10)
      (sym (with-times later enough at times.bytes times.is ∙ ap (λ (l : List ℕ). part s 0 25 ++ (2 ∷ (part s 26 16 ++ (times.bytes ++ l)))) cons))
      (UntaggedFault.bad_lead (get_or s at 0) (part s 0 25) (part s 26 16) times.bytes (drop (suc at) s) (front-size later) (clock-size later enough) pairs bad)
