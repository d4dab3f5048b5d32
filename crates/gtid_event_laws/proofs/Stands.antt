-- Bytes that stand at a place of others, and what reading there gives.
use mathlib.Core.Path.{◌≡◌, refl, ◌∙◌}
use mathlib.Core.List.{List, [], ◌∷◌, ◌++◌, append_assoc}
use Prim.Native.Nat.{ℕ, ◌+◌, ◌^◌, ◌<◌, ◌≤◌}
use native.Mathlib.Omega.{arith}
use lib.ListN.{length, get_or, length-append}
use lib.Seq.{drop-append_seam, get_or-append_seam}
use Rattle.misc.specs.Parse.{parsed, bytes_at, byte_at}
use Rattle.misc.specs.Le.{le_bytes, le_at}
use Rattle.misc.specs.Varlen.{varlen_bytes, varlen_at}
use Rattle.misc.specs.Lenenc.{lenenc_bytes, lenenc_at}
use Rattle.misc.proofs.ParseLaws.{bytes-here, byte-here}
use Rattle.misc.proofs.LeLaws.{length-le_bytes}
use Rattle.misc.proofs.Places.{From, from-room, from-part}
use Rattle.misc.proofs.RoundTrip.{le-written, varlen-written, lenenc-written}

-- bs stand in s, from a place on
pub record Stands (bs s : List ℕ) (at : ℕ) : Type 0 where
  pub before : List ℕ
  pub after : List ℕ
  pub whole : s ≡ before ++ bs ++ after
  pub place : at ≡ length before

-- at the front
pub at_front : (bs rest : List ℕ) → Stands bs (bs ++ rest) 0
at_front bs rest = record { before = []; after = rest; whole = refl; place = refl }

-- ---- parts

-- parts one after another
abbrev pub joined : List (List ℕ) → List ℕ
joined [] = []
joined (p ∷ ps) = p ++ joined ps

-- each of them stands where the one before it ends
abbrev pub Each : List (List ℕ) → List ℕ → ℕ → Type 0
Each [] s at = Stands [] s at
Each (p ∷ ps) s at = Stands p s at × Each ps s (at + length p)

each-joined : (ps : List (List ℕ)) {s : List ℕ} {at : ℕ} → Stands (joined ps) s at → Each ps s at
each-joined [] st = st
each-joined (p ∷ ps) {s} {at} st = (
  record { before = st.before; after = joined ps ++ st.after; whole = st.whole ∙ simp append_assoc; place = st.place },
  each-joined ps
      (record {
        before = st.before ++ p;
        after = st.after;
        whole = st.whole ∙ simp append_assoc;
        place = rw (length-append, ← st.place);
      }),
)

-- bytes that are these parts
pub each : (ps : List (List ℕ)) {bs s : List ℕ} {at : ℕ} → Stands bs s at → bs ≡ joined ps → Each ps s at
each ps st e = each-joined ps (rw e at st)

-- ---- reading
module _ {bs s : List ℕ} {at : ℕ} (st : Stands bs s at) where
  pub stands_from : From s at (bs ++ st.after)
  stands_from = record {
    is = rw (st.whole, st.place, append_assoc) (drop-append_seam st.before (bs ++ st.after));
    inside = rw (st.whole, st.place) (simp length-append (omega arith));
  }

  pub stands-within : at + length bs ≤ length s
  stands-within = from-room s at bs st.after stands_from

  pub bytes-stand : (n : ℕ) → n ≡ length bs → bytes_at n s at ≡ parsed bs (at + length bs)
  bytes-stand n e =
      let within = stands-within in
      bytes-here n s at (omega arith) ∙ rw (from-part s at bs st.after stands_from n e, e)

module _ {s : List ℕ} {at : ℕ} where
  pub first-stands : (b : ℕ) → Stands (b ∷ []) s at → get_or s at 0 ≡ b
  first-stands b st = rw (st.whole, st.place, append_assoc) (get_or-append_seam st.before b st.after 0)

  pub byte-stands : (b : ℕ) → Stands (b ∷ []) s at → byte_at s at ≡ parsed b (at + 1)
  byte-stands b st =
      let within = stands-within st in
      byte-here s at (omega arith) ∙ rw (first-stands b st)

  pub le-stands : (n v : ℕ) → v < 256 ^ n → Stands (le_bytes n v) s at → le_at n s at ≡ parsed v (at + length (le_bytes n v))
  le-stands n v h st = rw (st.whole, st.place, length-le_bytes) (le-written st.before st.after n v h)

  pub varlen-stands : (v : ℕ) → v < 2 ^ 64 → Stands (varlen_bytes v) s at → varlen_at s at ≡ parsed v (at + length (varlen_bytes v))
  varlen-stands v h st = rw (st.whole, st.place) (varlen-written st.before st.after v h)

  pub lenenc-stands : (v : ℕ) → v < 2 ^ 64 → Stands (lenenc_bytes v) s at → lenenc_at s at ≡ parsed v (at + length (lenenc_bytes v))
  lenenc-stands v h st = rw (st.whole, st.place) (lenenc-written st.before st.after v h)
