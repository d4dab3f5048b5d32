-- Laws of bytes as records keep them (`specs/Kept.antt`).
use mathlib.Core.Path.{◌≡◌, ap, ◌∙◌}
use mathlib.Core.List.{List, append-nil}
use Prim.Native.Nat.{min, ℕ, zero, suc, ◌-◌, ◌≤◌}
use native.Mathlib.Nat.{suc-sub-suc}
use native.Mathlib.Omega.{arith}
use lib.ListN.{length, take, drop, replicate, length-take, length-replicate}
use Rattle.std.proofs.lemmas.List.{take_min}
use lib.Seq.{take_all}
use borrow.Author.Tests.{le-leb}
use Rattle.misc.specs.Output.{bytes, output_of}
use Rattle.packets.specs.Kept.{padded, kept}

drop-replicate : (n w : ℕ) → drop {A = ℕ} n (replicate w 0) ≡ replicate (w - n) 0
drop-replicate zero w = let e : w - 0 ≡ w = omega arith in rw e
drop-replicate (suc n) zero = let e : 0 - suc n ≡ 0 = omega arith in rw e
drop-replicate (suc n) (suc w) = rw suc-sub-suc (drop-replicate n w)

-- they are what is in a field of zeros once they are written to it
pub kept-written : (w : ℕ) (s : List ℕ) (len : ℕ) → len ≡ min (length s) w → output_of (replicate w 0) (bytes (take len s)) ≡ kept w s
unfolding output_of padded
kept-written w s len h =
    let same : take len s ≡ take w s = let m : len ≡ min w (length s) = omega arith in rw (m, take_min) in
    let fits : length (take w s) ≤ length (replicate {A = ℕ} w 0) = rw (length-take, length-replicate) (omega arith) in
    rw (same, le-leb _ _ fits, drop-replicate)

-- as many bytes as are kept are kept as they are
pub kept_full : (w : ℕ) (s : List ℕ) → length (take w s) ≡ w → kept w s ≡ take w s
unfolding padded
kept_full w s h = let none : w - length (take w s) ≡ 0 = omega arith in rw none (append-nil (take w s))

pub kept_whole : (w : ℕ) (s : List ℕ) → length s ≡ w → kept w s ≡ s
kept_whole w s h =
    let all : take w s ≡ s = take_all w s (omega arith) in
    kept_full w s (ap length all ∙ h) ∙ all
