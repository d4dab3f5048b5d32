use Prim.Native.Nat.{ℕ, suc, ◌+◌, ◌<◌}
use mathlib.Core.Path.{◌≡◌, refl, sym, ap, ◌∙◌}
use mathlib.Core.List.{List, ◌++◌, append_assoc, append-nil}
use native.Mathlib.Numerals.{add-one}
use native.Mathlib.Nat.{add-zero}
use native.Mathlib.Omega.{arith}
use lib.ListN.{length, take, get_or, set, length-set}
use lib.Seq.{take-suc, take-suc-set, take_all}
use Rattle.std.proofs.lemmas.Slice.{take-put_mid}
use Rattle.binlog.proofs.fill.Goals as goal

-- a turn: the byte at i goes to have + i
fill-turn : (bytes w w₀ : List ℕ) (have i : ℕ) → i < length bytes → have + i < length w
    → take (have + i) w ≡ take have w₀ ++ take i bytes
    → take (have + (i + 1)) (set w (have + i) (get_or bytes i 0)) ≡ take have w₀ ++ take (i + 1) bytes
fill-turn bytes w w₀ have i a h e =
    let one : have + (i + 1) ≡ suc (have + i) = omega arith in
    rw (one, take-suc-set w (have + i) (get_or bytes i 0) h, e, add-one i, take-suc bytes i 0 a, append_assoc)

-- a whole header
pub returns-then-bytes-eq-HEADER : goal.returns-then-bytes-eq-HEADER
returns-then-bytes-eq-HEADER c = let a = c.args in
    let all : c.copy_from_slice.new.self ≡ a.bytes.now = c.copy_from_slice.ensures.after ∙ take_all 19 a.bytes.now (omega arith) in
    rw all (take-put_mid a.have _ a.work.now a.bytes.now _ refl (omega arith))

pub loop-i-init : goal.loop-i-init
loop-i-init c = (refl, rw add-zero (sym (append-nil (take c.args.have c.args.work.now))))

pub loop-i-preserved : goal.loop-i-preserved
loop-i-preserved c = let w = c.loop-i in
    let a = c.args in
    (simp length-set w.invariant.0, fill-turn a.bytes.now w.work a.work.now a.have w.i (omega arith) (omega arith) w.invariant.1)

pub returns : goal.returns
returns c = let w = c.loop-i in
    let a = c.args in
    let done : w.i ≡ length a.bytes.now = omega arith in
    let all : take (length a.bytes.now) a.bytes.now ≡ a.bytes.now = take_all (length a.bytes.now) a.bytes.now (omega arith) in
    rw done at w.invariant.1 ∙ ap (λ (t : List ℕ). take a.have a.work.now ++ t) all
