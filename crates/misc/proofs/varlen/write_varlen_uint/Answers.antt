-- `misc::varlen::write_varlen_uint` meets its contract.
-- Assumes nothing.
use Rattle.misc.proofs.VarlenLaws.{size-range, size_holds, length-varlen_bytes, one_shifted, encoded-is, bytes-short, bytes-nine}
use Rattle.misc.proofs.OutputLaws.{written-cons, output-fits, output-short}
use Rattle.misc.specs.Varlen.{varlen_size, varlen_bytes}
use Rattle.misc.specs.Le.{le_bytes}
use lib.Pow.{pow_pos}
use lib.ListN.{length, length-set}
use native.Mathlib.Omega.{arith}
use Prim.Native.Nat.{ℕ, ◌-◌, ◌≤◌, ◌<◌, ◌^◌, ◌*◌}
use mathlib.Core.Path.{◌≡◌, sym, ◌∙◌}
use Rattle.misc.proofs.Clauses.{both}
use Rattle.misc.proofs.varlen.write_varlen_uint.Goals as goal

-- the length is the shortest size
sized : (v n : ℕ) → n ≡ length (varlen_bytes v) → n ≡ varlen_size v
sized v n e = e ∙ length-varlen_bytes v

-- what the shorter forms have: a size from 1 to 8 that holds the value
narrow : (v n : ℕ) → n ≡ varlen_size v → (n ≡ 9 → ⊥) → (1 ≤ n) × (n ≤ 8) × (v < 2 ^ (7 * n))
narrow v n e ne =
    let r = size-range v in
    let below : n < 9 = omega (arith, ne) in
    (omega arith, omega arith, rw e (size_holds v (omega arith)))

pub returns-then-out-num_bytes : goal.returns-then-out-num_bytes
returns-then-out-num_bytes c = both (output-short _ _ _ c.varlen_uint_size-num_bytes.ensures.0 c.if-out-num_bytes.true)

pub scatter-requires : goal.scatter-requires
scatter-requires c = simp length-set (omega arith)

pub shape_of-out-then-num_bytes-eq9 : goal.shape_of-out-then-num_bytes-eq9
shape_of-out-then-num_bytes-eq9 c = c.scatter.auto.out ∙ simp length-set

pub returns-then-num_bytes-eq9 : goal.returns-then-num_bytes-eq9
returns-then-num_bytes-eq9 c = both (let a = c.args in
    let nine : varlen_size a.value ≡ 9 = sym (sized a.value c.varlen_uint_size-num_bytes.result c.varlen_uint_size-num_bytes.ensures.0)
    ∙ c.if-num_bytes-eq9.true in
    output-fits (omega arith)
    (record {
      holds = c.scatter.ensures
          ∙ rw (bytes-nine a.value nine) (written-cons a.out.now 0 255 (le_bytes 8 a.value));
      ends = omega arith;
    }))

pub overflow_sub-trailer : goal.overflow_sub-trailer
overflow_sub-trailer c = let v = c.args.value in
    omega (arith, size-range v, sized v c.varlen_uint_size-num_bytes.result c.varlen_uint_size-num_bytes.ensures.0)

pub overflow_sub-trailer-2 : goal.overflow_sub-trailer-2
overflow_sub-trailer-2 c = let v = c.args.value in
    let short = narrow v c.varlen_uint_size-num_bytes.result (sized v c.varlen_uint_size-num_bytes.result c.varlen_uint_size-num_bytes.ensures.0)
    c.if-num_bytes-eq9.false in
    omega (arith, one_shifted v c.varlen_uint_size-num_bytes.result short.0 short.1 short.2, pow_pos (c.varlen_uint_size-num_bytes.result - 1))

pub returns : goal.returns
returns c = both (let a = c.args in
    let size = sized a.value c.varlen_uint_size-num_bytes.result c.varlen_uint_size-num_bytes.ensures.0 in
    let short = narrow a.value c.varlen_uint_size-num_bytes.result size c.if-num_bytes-eq9.false in
    output-fits (omega arith)
    (record {
      holds =
          rw (
            bytes-short a.value c.varlen_uint_size-num_bytes.result size (omega arith),
            ← encoded-is a.value
                c.varlen_uint_size-num_bytes.result short.0 short.1 short.2,
          )
          c.scatter-2.ensures;
      ends = omega arith;
    }))
